-- `properties_judge::durability` meets its contract: entries that agree with canonical ones of enough copies are durable, and else property 6 is
-- asked. Assumes nothing.
use borrow.Author.Rules.{rules}
use native.Mathlib.Omega.{arith}
use mathlib.Core.Path.{sym}
use Rattle.properties_snapshots.specs.Snapshots.{cluster_at}
use Rattle.properties_snapshots.proofs.Held.{commit_held, last_held}
use Rattle.properties_durability.specs.Durability.{durable}
use Rattle.properties_judge.proofs.Laws.{entry_passed, entries_pass}
use Rattle.properties_judge.specs.Ticks.{PrefixAgreement, Durability, asked, over_entries}
use Rattle.properties_judge.proofs.durability.Goals as goal

pub returns-then-all_durable : goal.returns-then-all_durable
returns-then-all_durable c = let a = c.args.advance.now in
    let s = a.snapshot in
    let k = cluster_at a in
    sym (entries_pass Durability k (λ r i h b g.
    c.all_durable.ensures c.if-all_durable.true r i h
    (omega (arith, b, last_held s.n s.plants.now s.logs.now a.tracker.now r h))
    (omega (arith, g, commit_held s.n s.plants.now s.logs.now a.tracker.now r h))
    r h g (entry_passed PrefixAgreement k c.requires r i h b g)))

pub returns : goal.returns
unfolding over_entries durable
returns c = let a = c.args.advance.now in
    let needed = sym (c.needed_copies-needed.ensures a.snapshot.logs.now a.tracker.now) in
    c.entries.ensures (asked Durability (cluster_at a)) (λ r i b h k e. rw needed (search rules))

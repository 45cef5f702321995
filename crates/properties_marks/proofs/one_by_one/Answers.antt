-- `properties_marks::one_by_one` meets its contract: each new entry was asked. Assumes nothing.
use Rattle.std.proofs.Common.{rules, tests, arith, ◌≡◌, ◌-◌, refl, true, ℕ}
use Rattle.std.proofs.lemmas.Iterator.{YieldsList-from_range, cases_from_all}
use Rattle.properties_snapshots.specs.Snapshots.{cluster_at}
use Rattle.properties_snapshots.proofs.Below.{all_yes}
use Rattle.properties_snapshots.proofs.Held.{commit_held, last_held}
use Rattle.properties_duplicates.specs.Duplicates.{unseen}
use Rattle.properties_marks.proofs.one_by_one.Goals as goal

pub returns : goal.returns
returns c = λ e i g h.
    let a = c.args.advance.now in
    let s = a.snapshot in
    let from = c.last_of.result in
    let to = c.commit_of.result in
    let Yes : ℕ → Type 0 = λ i. unseen (cluster_at a) c.args.r i ≡ true in
    let No : ℕ → Type 0 = λ i. Unit {0} in
    let l = last_held s.n s.plants.now s.logs.now a.tracker.now c.args.r c.requires in
    let k = commit_held s.n s.plants.now s.logs.now a.tracker.now c.args.r c.requires in
    all_yes Yes _ c.all.result from (to - from)
    (cases_from_all _ _ c.all.result Yes No c.all.ensures.ran (YieldsList-from_range from to _ refl refl) (λ x q k. search (rules, tests)) (λ x q k. tt)) e i
    (omega (arith, c.last_of.ensures.last)) (omega (arith, c.commit_of.ensures.commit))

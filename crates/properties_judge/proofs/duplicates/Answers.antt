-- `properties_judge::duplicates` meets its contract: where no new id was seen property 4 passes, and else it is asked. Assumes nothing.
use borrow.Author.Rules.{rules}
use mathlib.Core.Path.{sym}
use Rattle.properties_snapshots.specs.Snapshots.{cluster_at}
use Rattle.properties_judge.proofs.Laws.{entries_pass}
use Rattle.properties_judge.specs.Ticks.{NoDuplicates, asked, over_entries}
use Rattle.properties_judge.proofs.duplicates.Goals as goal

pub returns-then-none_seen : goal.returns-then-none_seen
returns-then-none_seen c =
    sym (entries_pass NoDuplicates (cluster_at c.args.advance.now) (λ r i h. c.none_seen.ensures c.if-none_seen.true r h i))

pub returns : goal.returns
unfolding over_entries
returns c = c.entries.ensures (asked NoDuplicates (cluster_at c.args.advance.now)) (λ r i b h k e. search rules)

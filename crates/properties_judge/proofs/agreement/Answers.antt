-- `properties_judge::agreement` meets its contract: each entry is asked what property 3 asks. Assumes nothing.
use borrow.Author.Rules.{rules}
use Rattle.properties_snapshots.specs.Snapshots.{cluster_at}
use Rattle.properties_judge.specs.Ticks.{PrefixAgreement, asked, over_entries}
use Rattle.properties_judge.proofs.agreement.Goals as goal

pub returns : goal.returns
unfolding over_entries
returns c = c.entries.ensures (asked PrefixAgreement (cluster_at c.args.advance.now)) (λ r i b h k e. search rules)

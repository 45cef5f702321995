-- `properties_marks::none_seen` meets its contract: each plant was asked. Assumes nothing.
use Rattle.std.proofs.Common.{rules, tests, arith, refl, ℕ}
use Rattle.std.proofs.lemmas.Iterator.{YieldsList-from_range, cases_from_all}
use Rattle.properties_snapshots.specs.Snapshots.{cluster_at}
use Rattle.properties_snapshots.proofs.Below.{all_yes}
use Rattle.properties_marks.specs.Marks.{NoneSeen}
use Rattle.properties_marks.proofs.none_seen.Goals as goal

pub returns : goal.returns
returns c = λ e r h.
    let a = c.args.advance.now in
    let n = a.snapshot.n in
    let Yes : ℕ → Type 0 = NoneSeen (cluster_at a) in
    let No : ℕ → Type 0 = λ r. Unit {0} in
    all_yes Yes _ c.all.result 0 n
    (cases_from_all _ _ c.all.result Yes No c.all.ensures.ran (YieldsList-from_range 0 n n refl (omega arith)) (λ x q k. search (rules, tests)) (λ x q k. tt)) e r (omega arith) (omega arith)

-- `properties_quick::all_still` meets its contract: each plant was asked. Assumes nothing.
use Rattle.std.proofs.Common.{rules, tests, arith, refl, ℕ}
use Rattle.std.proofs.lemmas.Iterator.{YieldsList-from_range, cases_from_all}
use Rattle.properties_snapshots.proofs.Below.{all_yes}
use Rattle.properties_quick.specs.Quick.{Still}
use Rattle.properties_quick.proofs.all_still.Goals as goal

pub returns : goal.returns
returns c = λ e r h.
    let a = c.args in
    let Yes : ℕ → Type 0 = Still a.plants.now a.tracker.now in
    let No : ℕ → Type 0 = λ r. Unit {0} in
    all_yes Yes _ c.all.result 0 a.n
    (cases_from_all _ _ c.all.result Yes No c.all.ensures.ran (YieldsList-from_range 0 a.n a.n refl (omega arith)) (λ x q k. search (rules, tests)) (λ x q k. tt)) e r (omega arith) (omega arith)

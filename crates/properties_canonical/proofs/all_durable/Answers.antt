-- `properties_canonical::all_durable` meets its contract: what is newly committed lies between the lowest and the highest. Assumes nothing.
use Rattle.std.proofs.Common.{rules, tests, arith, refl, ◌-◌, ℕ}
use Rattle.std.proofs.lemmas.Iterator.{YieldsList-from_range, cases_from_all}
use Rattle.properties_snapshots.specs.Snapshots.{cluster_at}
use Rattle.properties_snapshots.proofs.Below.{all_yes}
use Rattle.properties_canonical.specs.Canonical.{DurableAt}
use Rattle.properties_canonical.proofs.all_durable.Goals as goal

pub returns : goal.returns
returns c = λ e r i h g k.
    let a = c.args.advance.now in
    let low = c.span-low.result.0 in
    let high = c.span-low.result.1 in
    let Yes : ℕ → Type 0 = DurableAt (cluster_at a) in
    let No : ℕ → Type 0 = λ i. Unit {0} in
    let z = c.span-low.ensures.reached r h (omega arith) in
    all_yes Yes _ c.all.result low (high - low)
    (cases_from_all _ _ c.all.result Yes No c.all.ensures.ran (YieldsList-from_range low high _ refl refl) (λ x q k. search (rules, tests)) (λ x q k. tt)) e i
    (omega arith) (omega arith)

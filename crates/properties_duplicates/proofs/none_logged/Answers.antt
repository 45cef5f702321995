-- `properties_duplicates::none_logged` meets its contract: the test of all indexes in a row. Assumes nothing.
use Rattle.std.proofs.Common.{rules, tests, not, ℕ, Bool, eqb, get_or, refl, ◌∙◌}
use Rattle.std.proofs.lemmas.Iterator.{YieldsList-from_range}
use Rattle.std.proofs.lemmas.Iterator.Search.{all_from_yields_List}
use Rattle.properties_snapshots.specs.Layout.{id_at, entry_at}
use Rattle.properties_snapshots.proofs.Below.{all_range_from}
use Rattle.properties_duplicates.proofs.none_logged.Goals as goal

pub returns : goal.returns
returns c =
    let a = c.args in
    let test : ℕ → Bool = λ j. not (eqb (get_or a.logs.now (id_at (entry_at a.r j)) 0) a.id) in
    all_from_yields_List test _ _ c.all.result c.all.ensures.ran (YieldsList-from_range a.from a.to _ refl refl) (λ x b q k. search (rules, tests)) ∙ all_range_from a.from _ test

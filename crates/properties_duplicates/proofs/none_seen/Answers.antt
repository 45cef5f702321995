-- `properties_duplicates::none_seen` meets its contract: the fold asks each id. Assumes nothing.
use Rattle.std.proofs.Common.{rules, tests, not, ◌&&◌, ℕ, Bool, true, eqb, ◌∙◌}
use Rattle.std.proofs.lemmas.List.{take_all}
use Rattle.std.proofs.lemmas.Iterator.{YieldsList-from_slice}
use Rattle.std.proofs.lemmas.Iterator.Consumers.{fold_from_yields_List}
use Rattle.properties_duplicates.proofs.Folded.{all_folded}
use Rattle.properties_duplicates.proofs.none_seen.Goals as goal

pub returns : goal.returns
returns c =
    let test : ℕ → Bool = λ x. not (eqb x c.args.id) in
    fold_from_yields_List _ (λ other x. other && test x) true c.fold.result c.fold.ensures.ran (YieldsList-from_slice c.args.ids.now (search (rules, take_all))) (λ a x b q k. search (rules, tests))
    ∙ all_folded test c.args.ids.now

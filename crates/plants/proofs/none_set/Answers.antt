-- `plants::none_set` meets its contract. Assumes nothing.
use Rattle.std.proofs.Common.{not, ◌∙◌, rules}
use Rattle.std.proofs.lemmas.Iterator.{YieldsList-from_slice}
use Rattle.std.proofs.lemmas.Iterator.Search.{all_from_yields_List}
use Rattle.plants.proofs.Testing.{none_by_all}
use Rattle.plants.proofs.none_set.Goals as goal

pub returns : goal.returns
returns c =
    all_from_yields_List not _ _ c.all.result c.all.ensures.ran (YieldsList-from_slice c.args.flags.now cc) (λ x b q k. search rules)
    ∙ none_by_all c.args.flags.now

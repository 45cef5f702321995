-- `plants_lineup::flags_fit` meets its contract. Assumes nothing.
use Rattle.std.proofs.Common.{◌∙◌, leb, rules}
use Rattle.std.proofs.lemmas.Iterator.{YieldsList-from_slice}
use Rattle.std.proofs.lemmas.Iterator.Search.{all_from_yields_List}
use borrow.Author.Tests.{tests}
use Rattle.plants_lineup.proofs.Walks.{fit_by_all}
use Rattle.plants_lineup.proofs.flags_fit.Goals as goal

pub returns : goal.returns
returns c =
    all_from_yields_List (λ f. leb f 1) _ _ c.all.result c.all.ensures.ran (YieldsList-from_slice c.args.flags.now cc) (λ x b q k. search (rules, tests))
    ∙ fit_by_all c.args.flags.now

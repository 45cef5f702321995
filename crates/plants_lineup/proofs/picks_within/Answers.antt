-- `plants_lineup::picks_within` meets its contract. Assumes nothing.
use Rattle.std.proofs.Common.{refl, ◌∙◌, ◌-◌, leb, get_or, arith, rules}
use Rattle.std.proofs.lemmas.Iterator.{YieldsList-from_range}
use Rattle.std.proofs.lemmas.Iterator.Search.{all_from_yields_List}
use borrow.Author.Tests.{tests}
use Rattle.plants_lineup.proofs.Walks.{within_by_all}
use Rattle.plants_lineup.proofs.picks_within.Goals as goal

pub returns : goal.returns
returns c =
    all_from_yields_List (λ at. leb (get_or c.args.picks.now at 0) (c.args.last - at)) _ _ c.all.result c.all.ensures.ran
    (YieldsList-from_range 0 c.args.last c.args.last refl (omega arith)) (λ x b q k. search (rules, tests))
    ∙ within_by_all c.args.picks.now c.args.last c.args.last 0 (omega arith)

-- `plants_layout::flags_fit` meets its contract. Assumes nothing.
use Rattle.std.proofs.Common.{ap, ◌∙◌, leb, bit_or, take, drop, rules}
use Rattle.std.proofs.lemmas.Iterator.{YieldsList-from_slice}
use Rattle.std.proofs.lemmas.Iterator.Consumers.{fold_from_yields_List}
use borrow.Author.Tests.{tests}
use Rattle.plants_layout.proofs.Walking.{gathers}
use Rattle.plants_layout.proofs.flags_fit.Goals as goal

pub returns : goal.returns
returns c =
    ap (λ g. leb g 1)
    (fold_from_yields_List _ bit_or 0 c.fold.result c.fold.ensures.ran (YieldsList-from_slice (take 30 (drop 1 c.args.words.now)) cc) (λ a x b q k. search (rules, tests)))
    ∙ gathers (take 30 (drop 1 c.args.words.now)) 0

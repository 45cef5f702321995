-- `plants_verdicts::none_past` meets its contract. Assumes nothing.
use Rattle.std.proofs.Common.{◌∙◌, ◌+◌, ◌-◌, not, eqb, take, drop, rules}
use Rattle.std.proofs.lemmas.Iterator.{YieldsList-from_slice}
use Rattle.std.proofs.lemmas.Iterator.Search.{all_from_yields_List}
use borrow.Author.Tests.{tests}
use Rattle.plants_verdicts.proofs.States.{unset_past}
use Rattle.plants_verdicts.proofs.none_past.Goals as goal

pub returns : goal.returns
returns c =
    all_from_yields_List (λ w. not (eqb w 1)) _ _ c.all.result c.all.ensures.ran
    (YieldsList-from_slice (take (c.args.at + 15 - (c.args.at + c.args.n)) (drop (c.args.at + c.args.n) c.args.words.now)) cc)
    (λ x b q k. search (rules, tests))
    ∙ unset_past c.args.words.now c.args.at c.args.n c.requires.1

-- `plants_words::verdict` meets its contract: an unknown sort, or the sender of its sort. Assumes nothing.
use Rattle.std.proofs.Common.{sym, ◌∙◌, arith}
use Rattle.plants.specs.Verdicts.{verdict_given}
use Rattle.plants_layout.specs.Layout.{plants_in}
use Rattle.plants_words.specs.Calls.{on_zero, judged_word}
use Rattle.plants_words.proofs.Answering.{kept, sort_over, sort_known}
use Rattle.plants_words.proofs.verdict.Goals as goal

pub returns-then-sort-gt1-clause-answer : goal.returns-then-sort-gt1-clause-answer
returns-then-sort-gt1-clause-answer c = let a = c.args in
    sym (sort_over a.words.now a.sort a.id a.to c.if-sort-gt1.true)

pub returns-then-sort-gt1-clause-told : goal.returns-then-sort-gt1-clause-told
returns-then-sort-gt1-clause-told c = let a = c.args in
    kept _ _ a.told.now (λ z. let e = sort_over a.words.now a.sort a.id a.to c.if-sort-gt1.true in omega arith)

pub returns-clause-answer : goal.returns-clause-answer
returns-clause-answer c = let a = c.args in
    c.number_of.ensures
    ∙ (c.verdict_known.ensures.answer ∙ sort_known a.words.now a.sort a.id a.to c.if-sort-gt1.false c.origin_of-from.result c.origin_of-from.ensures)

pub returns-clause-told : goal.returns-clause-told
returns-clause-told c = let a = c.args in
    let k = c.verdict_known.ensures.answer
    ∙ sort_known a.words.now a.sort a.id a.to c.if-sort-gt1.false c.origin_of-from.result c.origin_of-from.ensures in
    c.verdict_known.ensures.told
    ∙ (λ t. on_zero (k t) (judged_word (verdict_given (plants_in a.words.now) (c.origin_of-from.ensures t) a.to) a.told.now) a.told.now)

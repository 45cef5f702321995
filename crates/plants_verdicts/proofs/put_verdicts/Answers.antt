-- `plants_verdicts::put_verdicts` meets its contract: the verdicts told so far stand in front. Assumes nothing.
use Rattle.std.proofs.Common.{◌≡◌, ◌<◌, refl, sym, ◌∙◌, map, length, arith}
use Rattle.nights.specs.Record.{recs}
use Rattle.plants_layout.proofs.Writing.{one_more, all_over}
use Rattle.plants_verdicts.specs.Calls.{answer_on, told_on}
use Rattle.plants_verdicts.proofs.Each.{each_zero, at_place, as_many}
use Rattle.plants_verdicts.proofs.put_verdicts.Goals as goal

pub told_on-verdict-requires : goal.told_on-verdict-requires
told_on-verdict-requires c =
    let a = c.args in
    let n = length a.told.now in
    let i = c.loop-i.i in
    sym (at_place (answer_on a.words.now) a.records.now n i (omega arith))
    ∙ each_zero (map (answer_on a.words.now) (recs a.records.now 0 n)) _ i c.requires.1

pub loop-i-preserved : goal.loop-i-preserved
loop-i-preserved c =
    let a = c.args in
    let n = length a.told.now in
    let i = c.loop-i.i in
    let inside : i < n = omega arith in
    one_more a.told.now 0 (map (told_on a.words.now) (recs a.records.now 0 n)) i i _ 0 c.loop-i.told (omega arith)
    (c.number.ensures ∙ (c.told_on-verdict.ensures ∙ sym (at_place (told_on a.words.now) a.records.now n i inside)))
    (omega arith) (omega (arith, as_many (told_on a.words.now) a.records.now n)) c.loop-i.invariant

pub returns : goal.returns
returns c =
    let a = c.args in
    let n = length a.told.now in
    let z : c.loop-i.i ≡ n = omega arith in
    rw z at c.loop-i.invariant
    ∙ all_over a.told.now (map (told_on a.words.now) (recs a.records.now 0 n)) n (as_many (told_on a.words.now) a.records.now n) refl

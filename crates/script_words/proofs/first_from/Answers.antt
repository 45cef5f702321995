-- `script_words::first_from` meets its contract, by the walk to the first byte that the test stops at. Assumes nothing.
use Rattle.std.proofs.Common.{get_or, true, false, refl, sym, arith, rules}
use Rattle.script_words.proofs.Walk.{walk_on, walk_stops, walk_ends}
use Rattle.script_words.proofs.first_from.Goals as goal

pub loop-i-init : goal.loop-i-init
loop-i-init g c = λ stop s. (c.requires.within, refl)

pub returns-then-stops : goal.returns-then-stops
returns-then-stops g c = λ stop s.
    let a = c.args in
    let i = c.loop-i.i in
    walk_stops stop a.text.now a.from i c.loop-i-test.true (sym (s (get_or a.text.now i 0) true (search rules) c.if-stops.ensures)) (c.loop-i.invariant stop s)

pub loop-i-preserved : goal.loop-i-preserved
loop-i-preserved g c = λ stop s.
    let a = c.args in
    let i = c.loop-i.i in
    walk_on stop a.text.now a.from i c.loop-i-test.true (sym (s (get_or a.text.now i 0) false (search rules) c.if-stops.ensures)) (c.loop-i.invariant stop s)

pub returns : goal.returns
returns g c = λ stop s.
    let a = c.args in
    let w = c.loop-i.invariant stop s in
    omega (arith, walk_ends stop a.text.now a.from c.loop-i.i c.loop-i-test.false w)

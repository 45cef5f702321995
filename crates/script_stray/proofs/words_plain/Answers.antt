-- `script_stray::words_plain` meets its contract. Assumes nothing.
use Rattle.std.proofs.Common.{arith}
use Rattle.script_stray.proofs.Plain.{over, other}
use Rattle.script_stray.proofs.words_plain.Goals as goal

pub returns-then-byte-gt127 : goal.returns-then-byte-gt127
returns-then-byte-gt127 c = over _ _ c.in-Some.byte.now c.in-Some.more.now c.in-Some.ensures.cases.0 (omega arith) c.loop-byte.invariant

pub loop-byte-preserved : goal.loop-byte-preserved
loop-byte-preserved c = other _ _ c.in-Some.byte.now c.in-Some.more.now c.in-Some.ensures.cases.0 (omega arith) c.if-byte-eq-HASH.false c.loop-byte.invariant

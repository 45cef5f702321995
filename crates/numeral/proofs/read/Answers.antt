-- `numeral::read` meets its contract. The loop's invariant is the reading under way (Stopping): a number begins with the bytes read so
-- far, of the value at hand. The lemmas that the function names say the rest. Assumes nothing.
use native.Mathlib.Omega.{arith}
use Rattle.numeral.proofs.Stopping.{starts}
use Rattle.numeral.proofs.read.Goals as goal

pub loop-byte-init : goal.loop-byte-init
loop-byte-init c = starts c.args.word.now c.sign_bytes-from.result c.sign_bytes-from.ensures (omega arith)

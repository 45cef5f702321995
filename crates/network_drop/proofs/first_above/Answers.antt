-- `network_drop::first_above` meets its contract: each record passed over is numbered at most `last`. Assumes nothing.
use native.Mathlib.Omega.{arith}
use Rattle.network_drop.proofs.Keeping.{stay_start, stay_on}
use Rattle.network_drop.proofs.first_above.Goals as goal

pub loop-i-init : goal.loop-i-init
loop-i-init c = stay_start _ _

pub loop-i-preserved : goal.loop-i-preserved
loop-i-preserved c = let l = c.loop-i in stay_on _ _ l.i l.invariant (omega (arith, c.if-last-w.false))

-- `network_drop::keep_front` meets its contract: the walk of `Keeping`. Assumes nothing.
use mathlib.Core.Path.{◌≡◌}
use native.Mathlib.Omega.{arith}
use Rattle.network_drop.proofs.Keeping.{start, pass_over, move_up}
use Rattle.network_drop.proofs.keep_front.Goals as goal
use Rattle.network_drop.proofs.keep_front.Goals.{then-r-last, else-r-last}

pub loop-i-init : goal.loop-i-init
loop-i-init c = start _ _ _ (omega arith) c.requires.2

pub loop-i-preserved : goal.loop-i-preserved
loop-i-preserved c = let a = c.args in
    let l = c.loop-i in
    elim c.if-r-last.branch [
      | then-r-last w ↦ rw (w.w-is, w.m-is) (move_up a.w.now l.w a.last l.m l.i l.invariant _ c.record_at-r.ensures _ w.if-r-last.true w.put.ensures)
      | else-r-last w ↦ rw (w.w-is, w.m-is) (pass_over a.w.now l.w a.last l.m l.i l.invariant _ c.record_at-r.ensures w.if-r-last.false)
    ]

pub returns : goal.returns
returns c = let z : c.loop-i.i ≡ c.args.n = omega arith in record { count = rw z at c.loop-i.invariant.count; words = rw z at c.loop-i.invariant.front }

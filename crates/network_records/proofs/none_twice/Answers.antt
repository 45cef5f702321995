-- `network_records::none_twice` meets its contract: from the last record to the first, each number new or sought. Assumes nothing.
use Prim.Native.Nat.{◌+◌, ◌-◌}
use mathlib.Core.Path.{◌≡◌, sym, ◌∙◌}
use native.Mathlib.Omega.{arith}
use mathlib.Core.Bool.{Bool, false}
use lib.ListN.{length-replicate}
use Rattle.network_records.proofs.Numbers.{start, on_unmarked, on_sought, twice}
use Rattle.network_records.proofs.none_twice.Goals as goal
use Rattle.network_records.proofs.none_twice.Goals.{else-marks-m-via-then-marks-m+else-seq_among, else-marks-m-via-else-marks-m}

pub loop-i-init : goal.loop-i-init
loop-i-init c = start c.args.w.now c.args.n _ (length-replicate {A = Bool} 256 false)

pub returns-then-seq_among : goal.returns-then-seq_among
returns-then-seq_among c = let a = c.args in
    let l = c.loop-i in
    let z : l.i - 1 + 1 ≡ l.i = omega arith in
    twice a.w.now a.n l.marks l.i l.invariant (omega arith) (rw z at (sym c.seq_among.ensures ∙ c.if-seq_among.true))

pub loop-i-preserved : goal.loop-i-preserved
loop-i-preserved c = let a = c.args in
    let l = c.loop-i in
    let z : l.i - 1 + 1 ≡ l.i = omega arith in
    elim c.else-marks-m.branch [
      | else-marks-m-via-then-marks-m+else-seq_among u ↦ on_sought a.w.now a.n l.marks l.i l.invariant (omega arith) (rw z at (sym u.seq_among.ensures ∙ u.if-seq_among.false))
      | else-marks-m-via-else-marks-m u ↦ on_unmarked a.w.now a.n l.marks l.i l.invariant (omega arith) u.if-marks-m.false
    ]

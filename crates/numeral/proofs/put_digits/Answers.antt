-- `numeral::put_digits` meets its contract. The loop's invariant: the digits after place i stand already, and what is left of n are those
-- before it. Assumes nothing.
use native.Mathlib.Omega.{arith}
use mathlib.Core.Path.{◌≡◌, ap, ◌∙◌}
use Prim.Native.Nat.{ℕ, suc, ◌+◌, ◌-◌, ◌/◌, ◌%◌, ◌^◌}
use lib.ListN.{set}
use Rattle.numeral.proofs.Decimal.{shown_none, shown_more, divided}
use Rattle.numeral.proofs.put_digits.Goals as goal

pub loop-i-init : goal.loop-i-init
loop-i-init c =
    let s = c.args in
    let z : s.count - s.count ≡ 0 = omega arith in
    (omega arith, rw z (omega arith), shown_none s.out.now s.n s.place s.count)

pub loop-i-preserved : goal.loop-i-preserved
loop-i-preserved c =
    let s = c.args in
    let l = c.loop-i in
    let z : s.count - (l.i - 1) ≡ suc (s.count - l.i) = omega arith in
    let v : 48 + l.left % 10 ≡ 48 + s.n / 10 ^ (s.count - l.i) % 10 = ap (λ (x : ℕ). 48 + x % 10) l.invariant.1 in (
      omega arith,
      rw z (divided s.n l.left (s.count - l.i) l.invariant.1),
      ap (set l.out (s.place + (l.i - 1))) v
          ∙ shown_more s.out.now l.out s.n s.place s.count l.i (omega arith) l.invariant.0 c.requires l.invariant.2,
    )

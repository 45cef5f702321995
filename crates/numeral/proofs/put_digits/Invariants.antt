use mathlib.Core.Path.{◌≡◌}
use Prim.Native.Nat.{◌-◌, ◌/◌, ◌^◌, ◌≤◌}
use Rattle.numeral.proofs.Decimal.{shown}
use Rattle.numeral.proofs.put_digits.Given as goal

abbrev pub invariant-loop-i : goal.invariant-loop-i
invariant-loop-i l = (l.i ≤ l.count) × (l.left ≡ l.n / 10 ^ (l.count - l.i)) × (l.out ≡ shown l.fn.out l.n l.place l.count l.i)

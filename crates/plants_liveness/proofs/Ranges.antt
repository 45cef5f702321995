-- The parts of the picks as the code lends them. Assumes nothing.
use mathlib.Core.List.{List}
use mathlib.Core.Path.{◌≡◌}
use Prim.Native.Nat.{ℕ, ◌-◌}
use native.Mathlib.Omega.{arith}
use lib.ListN.{length, take, drop, length-drop}
use lib.Seq.{take_all}

-- all that stands behind the first k
pub rest : (l : List ℕ) (k : ℕ) → take (length l - k) (drop k l) ≡ drop k l
rest l k = take_all (length l - k) (drop k l) (omega (arith, length-drop k l))

-- Two tests that both hold, a number of plants by its tests, and a bool's number. Assumes nothing.
use borrow.Author.Tests.{le-leb, leb-true}
use mathlib.Core.Bool.{Bool, true, false, ◌&&◌}
use mathlib.Core.Path.{◌≡◌, refl}
use native.Mathlib.Omega.{arith}
use Prim.Native.Nat.{ℕ, ◌≤◌}
use lib.Dec.{leb}
use Rattle.basis.specs.Basis.{fewest, most, plant_count, bit}

pub both : (a b : Bool) → a && b ≡ true → (a ≡ true) × (b ≡ true)
both true b e = (refl, e)
both false b e = let z : ◌≡◌ {A = ℕ} 0 1 = cc in absurd (omega arith)

pub not_few : (n : ℕ) → fewest ≤ n → plant_count n ≡ leb n most
unfolding plant_count
not_few n h = rw (le-leb fewest n h)

pub between : (n : ℕ) → plant_count n ≡ true → (fewest ≤ n) × (n ≤ most)
unfolding plant_count
between n e =
    let h = both (leb fewest n) (leb n most) e in
    (leb-true _ _ h.0, leb-true _ _ h.1)

pub bit_le : (b : Bool) → bit b ≤ 1
bit_le true = omega arith
bit_le false = omega arith

-- A walk from a place to the first byte that a test stops at: one law for each of the loops that look for one. Assumes nothing.
use mathlib.Core.Bool.{Bool, true, false, cond}
use mathlib.Core.List.{List, [], ◌∷◌}
use mathlib.Core.Path.{◌≡◌}
use Prim.Native.Nat.{ℕ, suc, ◌+◌, ◌≤◌, ◌<◌}
use native.Mathlib.Omega.{arith}
use native.Mathlib.Numerals.{add-one}
use lib.ListN.{length, drop, get_or, length-drop, drop_of_length-le}
use lib.Seq.{drop-cons}
use Rattle.script_words.specs.Words.{until}

-- the walk's end seen from its start is its end seen from here
abbrev pub Walked : (ℕ → Bool) → List ℕ → ℕ → ℕ → Type 0
Walked stop l from i = (i ≤ length l) × (from + until stop (drop from l) ≡ i + until stop (drop i l))

module _ (stop : ℕ → Bool) (l : List ℕ) (from i : ℕ) where
  -- what is left at a place is its byte and what is left after it
  here : i < length l → drop i l ≡ get_or l i 0 ∷ drop (i + 1) l
  here h = rw add-one (drop-cons l i 0 h)

  pub walk_on : i < length l → stop (get_or l i 0) ≡ false → Walked stop l from i → Walked stop l from (i + 1)
  unfolding until
  walk_on h e w = let j = rw (here h, e) at w.1 in (omega arith, omega arith)

  pub walk_stops : i < length l → stop (get_or l i 0) ≡ true → Walked stop l from i → i ≡ from + until stop (drop from l)
  unfolding until
  walk_stops h e w = let j = rw (here h, e) at w.1 in omega arith

  pub walk_ends : length l ≤ i → Walked stop l from i → i ≡ from + until stop (drop from l)
  unfolding until
  walk_ends h w = let j = rw (drop_of_length-le l {i = i} h) at w.1 in omega arith

bound : (b : Bool) (k n : ℕ) → k ≤ n → cond b 0 (suc k) ≤ suc n
bound true k n h = omega arith
bound false k n h = omega arith

-- it never leaves the list
pub until_within : (stop : ℕ → Bool) (l : List ℕ) → until stop l ≤ length l
unfolding until
until_within stop [] = omega arith
until_within stop (b ∷ bs) = bound (stop b) (until stop bs) (length bs) (until_within stop bs)

pub until_in : (stop : ℕ → Bool) (l : List ℕ) (from : ℕ) → from ≤ length l → from + until stop (drop from l) ≤ length l
until_in stop l from h = omega (arith, until_within stop (drop from l), length-drop from l)

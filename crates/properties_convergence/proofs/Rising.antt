-- What is left of the core's ids at a place, from the least that may follow, as a loop passes them. Assumes nothing.
use borrow.Author.Tests.{lt-ltb, le-ltb, le-leb, lt-leb}
use native.Mathlib.Numerals.{add-one}
use mathlib.Core.Bool.{true, false}
use mathlib.Core.List.{List, ◌∷◌}
use mathlib.Core.Path.{◌≡◌}
use Prim.Native.Nat.{ℕ, ◌+◌, ◌≤◌, ◌<◌}
use lib.ListN.{length, get_or, drop, drop_of_length-le}
use lib.Seq.{drop-cons}
use Rattle.properties_convergence.specs.Core.{rises_below}

-- what is left at a place is its id and what is left after it
peel : (w : List ℕ) (k : ℕ) → k < length w → drop k w ≡ get_or w k 0 ∷ drop (k + 1) w
peel w k h = rw add-one (drop-cons w k 0 h)

module _ (n least k : ℕ) (w : List ℕ) (h : k < length w) where
  pub low : get_or w k 0 < least → rises_below n least (drop k w) ≡ false
  unfolding rises_below
  low l = rw (peel w k h, lt-leb least (get_or w k 0) l)

  pub high : least ≤ get_or w k 0 → n ≤ get_or w k 0 → rises_below n least (drop k w) ≡ false
  unfolding rises_below
  high l m = rw (peel w k h, le-leb least (get_or w k 0) l, le-ltb (get_or w k 0) n m)

  pub next : least ≤ get_or w k 0 → get_or w k 0 < n → rises_below n least (drop k w) ≡ rises_below n (get_or w k 0 + 1) (drop (k + 1) w)
  unfolding rises_below
  next l m = rw (peel w k h, le-leb least (get_or w k 0) l, lt-ltb (get_or w k 0) n m, add-one (get_or w k 0))

pub none : (n least k : ℕ) (w : List ℕ) → length w ≤ k → rises_below n least (drop k w) ≡ true
unfolding rises_below
none n least k w h = rw (drop_of_length-le w {i = k} h)

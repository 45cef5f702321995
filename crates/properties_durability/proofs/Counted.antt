-- How many numbers of a range pass a test, as an iterator counts them. Assumes nothing.
use native.Mathlib.Omega.{arith}
use mathlib.Core.Bool.{Bool, true, false, cond}
use mathlib.Core.List.{List, [], ◌∷◌, ◌++◌}
use mathlib.Core.Path.{◌≡◌, refl, ap, ◌∙◌}
use Prim.Native.Nat.{ℕ, zero, suc, ◌+◌, ◌≤◌, ◌<◌}
use lib.ListN.{length}
use Rattle.std.specs.List.{filter, range_with_len}
use Rattle.properties_snapshots.specs.Below.{count_below}

-- a range has its last number at the end
ends : (a n j : ℕ) → a + n ≡ j → range_with_len a (suc n) ≡ range_with_len a n ++ (j ∷ [])
ends a zero j e = let z : a ≡ j = omega arith in ap (λ (k : ℕ). k ∷ []) z
ends a (suc n) j e = ap (λ (xs : List ℕ). a ∷ xs) (ends (a + 1) n j (omega arith))

module _ (h : ℕ → Bool) where
  -- one number more at the end
  kept : (xs : List ℕ) (x : ℕ) → length (filter h (xs ++ (x ∷ []))) ≡ cond (h x) (suc (length (filter h xs))) (length (filter h xs))
  kept [] x = last (h x)
    where
      last : (b : Bool) → length (cond b (x ∷ []) []) ≡ cond b 1 0
      last true = refl
      last false = refl
  kept (y ∷ xs) x = go (h y) (h x) (kept xs x)
    where
      go : (a b : Bool) → length (filter h (xs ++ (x ∷ []))) ≡ cond b (suc (length (filter h xs))) (length (filter h xs))
          → length (cond a (y ∷ filter h (xs ++ (x ∷ []))) (filter h (xs ++ (x ∷ [])))) ≡ cond b (suc (length (cond a (y ∷ filter h xs) (filter h xs)))) (length (cond a (y ∷ filter h xs) (filter h xs)))
      go true true e = ap suc e
      go true false e = ap suc e
      go false true e = e
      go false false e = e

  pub count_range : (n : ℕ) → length (filter h (range_with_len 0 n)) ≡ count_below n h
  unfolding count_below
  count_range zero = refl
  count_range (suc n) =
      ap (λ (xs : List ℕ). length (filter h xs)) (ends 0 n n (omega arith))
      ∙ (kept (range_with_len 0 n) n ∙ ap (λ (k : ℕ). cond (h n) (suc k) k) (count_range n))

  pub count_most : (n : ℕ) → count_below n h ≤ n
  unfolding count_below
  count_most zero = omega arith
  count_most (suc n) = go (h n) (count_most n)
    where
      go : (b : Bool) → count_below n h ≤ n → cond b (suc (count_below n h)) (count_below n h) ≤ suc n
      go true k = omega arith
      go false k = omega arith

-- two tests that tell the same of each
pub count_same : (n : ℕ) (f g : ℕ → Bool) → ((k : ℕ) → k < n → f k ≡ g k) → count_below n f ≡ count_below n g
unfolding count_below
count_same zero f g h = refl
count_same (suc n) f g h = rw (count_same n f g (λ k l. h k (omega arith)), h n (omega arith))

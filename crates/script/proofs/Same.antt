-- Two lists of bytes are the same exactly if they are equal. Assumes nothing.
use borrow.Author.Tests.{eqb-true, eq-eqb}
use mathlib.Core.Bool.{Bool, true, false, false≢true}
use mathlib.Core.List.{List, [], ◌∷◌}
use mathlib.Core.Path.{◌≡◌, refl, ap₂}
use Prim.Native.Nat.{ℕ}
use lib.Dec.{eqb}
use Rattle.basis.proofs.Laws.{both}
use Rattle.script.specs.Faults.{same}

same_self : (l : List ℕ) → same l l ≡ true
unfolding same
same_self [] = refl
same_self (b ∷ bs) = rw (eq-eqb b b refl, same_self bs)

same_equal : (l m : List ℕ) → same l m ≡ true → l ≡ m
unfolding same
same_equal [] [] e = refl
same_equal [] (y ∷ ys) e = absurd (false≢true e)
same_equal (x ∷ xs) [] e = absurd (false≢true e)
same_equal (x ∷ xs) (y ∷ ys) e =
    let b = both (eqb x y) (same xs ys) e in
    ap₂ (λ (a : ℕ) (l : List ℕ). a ∷ l) (eqb-true x y b.0) (same_equal xs ys b.1)

pub same_is : (l m : List ℕ) → l ≡ m → same l m ≡ true
same_is l m e = rw e (same_self m)

pub same_not : (l m : List ℕ) → (l ≡ m → ⊥) → same l m ≡ false
same_not l m h = by_test (same l m) refl
  where
    by_test : (t : Bool) → same l m ≡ t → t ≡ false
    by_test true e = absurd (h (same_equal l m e))
    by_test false e = refl

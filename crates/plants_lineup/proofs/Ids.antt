-- The plants by number: their list is as long as asked, grows at its end, has none at or past its end and none twice. Assumes nothing.
use mathlib.Core.Bool.{Bool, true, false, cond}
use mathlib.Core.List.{List, [], ◌∷◌, ◌++◌}
use mathlib.Core.Path.{◌≡◌, refl, sym, ap, ◌∙◌}
use Prim.Native.Nat.{ℕ, zero, suc, ◌+◌, ◌-◌, ◌≤◌, ◌<◌}
use native.Mathlib.Omega.{arith}
use native.Mathlib.Nat.{add-zero, zero-add}
use native.Mathlib.Numerals.{add-one}
use borrow.Author.Tests.{lt-leb, ne_eqb, eqb-true}
use lib.Dec.{leb, eqb}
use lib.ListN.{length}
use Rattle.basis.specs.Basis.{bit}
use Rattle.plants_lineup.specs.Core.{ids_from, those, tally}
use Rattle.plants_lineup.proofs.Tallies.{tally-cons, those-append}

pub length_ids : (a k : ℕ) → length (ids_from a k) ≡ k
unfolding ids_from
length_ids a zero = refl
length_ids a (suc k) = ap suc (length_ids (suc a) k)

pub ids_more : (a k : ℕ) → ids_from a (k + 1) ≡ ids_from a k ++ (a + k) ∷ []
unfolding ids_from
ids_more a k = ap (ids_from a) (add-one k) ∙ more a k
  where
    more : (a k : ℕ) → ids_from a (suc k) ≡ ids_from a k ++ (a + k) ∷ []
    more a zero = ap (λ (x : ℕ). x ∷ []) (sym (add-zero a))
    more a (suc k) = ap (λ (l : List ℕ). a ∷ l) (more (suc a) k ∙ ap (λ (x : ℕ). ids_from (suc a) k ++ x ∷ []) (omega arith))

pub those_next : (test : ℕ → Bool) (i : ℕ) (b : Bool) → test i ≡ b → those test (ids_from 0 (i + 1)) ≡ those test (ids_from 0 i) ++ cond b (i ∷ []) []
unfolding those
those_next test i b e =
    ap (those test) (ids_more 0 i) ∙ (those-append test (ids_from 0 i) ((0 + i) ∷ []) ∙ rw (zero-add i, e))

-- the walk over plants from i up to n
pub peel : (n i : ℕ) → i < n → ids_from i (n - i) ≡ i ∷ ids_from (i + 1) (n - (i + 1))
unfolding ids_from
peel n i h =
    let z : n - i ≡ suc (n - (i + 1)) = omega arith in
    rw (z, add-one i)

module _ (n : ℕ) where
  pub ids_below : (a k : ℕ) → a + k ≤ n → tally (leb n) (ids_from a k) ≡ 0
  unfolding ids_from those
  ids_below a zero h = refl
  ids_below a (suc k) h = rw (lt-leb n a (omega arith)) (ids_below (suc a) k (omega arith))

  none_before : (a k : ℕ) → n < a → tally (eqb n) (ids_from a k) ≡ 0
  unfolding ids_from those
  none_before a zero h = refl
  none_before a (suc k) h = rw (ne_eqb n a (omega arith)) (none_before (suc a) k (omega arith))

once_step : (b : Bool) (n : ℕ) → (b ≡ true → n ≡ 0) → n ≤ 1 → bit b + n ≤ 1
once_step true n f h = let z = f refl in omega arith
once_step false n f h = omega arith

pub ids_once : (x a k : ℕ) → tally (eqb x) (ids_from a k) ≤ 1
unfolding ids_from those
ids_once x a zero = omega arith
ids_once x a (suc k) =
    let rest = ids_from (suc a) k in
    rw (tally-cons (eqb x) a rest)
    (once_step (eqb x a) (tally (eqb x) rest) (λ e. let z = eqb-true x a e in none_before x (suc a) k (omega arith)) (ids_once x (suc a) k))

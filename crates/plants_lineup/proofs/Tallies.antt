-- How many elements of a list pass a test: over `++`, a store, a part, and a split in two. Two lists are a permutation of each other where every
-- test passes as often in the one as in the other. Assumes nothing.
use mathlib.Core.Bool.{Bool, true, false, cond, not}
use mathlib.Core.List.{List, [], ◌∷◌, ◌++◌}
use mathlib.Core.Path.{◌≡◌, refl, sym, ap, ◌∙◌}
use Prim.Native.Nat.{ℕ, zero, suc, ◌+◌, ◌≤◌, ◌<◌}
use native.Mathlib.Omega.{arith}
use native.Mathlib.Numerals.{add-one}
use borrow.Author.Tests.{leb-false}
use lib.Dec.{leb}
use lib.ListN.{length, take, drop, get_or, set, take-append-drop, length-append}
use lib.Seq.{take-suc}
use Rattle.basis.specs.Basis.{bit}
use Rattle.basis.proofs.Laws.{bit_le}
use Rattle.plants_lineup.specs.Core.{those, tally}

-- every test passes as often in one list as in another
abbrev pub Permutation : List ℕ → List ℕ → Type 0
Permutation l m = (test : ℕ → Bool) → tally test l ≡ tally test m

pub none_counted : (b : Bool) → bit b ≡ 0 → b ≡ false
none_counted true e = absurd (omega arith)
none_counted false e = refl

at_head : (b : Bool) (x : ℕ) (l : List ℕ) → length (cond b (x ∷ l) l) ≡ bit b + length l
at_head true x l = omega arith
at_head false x l = omega arith

module _ (test : ℕ → Bool) where
  pub tally-cons : (x : ℕ) (l : List ℕ) → tally test (x ∷ l) ≡ bit (test x) + tally test l
  unfolding those
  tally-cons x l = at_head (test x) x (those test l)

  pub tally-append : (a b : List ℕ) → tally test (a ++ b) ≡ tally test a + tally test b
  unfolding those
  tally-append [] b = omega arith
  tally-append (x ∷ a) b = let h = tally-append a b in omega (arith, tally-cons x (a ++ b), tally-cons x a)

  pub tally_parts : (k : ℕ) (l : List ℕ) → tally test l ≡ tally test (take k l) + tally test (drop k l)
  tally_parts k l = ap (tally test) (sym (take-append-drop k l)) ∙ tally-append (take k l) (drop k l)

  pub tally-set : (l : List ℕ) (i v : ℕ) → i < length l → tally test (set l i v) + bit (test (get_or l i 0)) ≡ tally test l + bit (test v)
  tally-set [] i v h = absurd (omega arith)
  tally-set (x ∷ l) zero v h = omega (arith, tally-cons x l, tally-cons v l)
  tally-set (x ∷ l) (suc i) v h = let k = tally-set l i v (omega arith) in omega (arith, tally-cons x l, tally-cons x (set l i v))

  pub those-append : (a b : List ℕ) → those test (a ++ b) ≡ those test a ++ those test b
  unfolding those
  those-append [] b = refl
  those-append (x ∷ a) b = joined (test x) (those-append a b)
    where
      joined : (c : Bool) → those test (a ++ b) ≡ those test a ++ those test b
          → cond c (x ∷ those test (a ++ b)) (those test (a ++ b)) ≡ cond c (x ∷ those test a) (those test a) ++ those test b
      joined true e = ap (λ (l : List ℕ). x ∷ l) e
      joined false e = e

  -- one element more at the end
  pub those_more : (l : List ℕ) (i : ℕ) (b : Bool) → i < length l → test (get_or l i 0) ≡ b → those test (take (i + 1) l) ≡ those test (take i l) ++ cond b (get_or l i 0 ∷ []) []
  unfolding those
  those_more l i b h e = rw (add-one i, take-suc l i 0 h, those-append (take i l) (get_or l i 0 ∷ []), e)

  pub tally_le : (l : List ℕ) → tally test l ≤ length l
  unfolding those
  tally_le [] = omega arith
  tally_le (x ∷ l) = let h = tally_le l in omega (arith, tally-cons x l, bit_le (test x))

  kept : (b : Bool) (x : ℕ) (l : List ℕ) → test x ≡ b → tally test l ≡ length l → tally test (cond b (x ∷ l) l) ≡ length (cond b (x ∷ l) l)
  kept true x l e h = let z : bit (test x) ≡ 1 = ap bit e in omega (arith, tally-cons x l)
  kept false x l e h = h

  -- all of those that pass, pass
  pub those_pass : (l : List ℕ) → tally test (those test l) ≡ tally test l
  unfolding those
  those_pass [] = refl
  those_pass (x ∷ l) = kept (test x) x (those test l) refl (those_pass l)

  -- where all pass, so do those at the front
  pub front_passes : (k : ℕ) (l : List ℕ) → tally test l ≡ length l → tally test (take k l) ≡ length (take k l)
  front_passes k l e =
      let h = ap length (take-append-drop k l) in
      omega (arith, tally_parts k l, tally_le (take k l), tally_le (drop k l), simp length-append at h)

-- a list's length is how many pass a test that all pass
pub tally_all : (l : List ℕ) → tally (λ x. true) l ≡ length l
unfolding those
tally_all [] = refl
tally_all (x ∷ l) = ap suc (tally_all l)

-- a permutation is as long
pub same_length : (l m : List ℕ) → Permutation l m → length l ≡ length m
same_length l m p = sym (tally_all l) ∙ (p (λ x. true) ∙ tally_all m)

-- ---- a split in two
module _ (test : ℕ → Bool) (yes no : ℕ → Bool) (apart : (x : ℕ) → no x ≡ not (yes x)) where
  splits : (b : Bool) (x : ℕ) (a c : List ℕ) (n : ℕ) → tally test a + tally test c ≡ n
      → tally test (cond b (x ∷ a) a) + tally test (cond (not b) (x ∷ c) c) ≡ bit (test x) + n
  splits true x a c n e = omega (arith, tally-cons test x a)
  splits false x a c n e = omega (arith, tally-cons test x c)

  pub tally_split : (l : List ℕ) → tally test (those yes l) + tally test (those no l) ≡ tally test l
  unfolding those
  tally_split [] = refl
  tally_split (x ∷ l) =
      rw (apart x) (splits (yes x) x (those yes l) (those no l) (tally test l) (tally_split l) ∙ sym (tally-cons test x l))

-- ---- where no element is n or over
pub all_below : (n : ℕ) (l : List ℕ) → tally (leb n) l ≡ 0 → (i : ℕ) → i < length l → get_or l i 0 < n
all_below n [] e i h = absurd (omega arith)
all_below n (x ∷ l) e zero h = leb-false n x (none_counted (leb n x) (omega (arith, tally-cons (leb n) x l)))
all_below n (x ∷ l) e (suc i) h = all_below n l (omega (arith, tally-cons (leb n) x l)) i (omega arith)

-- Sorting by insertion: a permutation, and where none is twice, the members in the order of the plants' numbers. Assumes nothing.
use mathlib.Core.Bool.{Bool, true, false, cond, ◌||◌}
use mathlib.Core.List.{List, [], ◌∷◌}
use mathlib.Core.Path.{◌≡◌, refl, sym, ap, ◌∙◌}
use Prim.Native.Nat.{ℕ, zero, suc, ◌+◌, ◌≤◌, ◌<◌}
use native.Mathlib.Omega.{arith}
use native.Mathlib.Decide.{ℕ_discrete}
use borrow.Author.Tests.{lt-ltb, le-leb, lt-leb, leb-false, eq-eqb, ne_eqb}
use lib.Dec.{leb, ltb, eqb}
use Rattle.basis.specs.Basis.{bit}
use Rattle.plants_lineup.specs.Core.{ids_from, those, tally, inserted_id, sorted_ids}
use Rattle.plants_liveness.specs.Choice.{member, in_core}
use Rattle.plants_lineup.proofs.Tallies.{Permutation, tally-cons, none_counted}

-- ---- sorting permutes
module _ (test : ℕ → Bool) where
  insert_step : (b : Bool) (x y : ℕ) (l m : List ℕ) → tally test m ≡ bit (test x) + tally test l
      → tally test (cond b (x ∷ y ∷ l) (y ∷ m)) ≡ bit (test x) + tally test (y ∷ l)
  insert_step true x y l m e = tally-cons test x (y ∷ l)
  insert_step false x y l m e = omega (arith, tally-cons test y m, tally-cons test y l)

  tally_inserted : (x : ℕ) (l : List ℕ) → tally test (inserted_id x l) ≡ bit (test x) + tally test l
  unfolding inserted_id
  tally_inserted x [] = tally-cons test x []
  tally_inserted x (y ∷ l) = insert_step (leb x y) x y l (inserted_id x l) (tally_inserted x l)

pub sort_permutes : (l : List ℕ) → Permutation (sorted_ids l) l
unfolding sorted_ids
sort_permutes [] test = refl
sort_permutes (x ∷ l) test =
    let h = sort_permutes l test in
    omega (arith, tally_inserted test x (sorted_ids l), tally-cons test x l)

-- ---- members, by how often each is there
member_step : (b : Bool) (n : ℕ) → (b || ltb 0 n) ≡ ltb 0 (bit b + n)
member_step true n = sym (lt-ltb 0 (1 + n) (omega arith))
member_step false n = let z : n ≡ 0 + n = omega arith in ap (ltb 0) z

member-tally : (x : ℕ) (l : List ℕ) → member x l ≡ ltb 0 (tally (eqb x) l)
unfolding member those
member-tally x [] = refl
member-tally x (y ∷ l) =
    ap (λ (b : Bool). eqb x y || b) (member-tally x l) ∙ (member_step (eqb x y) (tally (eqb x) l) ∙ ap (ltb 0) (sym (tally-cons (eqb x) y l)))

pub same_members : (l m : List ℕ) → Permutation l m → (x : ℕ) → member x l ≡ member x m
same_members l m p x = member-tally x l ∙ (ap (ltb 0) (p (eqb x)) ∙ sym (member-tally x m))

pub same_flags : (l m : List ℕ) → ((x : ℕ) → member x l ≡ member x m) → (a k : ℕ) → in_core l a k ≡ in_core m a k
unfolding in_core
same_flags l m e a zero = refl
same_flags l m e a (suc k) = λ t. e a t ∷ same_flags l m e (suc a) k t

-- ---- those among the plants from a on, k of them
module _ (p q : ℕ → Bool) where
  agree : (b c : Bool) (x : ℕ) (l m : List ℕ) → b ≡ c → l ≡ m → cond b (x ∷ l) l ≡ cond c (x ∷ m) m
  agree b c x l m e f = λ t. cond (e t) (x ∷ f t) (f t)

  pub those_same : (a k : ℕ) → ((x : ℕ) → a ≤ x → x < a + k → p x ≡ q x) → those p (ids_from a k) ≡ those q (ids_from a k)
  unfolding ids_from those
  those_same a zero e = refl
  those_same a (suc k) e =
      agree (p a) (q a) a (those p (ids_from (suc a) k)) (those q (ids_from (suc a) k)) (e a (omega arith) (omega arith))
      (those_same (suc a) k (λ x h m. e x (omega arith) (omega arith)))

those_none : (a k : ℕ) → [] ≡ those (λ x. false) (ids_from a k)
unfolding ids_from those
those_none a zero = refl
those_none a (suc k) = those_none (suc a) k

module _ (p : ℕ → Bool) (x : ℕ) where
  front_step : (b : Bool) (a : ℕ) (l : List ℕ) → x ≤ a → inserted_id x l ≡ x ∷ l → inserted_id x (cond b (a ∷ l) l) ≡ x ∷ cond b (a ∷ l) l
  unfolding inserted_id
  front_step true a l h e = rw (le-leb x a h)
  front_step false a l h e = e

  insert_front : (a k : ℕ) → x ≤ a → inserted_id x (those p (ids_from a k)) ≡ x ∷ those p (ids_from a k)
  unfolding ids_from those inserted_id
  insert_front a zero h = refl
  insert_front a (suc k) h = front_step (p a) a (those p (ids_from (suc a) k)) h (insert_front (suc a) k (omega arith))

  abbrev or_it : ℕ → Bool
  or_it y = eqb y x || p y

  past_step : (b : Bool) (a : ℕ) (l m : List ℕ) → a < x → inserted_id x l ≡ m → inserted_id x (cond b (a ∷ l) l) ≡ cond b (a ∷ m) m
  unfolding inserted_id
  past_step true a l m h e = rw (lt-leb x a h) (ap (λ (z : List ℕ). a ∷ z) e)
  past_step false a l m h e = e

  here_step : (a : ℕ) (k : ℕ) → p x ≡ false → a ≡ x → inserted_id x (cond (p a) (a ∷ those p (ids_from (suc a) k)) (those p (ids_from (suc a) k)))
      ≡ cond (or_it a) (a ∷ those or_it (ids_from (suc a) k)) (those or_it (ids_from (suc a) k))
  here_step a k none e =
      rw (ap p e ∙ none, eq-eqb a x e)
      (insert_front (suc a) k (omega arith)
      ∙ (λ t. sym e t ∷ those_same p or_it (suc a) k (λ y h m. sym (ap (λ (b : Bool). b || p y) (ne_eqb y x (omega arith)))) t))

  insert_those : p x ≡ false → (a k : ℕ) → a ≤ x → x < a + k → inserted_id x (those p (ids_from a k)) ≡ those or_it (ids_from a k)
  unfolding ids_from those
  insert_those none a zero h m = absurd (omega arith)
  insert_those none a (suc k) h m =
      elim (ℕ_discrete a x) [
        | yes e ↦ here_step a k none e
        | no e ↦
            past_step (p a) a (those p (ids_from (suc a) k)) (those or_it (ids_from (suc a) k)) (omega arith) (insert_those none (suc a) k (omega arith) (omega arith))
            ∙ rw (ne_eqb a x e)
      ]

-- none is there twice
abbrev pub Once : List ℕ → Type 0
Once l = (x : ℕ) → tally (eqb x) l ≤ 1

once_more : (x : ℕ) (l : List ℕ) → Once (x ∷ l) → member x l ≡ false
once_more x l o =
    let z : tally (eqb x) l ≡ 0 = omega (arith, o x, tally-cons (eqb x) x l, ap bit (eq-eqb x x refl)) in
    member-tally x l ∙ ap (ltb 0) z

-- sorted_ids, they are the members in the order of the plants' numbers
pub sorted_is : (k : ℕ) (l : List ℕ) → Once l → tally (leb k) l ≡ 0 → sorted_ids l ≡ those (λ y. member y l) (ids_from 0 k)
unfolding sorted_ids member
sorted_is k [] o e = those_none 0 k
sorted_is k (x ∷ l) o e =
    let b = leb-false k x (none_counted (leb k x) (omega (arith, tally-cons (leb k) x l))) in
    let rest = sorted_is k l (λ y. omega (arith, o y, tally-cons (eqb y) x l)) (omega (arith, tally-cons (leb k) x l)) in
    ap (inserted_id x) rest ∙ insert_those (λ y. member y l) x (once_more x l o) 0 k (omega arith) (omega arith)

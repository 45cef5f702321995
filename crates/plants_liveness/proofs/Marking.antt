-- The flags of the plants that are among some: one flag for each plant, set where the plant is a member. Assumes nothing.
use mathlib.Core.Bool.{Bool, true, false, ◌||◌, or-true, or-false}
use mathlib.Core.List.{List, [], ◌∷◌, ◌++◌}
use mathlib.Core.Path.{◌≡◌, refl, sym, ap, ◌∙◌}
use Prim.Native.Nat.{ℕ, zero, suc, ◌+◌, ◌<◌}
use native.Mathlib.Nat.{add-zero, zero-add}
use native.Mathlib.Omega.{arith}
use native.Mathlib.Numerals.{add-one}
use native.Mathlib.Decide.{ℕ_discrete}
use borrow.Author.Tests.{eq-eqb, ne_eqb}
use lib.Dec.{eqb}
use lib.ListN.{length, take, get_or, set, replicate, length-set}
use lib.Seq.{ext_get_or, get_or-set_same, get_or-set_other, take-suc}
use Rattle.plants_liveness.specs.Choice.{member, in_core}

pub length_flags : (l : List ℕ) (a k : ℕ) → length (in_core l a k) ≡ k
unfolding in_core
length_flags l a zero = refl
length_flags l a (suc k) = ap suc (length_flags l (suc a) k)

pub flag_of : (l : List ℕ) (a k i : ℕ) → i < k → get_or (in_core l a k) i false ≡ member (a + i) l
unfolding in_core
flag_of l a zero i h = absurd (omega arith)
flag_of l a (suc k) zero h = ap (λ (x : ℕ). member x l) (sym (add-zero a))
flag_of l a (suc k) (suc i) h =
    let z : suc a + i ≡ a + suc i = omega arith in
    flag_of l (suc a) k i (omega arith) ∙ ap (λ (x : ℕ). member x l) z

pub no_flags : (a k : ℕ) → replicate k false ≡ in_core [] a k
unfolding in_core member
no_flags a zero = refl
no_flags a (suc k) = ap (λ (l : List Bool). false ∷ l) (no_flags (suc a) k)

member_more : (x y : ℕ) (l : List ℕ) → member x (l ++ y ∷ []) ≡ (member x l || eqb x y)
unfolding member
member_more x y [] = or-false (eqb x y)
member_more x y (z ∷ l) = step (eqb x z) (member_more x y l)
  where
    step : (b : Bool) → member x (l ++ y ∷ []) ≡ (member x l || eqb x y) → (b || member x (l ++ y ∷ [])) ≡ ((b || member x l) || eqb x y)
    step true e = refl
    step false e = e

-- one plant more
module _ (l : List ℕ) (y k : ℕ) (h : y < k) where
  same_flag : (i : ℕ) → i < k → get_or (set (in_core l 0 k) y true) i false ≡ get_or (in_core (l ++ y ∷ []) 0 k) i false
  same_flag i m =
      let after : get_or (in_core (l ++ y ∷ []) 0 k) i false ≡ (member i l || eqb i y) =
      flag_of (l ++ y ∷ []) 0 k i m ∙ (ap (λ (x : ℕ). member x (l ++ y ∷ [])) (zero-add i) ∙ member_more i y l) in
      let q : y < length (in_core l 0 k) = omega (arith, length_flags l 0 k) in
      elim (ℕ_discrete i y) [
        | yes e ↦
            ap (λ (x : ℕ). get_or (set (in_core l 0 k) y true) x false) e
            ∙ (get_or-set_same (in_core l 0 k) y true false q
            ∙ sym (after ∙ (ap (λ (b : Bool). member i l || b) (eq-eqb i y e) ∙ or-true (member i l))))
        | no e ↦
            get_or-set_other (in_core l 0 k) y i true false e
            ∙ (flag_of l 0 k i m
            ∙ (ap (λ (x : ℕ). member x l) (zero-add i)
            ∙ sym (after ∙ (ap (λ (b : Bool). member i l || b) (ne_eqb i y e) ∙ or-false (member i l)))))
      ]

  mark : set (in_core l 0 k) y true ≡ in_core (l ++ y ∷ []) 0 k
  mark =
      ext_get_or false (set (in_core l 0 k) y true) (in_core (l ++ y ∷ []) 0 k)
      (length-set (in_core l 0 k) y true ∙ (length_flags l 0 k ∙ sym (length_flags (l ++ y ∷ []) 0 k)))
      (λ i m. same_flag i (omega (arith, length-set (in_core l 0 k) y true, length_flags l 0 k)))

pub mark_next : (ids : List ℕ) (i k : ℕ) → i < length ids → get_or ids i 0 < k → set (in_core (take i ids) 0 k) (get_or ids i 0) true ≡ in_core (take (i + 1) ids) 0 k
mark_next ids i k h m =
    mark (take i ids) (get_or ids i 0) k m ∙ sym (ap (λ (l : List ℕ). in_core l 0 k) (ap (λ (j : ℕ). take j ids) (add-one i) ∙ take-suc ids i 0 h))

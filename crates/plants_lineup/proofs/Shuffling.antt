-- A shuffle by picks within their ranges is a permutation of the list. Assumes nothing.
use mathlib.Core.Bool.{true}
use mathlib.Core.List.{List, [], ◌∷◌}
use mathlib.Core.Path.{◌≡◌, refl, ap, ◌∙◌}
use Prim.Native.Nat.{ℕ, zero, suc, ◌-◌, ◌<◌}
use native.Mathlib.Omega.{arith}
use native.Mathlib.Decide.{ℕ_discrete}
use borrow.Author.Tests.{leb-true}
use lib.Dec.{leb}
use lib.ListN.{length, drop, get_or, set, length-set}
use lib.Seq.{get_or-set_same, get_or-set_other}
use Rattle.basis.specs.Basis.{bit}
use Rattle.basis.proofs.Laws.{both}
use Rattle.plants_lineup.specs.Shuffle.{swapped, shuffled_from, shuffled, picks_within}
use Rattle.plants_lineup.proofs.Tallies.{Permutation, tally-set}

-- what stands at j once the element from j stands at i
still_there : (l : List ℕ) (i j : ℕ) → i < length l → get_or (set l i (get_or l j 0)) j 0 ≡ get_or l j 0
still_there l i j h = elim (ℕ_discrete j i) [ yes e ↦ ap (λ (k : ℕ). get_or (set l i (get_or l j 0)) k 0) e ∙ get_or-set_same l i (get_or l j 0) 0 h | no e ↦ get_or-set_other l i j (get_or l j 0) 0 e ]

swap_permutes : (l : List ℕ) (i j : ℕ) → i < length l → j < length l → Permutation (swapped l i j) l
swap_permutes l i j h k test =
    let a = set l i (get_or l j 0) in
    let f = tally-set test l i (get_or l j 0) h in
    let g = tally-set test a j (get_or l i 0) (simp length-set k) in
    let e : bit (test (get_or a j 0)) ≡ bit (test (get_or l j 0)) = ap (λ (x : ℕ). bit (test x)) (still_there l i j h) in
    omega arith

permutes_from : (k : ℕ) (picks l : List ℕ) → k < length l → picks_within k picks ≡ true → Permutation (shuffled_from k picks l) l
unfolding shuffled_from picks_within
permutes_from zero picks l h e test = refl
permutes_from (suc i) picks l h e test =
    let w = both (leb (get_or picks 0 0) (suc i)) (picks_within i (drop 1 picks)) e in
    let j = leb-true (get_or picks 0 0) (suc i) w.0 in
    permutes_from i (drop 1 picks) (swapped l (suc i) (get_or picks 0 0)) (simp length-set (omega arith)) w.1 test
    ∙ swap_permutes l (suc i) (get_or picks 0 0) h (omega arith) test

-- a shuffle's result is a permutation
pub shuffle_permutes : (picks l : List ℕ) → picks_within (length l - 1) picks ≡ true → Permutation (shuffled picks l) l
unfolding shuffled_from
shuffle_permutes picks [] e test = refl
shuffle_permutes picks (x ∷ l) e test = permutes_from (length (x ∷ l) - 1) picks (x ∷ l) (omega arith) e test

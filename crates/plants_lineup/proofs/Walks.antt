-- One turn of each loop: what is left of a list, taken apart at its first element. Assumes nothing.
use mathlib.Core.Bool.{Bool, true, cond, ◌&&◌}
use mathlib.Core.List.{List, [], ◌∷◌, ◌++◌, append_assoc, append-nil}
use mathlib.Core.Path.{◌≡◌, refl, sym, ap, ◌∙◌}
use Prim.Native.Nat.{ℕ, zero, suc, ◌+◌, ◌-◌, ◌≤◌, ◌<◌}
use native.Mathlib.Omega.{arith}
use native.Mathlib.Nat.{add-zero, sub-zero, zero-sub}
use native.Mathlib.Numerals.{add-one}
use borrow.Author.Tests.{leb-true}
use lib.Dec.{leb, eqb}
use Rattle.std.specs.List.{list_all, count_by, range_with_len}
use Rattle.std.proofs.lemmas.List.Sums.{sum_by-cons}
use lib.ListN.{length, take, drop, get_or, set, replicate, length-append}
use lib.Seq.{drop-cons, drop-drop, get_or-drop, set_at, length-take-le, take_all}
use Rattle.basis.specs.Basis.{bit}
use Rattle.basis.proofs.Laws.{both}
use Rattle.plants_lineup.specs.Shuffle.{swapped, shuffled_from, picks_within}
use Rattle.plants_lineup.specs.Core.{ids_from, those, tally, is_healthy, recovering_fit, healthy_count}
use Rattle.plants_lineup.proofs.Tallies.{tally-cons, tally_parts, those_more}

-- ---- flags
pub fit_by_all : (flags : List ℕ) → list_all (λ f. leb f 1) flags ≡ recovering_fit flags
unfolding recovering_fit
fit_by_all [] = refl
fit_by_all (f ∷ flags) = ap (λ b. leb f 1 && b) (fit_by_all flags)

-- ---- how many of the flags from i on are 0
module _ (flags : List ℕ) where
  healthy_from : (rest : List ℕ) (i : ℕ) → drop i flags ≡ rest → count_by (λ f. eqb f 0) rest ≡ tally (is_healthy flags) (ids_from i (length rest))
  unfolding ids_from those
  healthy_from [] i e = refl
  healthy_from (f ∷ rest) i e =
      let here : get_or flags i 0 ≡ f = sym (get_or-drop i flags 0 0 ∙ ap (λ (k : ℕ). get_or flags k 0) (add-zero i)) ∙ ap (λ (l : List ℕ). get_or l 0 0) e in
      let next : drop (suc i) flags ≡ rest = ap (λ (k : ℕ). drop k flags) (sym (add-one i)) ∙ (sym (drop-drop 1 i flags) ∙ ap (drop 1) e) in
      sum_by-cons (λ x. bit (eqb x 0)) f rest ∙ (ap (λ (n : ℕ). bit (eqb f 0) + n) (healthy_from rest (suc i) next)
      ∙ (ap (λ (x : ℕ). bit (eqb x 0) + tally (is_healthy flags) (ids_from (suc i) (length rest))) (sym here)
      ∙ sym (tally-cons (is_healthy flags) i (ids_from (suc i) (length rest)))))

pub healthy_by_count : (flags : List ℕ) → count_by (λ f. eqb f 0) flags ≡ healthy_count (length flags) flags
unfolding healthy_count
healthy_by_count flags = healthy_from flags flags 0 refl

-- ---- picks, with i still to come down and `at` of them used
module _ (picks : List ℕ) (i at : ℕ) (h : 0 < i) where
  here : i ≡ suc (i - 1)
  here = omega arith

  first : get_or (drop at picks) 0 0 ≡ get_or picks at 0
  first = get_or-drop at picks 0 0 ∙ ap (λ (k : ℕ). get_or picks k 0) (add-zero at)

  pub one_swap : (l : List ℕ) → shuffled_from i (drop at picks) l ≡ shuffled_from (i - 1) (drop (at + 1) picks) (swapped l i (get_or picks at 0))
  unfolding shuffled_from
  one_swap l =
      ap (λ (k : ℕ). shuffled_from k (drop at picks) l) here
      ∙ (λ t. shuffled_from (i - 1) (drop-drop 1 at picks t) (swapped l (sym here t) (first t)))

  pub pick_fits : picks_within i (drop at picks) ≡ true → (get_or picks at 0 ≤ i) × (picks_within (i - 1) (drop (at + 1) picks) ≡ true)
  unfolding picks_within
  pick_fits e =
      let f = sym (ap (λ (k : ℕ). picks_within k (drop at picks)) here) ∙ e in
      let w = both (leb (get_or (drop at picks) 0 0) (suc (i - 1))) (picks_within (i - 1) (drop 1 (drop at picks))) f in
      let j = leb-true (get_or (drop at picks) 0 0) (suc (i - 1)) w.0 in
      (omega (arith, first), ap (picks_within (i - 1)) (sym (drop-drop 1 at picks)) ∙ w.1)

-- the picks from a place on, each with its range
pub within_by_all : (picks : List ℕ) (last k at : ℕ) → at + k ≡ last
    → list_all (λ (n : ℕ). leb (get_or picks n 0) (last - n)) (range_with_len at k) ≡ picks_within k (drop at picks)
unfolding picks_within
within_by_all picks last zero at e = refl
within_by_all picks last (suc k) at e =
    let left : last - at ≡ suc k = omega arith in
    let here : get_or (drop at picks) 0 0 ≡ get_or picks at 0 = get_or-drop at picks 0 0 ∙ ap (λ (n : ℕ). get_or picks n 0) (add-zero at) in
    let rest = within_by_all picks last k (at + 1) (omega arith) ∙ ap (picks_within k) (sym (drop-drop 1 at picks)) in
    λ t. leb (sym here t) (left t) && rest t

-- one turn of a shuffle
pub shuffle_step : (picks l : List ℕ) (last at : ℕ) → at < last → last < length l → picks_within (last - at) (drop at picks) ≡ true
    → (get_or picks at 0 ≤ last - at)
    × ((picks_within (last - (at + 1)) (drop (at + 1) picks) ≡ true)
    × (shuffled_from (last - at) (drop at picks) l ≡ shuffled_from (last - (at + 1)) (drop (at + 1) picks) (swapped l (last - at) (get_or picks at 0))))
shuffle_step picks l last at h k e =
    let i = last - at in
    let less : i - 1 ≡ last - (at + 1) = omega arith in
    let w = pick_fits picks i at (omega arith) e in (
      w.0,
      (
        ap (λ (n : ℕ). picks_within n (drop (at + 1) picks)) (sym less) ∙ w.1,
        one_swap picks i at (omega arith) l ∙ ap (λ (n : ℕ). shuffled_from n (drop (at + 1) picks) (swapped l i (get_or picks at 0))) less,
      ),
    )

-- ---- a list written from the front: those that are there, how many they are, and what was there behind them
abbrev pub Written : List ℕ → List ℕ → ℕ → List ℕ → Type 0
Written front l c r = (length front ≡ c) × (r ≡ front ++ drop c l)

pub put_next : (front l : List ℕ) (c v : ℕ) → length front ≡ c → c < length l → set (front ++ drop c l) c v ≡ (front ++ v ∷ []) ++ drop (c + 1) l
put_next front l c v e h =
    rw (add-one c, drop-cons l c 0 h, append_assoc) (set_at front (get_or l c 0) (drop (suc c) l) v c e)

-- one more, or not
pub written_more : (front next l r : List ℕ) (c v : ℕ) → c < length l → next ≡ front ++ v ∷ [] → Written front l c r → Written next l (c + 1) (set r c v)
written_more front next l r c v h n w = (
  ap length n ∙ (length-append front (v ∷ []) ∙ omega (arith, w.0)),
  ap (λ (x : List ℕ). set x c v) w.1 ∙ (put_next front l c v w.0 h ∙ ap (λ (x : List ℕ). x ++ drop (c + 1) l) (sym n)),
)

pub written_same : (front next l r : List ℕ) (c : ℕ) → next ≡ front ++ [] → Written front l c r → Written next l c r
written_same front next l r c n w =
    let e : next ≡ front = n ∙ append-nil front in
    (ap length e ∙ w.0, w.1 ∙ ap (λ (x : List ℕ). x ++ drop c l) (sym e))

-- ---- those of a list that pass a test, written behind a front of l
module _ (test : ℕ → Bool) (ids l : List ℕ) (at : ℕ) (fits : at + tally test ids ≤ length l) where
  front_length : length (take at l) ≡ at
  front_length = length-take-le at l (omega arith)

  pub has_room : (i c : ℕ) → i < length ids → test (get_or ids i 0) ≡ true → length (take at l ++ those test (take i ids)) ≡ c → c < length l
  has_room i c h e w =
      let more = ap length (those_more test ids i true h e) in
      omega (
        arith,
        front_length,
        tally_parts test (i + 1) ids,
        simp length-append at more,
        simp length-append at w,
      )

  pub one_found : (i : ℕ) (b : Bool) → i < length ids → test (get_or ids i 0) ≡ b
      → take at l ++ those test (take (i + 1) ids) ≡ (take at l ++ those test (take i ids)) ++ cond b (get_or ids i 0 ∷ []) []
  one_found i b h e =
      ap (λ (x : List ℕ). take at l ++ x) (those_more test ids i b h e) ∙ sym (append_assoc (take at l) (those test (take i ids)) (cond b (get_or ids i 0 ∷ []) []))

  pub all_found : (r : List ℕ) (i c : ℕ) → length ids ≤ i → Written (take at l ++ those test (take i ids)) l c r
      → (c ≡ at + tally test ids) × (r ≡ take at l ++ (those test ids ++ drop (at + tally test ids) l))
  all_found r i c h w =
      let v : Written (take at l ++ those test ids) l c r = rw (take_all i ids h) at w in
      let e : c ≡ at + tally test ids = omega (arith, front_length, simp length-append at v.0) in
      (e, v.1 ∙ (append_assoc (take at l) (those test ids) (drop c l) ∙ ap (λ (k : ℕ). take at l ++ (those test ids ++ drop k l)) e))

pub drop_zeros : (k n : ℕ) → ◌≡◌ {A = List ℕ} (drop k (replicate n 0)) (replicate (n - k) 0)
drop_zeros zero n = ap (λ (m : ℕ). replicate m 0) (sym (sub-zero n))
drop_zeros (suc k) zero = ap (λ (m : ℕ). replicate m 0) (sym (zero-sub (suc k)))
drop_zeros (suc k) (suc n) =
    let z : n - k ≡ suc n - suc k = omega arith in
    drop_zeros k n ∙ ap (λ (m : ℕ). replicate m 0) z

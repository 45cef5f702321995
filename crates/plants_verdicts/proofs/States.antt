-- What a state answers by its words, test by test. Assumes nothing.
use Prim.Native.Nat.{ℕ, ◌+◌, ◌-◌, ◌≤◌}
use mathlib.Core.Path.{◌≡◌, refl, sym, ap, ◌∙◌}
use mathlib.Core.Bool.{Bool, true, false, cond, not, ◌&&◌}
use mathlib.Core.List.{List, [], ◌∷◌}
use native.Mathlib.Omega.{arith}
use borrow.Author.Tests.{eqb-true, eqb-false}
use lib.Dec.{eqb}
use lib.ListN.{get_or, take, drop}
use lib.Seq.{drop-drop}
use Rattle.std.specs.List.{list_all}
use Rattle.std.proofs.lemmas.List.{drop-take, drop-map}
use Rattle.basis.specs.Basis.{plant_count}
use Rattle.plants.specs.Refusals.{plants_refusal, answer_number, ◌then◌}
use Rattle.plants.specs.State.{none_set, plants_formed, tested}
use Rattle.plants.specs.declared.Plants.{Plants}
use Rattle.plants.specs.declared.refusal.Refusal.TheVariants.{IllFormed}
use Rattle.plants.specs.declared.refusal.Refusal.{Refusal}
use Rattle.std.specs.Prelude.{Result, Ok, Err}
use Rattle.plants_layout.specs.Layout.{flag_of, flags_in, plants_in, shaped, flag_words_fit}
use Rattle.plants_words.specs.Calls.{or_else}
use Rattle.plants_words.proofs.Answering.{nonzero, first, second}
use Rattle.plants_verdicts.specs.Calls.{refused_number, test_number, state_answer}
use Rattle.plants_verdicts.specs.declared.Refused.{Refused}
use Rattle.plants_verdicts.specs.declared.Refused.TheVariants.{UnknownSort, BadRoom, ByPlants}

-- ---- a number, and another where it is 0
or_else_zero : (b : Bool) (k more : ℕ) → eqb k 0 ≡ b → or_else k more ≡ 0 → (k ≡ 0) × (more ≡ 0)
unfolding or_else
or_else_zero true k more e h = (eqb-true k 0 e, rw e at h)
or_else_zero false k more e h = absurd (eqb-false k 0 e (rw e at h))

pub both_zero : (k more : ℕ) → or_else k more ≡ 0 → (k ≡ 0) × (more ≡ 0)
both_zero k more h = or_else_zero (eqb k 0) k more refl h

or_else_assoc : (b : Bool) (j k more : ℕ) → eqb j 0 ≡ b → or_else j (or_else k more) ≡ or_else (or_else j k) more
unfolding or_else
or_else_assoc true j k more e = rw e
or_else_assoc false j k more e = rw (e, e)

pub regroup : (j k more : ℕ) → or_else j (or_else k more) ≡ or_else (or_else j k) more
regroup j k more = or_else_assoc (eqb j 0) j k more refl

-- ---- tests in an order, as numbers
pub in_order : (t u : Result Unit Refusal) → test_number (t then u) ≡ or_else (test_number t) (test_number u)
unfolding or_else
in_order (Ok x) u = refl
in_order (Err r) u = sym (first (plants_refusal r) (test_number u) (nonzero r))

pub passed : (t : Result Unit Refusal) → test_number t ≡ 0 → t ≡ Ok tt
passed (Ok x) e = refl
passed (Err r) e = absurd (nonzero r e)

-- ---- a state of so many plants by its form
module _ (s : Plants) (e : plant_count s.n ≡ true) where
  bad_form : plants_formed s ≡ false → Err IllFormed ≡ tested s
  unfolding tested
  bad_form f = rw (e, f)

  good : plants_formed s ≡ true → tested s ≡ Ok tt
  unfolding tested
  good f = rw (e, f)

-- ---- the words of a state
module _ (w : List ℕ) where
  by_count : (b c : Bool) → plant_count (get_or w 0 0) ≡ b → ◌≡◌ {A = ℕ} (cond b (cond c 0 42) 40) 0 → plant_count (get_or w 0 0) ≡ true
  by_count true c e h = e
  by_count false c e h = absurd (omega arith)

  -- words of a state's shape say how many plants there are
  pub counted : shaped w ≡ 0 → plant_count (get_or w 0 0) ≡ true
  unfolding shaped
  counted h = by_count (plant_count (get_or w 0 0)) (flag_words_fit w) refl h

  module _ (h : shaped w ≡ 0) where
    by_test : (t : Result Unit Refusal) → t ≡ tested (plants_in w) → test_number t ≡ state_answer w
    unfolding state_answer
    by_test t e = ap test_number e ∙ sym (second (shaped w) _ h)

    pub ill_formed : plants_formed (plants_in w) ≡ false → 42 ≡ state_answer w
    ill_formed f = by_test (Err IllFormed) (bad_form (plants_in w) (counted h) f)

    pub well_formed_lem : plants_formed (plants_in w) ≡ true → 0 ≡ state_answer w
    well_formed_lem f = by_test (Ok tt) (sym (good (plants_in w) (counted h) f))

-- ---- flags past the last plant, read where they stand
all_unset : (ws : List ℕ) → list_all (λ w. not (eqb w 1)) ws ≡ none_set (flags_in ws)
unfolding none_set flags_in
all_unset [] = refl
all_unset (w ∷ ws) = ap (λ b. not (eqb w 1) && b) (all_unset ws)

pub unset_past : (w : List ℕ) (at n : ℕ) → n ≤ 15
    → list_all (λ x. not (eqb x 1)) (take (at + 15 - (at + n)) (drop (at + n) w)) ≡ none_set (drop n (flags_in (take 15 (drop at w))))
unfolding flags_in
unset_past w at n h =
    let less : at + 15 - (at + n) ≡ 15 - n = omega arith in
    let all : n + (15 - n) ≡ 15 = omega arith in
    let part : take (at + 15 - (at + n)) (drop (at + n) w) ≡ drop n (take 15 (drop at w)) =
    (λ t. take (less t) (sym (drop-drop n at w) t))
    ∙ (sym (drop-take n (15 - n) (drop at w)) ∙ ap (λ (k : ℕ). drop n (take k (drop at w))) all) in
    all_unset _ ∙ ap none_set (ap flags_in part ∙ sym (drop-map flag_of n (take 15 (drop at w))))

-- ---- a refusal's number is not 0
pub refused : (r : Refused) → refused_number (Err r) ≡ 0 → ⊥
refused UnknownSort e = omega arith
refused BadRoom e = omega arith
refused (ByPlants r) e = nonzero r e

-- the plants' answer, as the verdicts have it
pub same_number : (x : Result Unit Refusal) (y : Result Unit Refused) → ((r : Refusal) → x ≡ Err r → y ≡ Err (ByPlants r)) → (x ≡ Ok tt → y ≡ Ok tt)
    → refused_number y ≡ answer_number x
same_number (Ok tt) y f g = ap refused_number (g refl)
same_number (Err r) y f g = ap refused_number (f r refl)

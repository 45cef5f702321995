-- The single call on a state whose own answer is known: what is left of it to answer, and what it tells. Assumes nothing.
use Prim.Native.Nat.{ℕ, ◌+◌, ◌≤◌, ◌<◌}
use mathlib.Core.Path.{◌≡◌, refl, sym, ◌∙◌}
use mathlib.Core.Bool.{Bool, true, false}
use mathlib.Core.List.{List, [], ◌∷◌}
use native.Mathlib.Omega.{arith}
use borrow.Author.Tests.{le-leb, lt-leb, leb-true, lt-ltb, le-ltb, ltb-true}
use lib.Dec.{leb, ltb, eqb}
use lib.ListN.{get_or}
use Rattle.basis.specs.Basis.{most}
use Rattle.plants.specs.Refusals.{must, ◌then◌}
use Rattle.plants.specs.State.{tested}
use Rattle.plants.specs.Verdicts.{verdict_number, verdict_by, verdict_of, verdict_tested, judged_if, verdict_given, sender_known, sender_partitioned, is_partitioned}
use Rattle.plants.specs.Faults.{is_up}
use Rattle.plants.specs.declared.Plants.{Plants}
use Rattle.plants.specs.declared.Origin.{Origin}
use Rattle.plants.specs.declared.refusal.Refusal.TheVariants.{UnknownPlant}
use Rattle.plants.specs.declared.refusal.Refusal.{Refusal}
use Rattle.std.specs.Prelude.{Result, Ok, Err}
use Rattle.plants.proofs.Testing.{both_pass, holds, bounds}
use Rattle.plants_layout.specs.Layout.{plants_in, shaped, origin_in}
use Rattle.plants_layout.proofs.Walking.{flag_at}
use Rattle.plants_words.specs.Calls.{or_else, on_zero, judged_number, judged_word, verdict_answer, verdict_words}
use Rattle.plants_words.proofs.Answering.{first, second}
use Rattle.plants_verdicts.specs.Calls.{test_number, state_answer}
use Rattle.plants_verdicts.proofs.States.{both_zero, regroup, in_order, passed}

judged_number_lem : (t : Result Unit Refusal) (s : Plants) (from : Origin) (to : ℕ) → judged_number (judged_if t s from to) ≡ test_number t
judged_number_lem (Ok x) s from to = refl
judged_number_lem (Err r) s from to = refl

module _ (w : List ℕ) (sort id to : ℕ) where
  abbrev state : Plants
  state = plants_in w

  abbrev from : Origin
  from = origin_in sort id

  -- the tests of the two plants, the receiver's first
  abbrev named : Result Unit Refusal
  named = must (ltb to state.n) UnknownPlant then must (sender_known state from) UnknownPlant

  pub unsorted : 1 < sort → 24 ≡ verdict_answer w sort id to
  unfolding verdict_answer
  unsorted h = rw (lt-leb sort 1 h)

  -- the state's answer first, and then that of the two plants
  by_state : sort ≤ 1 → verdict_answer w sort id to ≡ or_else (state_answer w) (test_number named)
  unfolding verdict_answer verdict_given verdict_tested state_answer
  by_state h =
      rw (le-leb sort 1 h, judged_number_lem (tested state then named) state from to, in_order (tested state) named)
      (regroup (shaped w) (test_number (tested state)) (test_number named))

  pub state_refuses : sort ≤ 1 → (k : ℕ) → k ≡ state_answer w → (k ≡ 0 → ⊥) → k ≡ verdict_answer w sort id to
  state_refuses h k e n = e ∙ sym (by_state h ∙ first (state_answer w) _ (λ z. n (e ∙ z)))

  module _ (h : sort ≤ 1) (e : state_answer w ≡ 0) where
    by_plants : verdict_answer w sort id to ≡ test_number named
    by_plants = by_state h ∙ second (state_answer w) _ e

    pub no_receiver : get_or w 0 0 ≤ to → 41 ≡ verdict_answer w sort id to
    no_receiver k = sym (by_plants ∙ rw (le-ltb to (get_or w 0 0) k))

    pub no_sender : to < get_or w 0 0 → sort ≡ 0 → get_or w 0 0 ≤ id → 41 ≡ verdict_answer w sort id to
    unfolding origin_in
    no_sender t z k = sym (by_plants ∙ rw (lt-ltb to (get_or w 0 0) t, z, le-ltb id (get_or w 0 0) k))

    pub from_plant : to < get_or w 0 0 → sort ≡ 0 → id < get_or w 0 0 → 0 ≡ verdict_answer w sort id to
    unfolding origin_in
    from_plant t z k = sym (by_plants ∙ rw (lt-ltb to (get_or w 0 0) t, z, lt-ltb id (get_or w 0 0) k))

    pub from_client : to < get_or w 0 0 → eqb sort 0 ≡ false → 0 ≡ verdict_answer w sort id to
    unfolding origin_in
    from_client t z = sym (by_plants ∙ rw (lt-ltb to (get_or w 0 0) t, z))

-- ---- where the single call is not refused
by_test : (t : Result Unit Refusal) (s : Plants) (from : Origin) (to k : ℕ) → t ≡ Ok tt → k ≡ 0
    → get_or (on_zero k (judged_word (judged_if t s from to) (0 ∷ [])) (0 ∷ [])) 0 0 ≡ verdict_number (verdict_of s from to)
unfolding on_zero
by_test t s from to k e z = rw (e, z)

module _ (w : List ℕ) (sort id to : ℕ) (e : verdict_answer w sort id to ≡ 0) where
  sort_known : (b : Bool) → leb sort 1 ≡ b → sort ≤ 1
  unfolding verdict_answer
  sort_known true k = leb-true sort 1 k
  sort_known false k = let z : ◌≡◌ {A = ℕ} 24 0 = rw k at e in absurd (omega arith)

  pub sorted : sort ≤ 1
  sorted = sort_known (leb sort 1) refl

  zeros : (state_answer w ≡ 0) × (test_number (named w sort id to) ≡ 0)
  zeros = both_zero _ _ (sym (by_state w sort id to sorted) ∙ e)

  pub state_whole : state_answer w ≡ 0
  state_whole = zeros.0

  state_passes : tested (plants_in w) ≡ Ok tt
  unfolding state_answer
  state_passes = passed _ (both_zero (shaped w) _ zeros.0).1

  parts : (must (ltb to (get_or w 0 0)) UnknownPlant ≡ Ok tt) × (must (sender_known (plants_in w) (origin_in sort id)) UnknownPlant ≡ Ok tt)
  parts = both_pass (must (ltb to (get_or w 0 0)) UnknownPlant) _ (passed (named w sort id to) zeros.1)

  few : get_or w 0 0 ≤ most
  few = (bounds (plants_in w) state_passes).1

  pub receiver_below : to < most
  receiver_below = omega (arith, ltb-true to (get_or w 0 0) (holds _ UnknownPlant parts.0), few)

  pub sender_below : sort ≡ 0 → id < most
  unfolding origin_in
  sender_below z =
      let k = rw z at (holds (sender_known (plants_in w) (origin_in sort id)) UnknownPlant parts.1) in
      omega (arith, ltb-true id (get_or w 0 0) k, few)

  pub all_pass : verdict_tested (plants_in w) (origin_in sort id) to ≡ Ok tt
  unfolding verdict_tested
  all_pass = rw (state_passes, parts.0) parts.1

  -- the verdict that it tells
  tells : get_or (verdict_words w sort id to (0 ∷ [])) 0 0 ≡ verdict_number (verdict_of (plants_in w) (origin_in sort id) to)
  unfolding verdict_given
  tells = by_test (verdict_tested (plants_in w) (origin_in sort id) to) (plants_in w) (origin_in sort id) to _ all_pass e

  -- by the words of its two plants
  up_is : eqb (get_or w (1 + to) 0) 1 ≡ is_up (plants_in w) to
  up_is = flag_at w 1 to receiver_below

  cut_is : (i : ℕ) → i < most → eqb (get_or w (16 + i) 0) 1 ≡ is_partitioned (plants_in w) i
  cut_is i h = flag_at w 16 i h

  module _ (up cut sender : Bool) where
    by_flags : eqb (get_or w (1 + to) 0) 1 ≡ up → eqb (get_or w (16 + to) 0) 1 ≡ cut → sender_partitioned (plants_in w) (origin_in sort id) ≡ sender
        → verdict_number (verdict_by up cut sender) ≡ get_or (verdict_words w sort id to (0 ∷ [])) 0 0
    by_flags u c s = sym (tells ∙ rw (← up_is, ← cut_is to receiver_below, u, c, s))

  pub told_down : eqb (get_or w (1 + to) 0) 1 ≡ false → 1 ≡ get_or (verdict_words w sort id to (0 ∷ [])) 0 0
  told_down u = by_flags false _ _ u refl refl

  module _ (u : eqb (get_or w (1 + to) 0) 1 ≡ true) where
    pub told_cut : eqb (get_or w (16 + to) 0) 1 ≡ true → 2 ≡ get_or (verdict_words w sort id to (0 ∷ [])) 0 0
    told_cut c = by_flags true true _ u c refl

    module _ (c : eqb (get_or w (16 + to) 0) 1 ≡ false) where
      sender_is : sort ≡ 0 → (b : Bool) → eqb (get_or w (16 + id) 0) 1 ≡ b → sender_partitioned (plants_in w) (origin_in sort id) ≡ b
      unfolding origin_in
      sender_is z b s = rw z (sym (cut_is id (sender_below z)) ∙ s)

      pub told_sender_cut : sort ≡ 0 → eqb (get_or w (16 + id) 0) 1 ≡ true → 2 ≡ get_or (verdict_words w sort id to (0 ∷ [])) 0 0
      told_sender_cut z s = by_flags true false true u c (sender_is z true s)

      pub told_from_plant : sort ≡ 0 → eqb (get_or w (16 + id) 0) 1 ≡ false → 0 ≡ get_or (verdict_words w sort id to (0 ∷ [])) 0 0
      told_from_plant z s = by_flags true false false u c (sender_is z false s)

      pub told_from_client : eqb sort 0 ≡ false → 0 ≡ get_or (verdict_words w sort id to (0 ∷ [])) 0 0
      unfolding origin_in
      told_from_client z = by_flags true false false u c (rw z)

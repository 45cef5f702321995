-- What a reader expects of a core: it rises, has no id of n or over, is of the size picked, and holds a quorum of plants that are not recovering;
-- exactly its plants are up afterwards, and the crashes and restarts rise by those who went down or came up; the picks used are one for each
-- step of the two shuffles; and a refusal hands the plants back. That a shuffle permutes is in Shuffling, and that sorting does in Sorting.
-- Assumes nothing.
use mathlib.Core.Bool.{Bool, true, false, cond, not, ◌&&◌, and_comm}
use mathlib.Core.List.{List, [], ◌∷◌, ◌++◌}
use mathlib.Core.Path.{◌≡◌, refl, ap, ◌∙◌}
use Prim.Native.Nat.{ℕ, zero, suc, ◌+◌, ◌-◌, ◌≤◌, ◌<◌}
use native.Mathlib.Nat.{zero-add}
use native.Mathlib.Omega.{arith}
use borrow.Author.Tests.{leb-false, ne_eqb}
use lib.Dec.{leb}
use lib.ListN.{length, take, drop, get_or}
use lib.Seq.{length-take-le, take-append-add}
use Rattle.plants.specs.Refusals.{must}
use Rattle.basis.specs.Basis.{most, quorum}
use Rattle.basis.proofs.Laws.{both}
use Rattle.plants.specs.State.{none_set, counts_fit, plants_formed, tested}
use Rattle.plants.specs.Faults.{is_up}
use Rattle.plants.specs.declared.Plants.{Plants}
use Rattle.plants.specs.declared.refusal.Refusal.{Refusal}
use Rattle.plants.specs.declared.refusal.Refusal.TheVariants.{CountFull}
use Rattle.std.specs.Prelude.{Result, Ok, Err}
use Rattle.plants.proofs.Testing.{both_pass, holds, count_holds, form_holds}
use Rattle.plants.proofs.Laws.{well_formed, none_past}
use Rattle.plants_lineup.specs.Shuffle.{shuffled}
use Rattle.plants_lineup.specs.Core.{size_picks, picks_used, first_picks, second_picks, core_size, ids_from, those, tally, is_healthy, candidates, filler, line_up, core_of}
use Rattle.plants_liveness.specs.Choice.{member, in_core, up_after, settled, lent_tested, choice_tested, chosen_if, chosen}
use Rattle.plants_lineup.proofs.Tallies.{none_counted, tally-cons, all_below, same_length, those_pass, front_passes, tally-append}
use Rattle.plants_liveness.proofs.Marking.{length_flags, flag_of}
use Rattle.plants_lineup.proofs.Lining.{dealt_length, healthy_enough, filler-length}
use Rattle.plants_liveness.proofs.Lending.{Ready, lent_passed}
use Rattle.plants_liveness.proofs.Counts.{newly_counted}
use Rattle.plants_liveness.proofs.Choosing.{front, in_range_lem, front_size, front_below, core_permutes, core_is}

-- strictly rising, from a on
abbrev pub RisingFrom : ℕ → List ℕ → Type 0
RisingFrom a [] = Unit
RisingFrom a (x ∷ l) = (a ≤ x) × RisingFrom (suc x) l

later : (a b : ℕ) (l : List ℕ) → a ≤ b → RisingFrom b l → RisingFrom a l
later a b [] h r = tt
later a b (x ∷ l) h r = (omega arith, r.1)

rises_step : (b : Bool) (a : ℕ) (l : List ℕ) → RisingFrom (suc a) l → RisingFrom a (cond b (a ∷ l) l)
rises_step true a l r = (omega arith, r)
rises_step false a l r = later a (suc a) l (omega arith) r

those_rise : (test : ℕ → Bool) (a k : ℕ) → RisingFrom a (those test (ids_from a k))
unfolding ids_from those
those_rise test a zero = tt
those_rise test a (suc k) = rises_step (test a) a (those test (ids_from (suc a) k)) (those_rise test (suc a) k)

-- ---- no flag is set past n where no member is
member_past : (n : ℕ) (l : List ℕ) → tally (leb n) l ≡ 0 → (a : ℕ) → n ≤ a → member a l ≡ false
unfolding member
member_past n [] e a h = refl
member_past n (x ∷ l) e a h =
    let k = leb-false n x (none_counted (leb n x) (omega (arith, tally-cons (leb n) x l))) in
    rw (ne_eqb a x (λ z. omega arith)) (member_past n l (omega (arith, tally-cons (leb n) x l)) a h)

none_from : (n : ℕ) (l : List ℕ) → tally (leb n) l ≡ 0 → (a k : ℕ) → n ≤ a → none_set (in_core l a k) ≡ true
unfolding in_core none_set
none_from n l e a zero h = refl
none_from n l e a (suc k) h = rw (member_past n l e a h) (none_from n l e (suc a) k (omega arith))

none_past_core : (n : ℕ) (l : List ℕ) → tally (leb n) l ≡ 0 → (d a k : ℕ) → n ≤ a + d → none_set (drop d (in_core l a k)) ≡ true
unfolding in_core none_set
none_past_core n l e zero a k h = none_from n l e a k (omega arith)
none_past_core n l e (suc d) a zero h = refl
none_past_core n l e (suc d) a (suc k) h = none_past_core n l e d (suc a) k (omega arith)

-- ---- a core that was chosen
module _ (s : Plants) (flags picks : List ℕ) (full : Bool) (e : choice_tested s flags picks full ≡ Ok tt) where
  parts : (lent_tested s flags picks full ≡ Ok tt) × (must (counts_fit (settled s (core_of s.n flags picks full))) CountFull ≡ Ok tt)
  unfolding choice_tested
  parts = both_pass (lent_tested s flags picks full) (must (counts_fit (settled s (core_of s.n flags picks full))) CountFull) e

  ready : Ready s.n flags picks full
  ready = (lent_passed s flags picks full parts.0).1

  pub core_rises : RisingFrom 0 (core_of s.n flags picks full)
  core_rises =
      rw (core_is s.n flags picks full ready) (those_rise (λ x. member x (front s.n flags picks full)) 0 most)

  none_over : tally (leb s.n) (core_of s.n flags picks full) ≡ 0
  none_over = core_permutes s.n flags picks full ready (leb s.n) ∙ front_below s.n flags picks full ready s.n (omega arith)

  pub core_below : (i : ℕ) → i < length (core_of s.n flags picks full) → get_or (core_of s.n flags picks full) i 0 < s.n
  core_below = all_below s.n (core_of s.n flags picks full) none_over

  pub core_sized : length (core_of s.n flags picks full) ≡ core_size s.n picks full
  core_sized =
      same_length (core_of s.n flags picks full) (front s.n flags picks full) (core_permutes s.n flags picks full ready)
      ∙ front_size s.n flags picks full ready

  pub size_in_range : (quorum s.n ≤ core_size s.n picks full) × (core_size s.n picks full ≤ s.n)
  size_in_range = let r = in_range_lem s.n flags picks full ready in (r.0, r.1)

  pub core_healthy : quorum s.n ≤ tally (is_healthy flags) (core_of s.n flags picks full)
  unfolding line_up
  core_healthy =
      let n = s.n in
      let r = in_range_lem n flags picks full ready in
      let first = first_picks picks full in
      let second = second_picks n picks full in
      let ids = candidates n first in
      let well = those (is_healthy flags) ids in
      let stay = take (quorum n) well in
      let others = shuffled second (filler n flags ids) in
      let more = core_size n picks full - quorum n in
      let l : length stay ≡ quorum n = length-take-le (quorum n) well (healthy_enough n flags first second ready.fit ready.healthy r.2 r.3) in
      let z : core_size n picks full ≡ length stay + more = omega (arith, r.0) in
      let f : front n flags picks full ≡ stay ++ take more others = ap (λ (k : ℕ). take k (stay ++ others)) z ∙ take-append-add stay others more in
      omega (
        arith,
        l,
        core_permutes n flags picks full ready (is_healthy flags),
        ap (tally (is_healthy flags)) f,
        tally-append (is_healthy flags) stay (take more others),
        front_passes (is_healthy flags) (quorum n) well (those_pass (is_healthy flags) ids),
      )

  -- one pick for each step of the shuffles of the candidates and of the filler, besides the size's
  pub picks_counted : let ids = candidates s.n (first_picks picks full) in
      picks_used s.n full ≡ size_picks full + (length ids - 1) + (length (filler s.n flags ids) - 1)
  picks_counted =
      let r = in_range_lem s.n flags picks full ready in
      let p = dealt_length s.n flags (first_picks picks full) (second_picks s.n picks full) ready.fit ready.healthy r.2 r.3 in
      let q = filler-length s.n flags (first_picks picks full) (second_picks s.n picks full) ready.fit ready.healthy r.2 r.3 in
      omega (arith, p, q)

  -- exactly the core's plants are up
  pub core_is_up : (i : ℕ) → i < most → is_up (chosen s flags picks full).state i ≡ member i (core_of s.n flags picks full)
  unfolding chosen
  core_is_up i h = rw e (flag_of (core_of s.n flags picks full) 0 most i h ∙ ap (λ (x : ℕ). member x (core_of s.n flags picks full)) (zero-add i))

  -- and the state passes its tests
  pub keeps_form : tested (chosen s flags picks full).state ≡ Ok tt
  unfolding chosen
  keeps_form =
      let next = settled s (core_of s.n flags picks full) in
      let fits = holds (counts_fit next) CountFull parts.1 in
      let up = none_past_core s.n (core_of s.n flags picks full) none_over s.n 0 most (omega arith) in
      rw e (well_formed next (count_holds s (lent_passed s flags picks full parts.0).0) up (none_past s.n most) fits)

  -- ---- the counts: a crash for each plant that was up and is not in the core, and a restart for each core plant that was down, of a state
  -- that has a flag for each of its n plants, as any that the code makes has
  flag_is : (i : ℕ) → i < s.n → get_or (up_after (core_of s.n flags picks full)) i false ≡ member i (core_of s.n flags picks full)
  flag_is i h =
      let core = core_of s.n flags picks full in
      flag_of core 0 most i (omega (arith, ready.many)) ∙ ap (λ (x : ℕ). member x core) (zero-add i)

  none_up_past : none_set (drop s.n s.up) ≡ true
  unfolding plants_formed
  none_up_past =
      let up = none_set (drop s.n s.up) in
      let parted = none_set (drop s.n s.partitioned) in
      (both up parted (both (up && parted) (counts_fit s) (form_holds s (lent_passed s flags picks full parts.0).0)).0).0

  pub crashes_rise : let core = core_of s.n flags picks full in
      (settled s core).crashes ≡ s.crashes + tally (λ r. is_up s r && not (member r core)) (ids_from 0 s.n)
  crashes_rise =
      let core = core_of s.n flags picks full in
      ap (λ (k : ℕ). s.crashes + k)
      (newly_counted (λ r. is_up s r && not (member r core)) s.n 0 (up_after core) s.up (omega (arith, length_flags core 0 most, ready.many)) none_up_past
      (λ k h. rw (zero-add k, flag_is k h) (and_comm (is_up s k) (not (member k core)))))

  pub restarts_rise : s.n ≤ length s.up → let core = core_of s.n flags picks full in
      (settled s core).restarts ≡ s.restarts + tally (λ r. member r core && not (is_up s r)) (ids_from 0 s.n)
  restarts_rise long =
      let core = core_of s.n flags picks full in
      ap (λ (k : ℕ). s.restarts + k)
      (newly_counted (λ r. member r core && not (is_up s r)) s.n 0 s.up (up_after core) long
      (none_past_core s.n core none_over s.n 0 most (omega arith))
      (λ k h. rw (zero-add k, flag_is k h) (and_comm (member k core) (not (is_up s k)))))

  pub reboots_stay : (settled s (core_of s.n flags picks full)).reboots ≡ s.reboots
  reboots_stay = refl

-- ---- a refusal hands the plants back as they came
module _ (s : Plants) (flags picks : List ℕ) (full : Bool) where
  hands_back : (t : Result Unit Refusal) (r : Refusal) → (chosen_if t s flags picks full).answer ≡ Err r → (chosen_if t s flags picks full).state ≡ s
  hands_back (Ok x) r e = cc
  hands_back (Err x) r e = refl

  pub refused_hands_back : (r : Refusal) → (chosen s flags picks full).answer ≡ Err r → (chosen s flags picks full).state ≡ s
  unfolding chosen
  refused_hands_back r e = hands_back (choice_tested s flags picks full) r e

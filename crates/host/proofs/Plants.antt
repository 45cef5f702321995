-- The 49 words of a state of plants and the state give each other back, and what an accepted call leaves is in shape for the next. Assumes
-- nothing.
use Prim.Native.Nat.{ℕ, ◌-◌}
use mathlib.Core.Path.{◌≡◌, refl, sym, ap, ◌∙◌, subst}
use mathlib.Core.Bool.{Bool, true, false, cond, not}
use mathlib.Core.List.{List}
use native.Mathlib.Omega.{arith}
use borrow.Author.Tests.{eqb-true, eqb-false}
use lib.Dec.{leb, eqb}
use lib.ListN.{length, replicate, length-set, length-append, length-replicate}
use Rattle.script.specs.declared.fault.Fault.{Fault}
use Rattle.script.specs.declared.fault.Fault.TheVariants.{Crash, Restart, Reboot, Partition, Heal, HealAll}
use Rattle.basis.specs.Basis.{most, plant_count}
use Rattle.basis.proofs.Laws.{between}
use Rattle.std.specs.Prelude.{None, Result, Ok, Err}
use Rattle.plants.specs.State.{Next, fresh_plants, blank, new_plants, tested}
use Rattle.plants.specs.Faults.{turned, parted, after_fault, fault_tested, applied_if, applied}
use Rattle.plants.specs.declared.Plants.{Plants}
use Rattle.plants.specs.declared.refusal.Refusal.{Refusal}
use Rattle.plants.specs.declared.refusal.Refusal.TheVariants.{PlantCount}
use Rattle.plants.proofs.Testing.{count_holds}
use Rattle.plants.proofs.Laws.{keeps_form, fresh_passes}
use Rattle.plants_lineup.specs.Core.{core_of}
use Rattle.plants_liveness.specs.Choice.{settled, choice_tested, chosen_if, chosen}
use Rattle.plants_liveness.proofs.Laws.{keeps_form as core-keeps-form}
use Rattle.plants_liveness.proofs.Marking.{length_flags as length_up}
use Rattle.plants_layout.specs.Layout.{state_size, up_at, partitioned_at, stable_at, plants_in, state_words, shaped, fault_in}
use Rattle.plants_words.specs.Calls.{or_else, outcome_number, new_answer, new_words, next_of, apply_answer, apply_words, choice_number, chosen_of, core_answer, core_words}
use Rattle.plants_layout.proofs.Walking.{length_part, length_flags}
use Rattle.plants_layout.proofs.Laws.{words_length, read_back, well_shaped}
use Rattle.plants_words.proofs.Answering.{nonzero, changed}
use Rattle.host.specs.Plants.{InShape}
use Rattle.host.proofs.Places.{plants_places, plants_places_read, plants_settled}

-- ---- there and back

-- three lists of 15 places
pub record Sized (s : Plants) : Type 0 where
  pub up : length s.up ≡ most
  pub partitioned : length s.partitioned ≡ most
  pub stable : length s.stable_until ≡ most

pub plants_read_back : (s : Plants) → Sized s → plants_in (state_words s) ≡ s
plants_read_back s z = read_back s z.up z.partitioned z.stable

pub words_sized : (w : List ℕ) → length w ≡ state_size → Sized (plants_in w)
words_sized w l =
    record {
      up = length_flags _ ∙ length_part w up_at (omega arith);
      partitioned = length_flags _ ∙ length_part w partitioned_at (omega arith);
      stable = length_part w stable_at (omega arith);
    }

-- words in shape are settled by the table of their places
pub plants_back_read : (w : List ℕ) → length w ≡ state_size → shaped w ≡ 0 → state_words (plants_in w) ≡ w
plants_back_read w l e =
    let z = words_sized w l in
    plants_settled (state_words (plants_in w)) w (plants_in w) (plants_places (plants_in w) z.up z.partitioned z.stable) (plants_places_read w e)
    (words_length (plants_in w) z.up z.partitioned z.stable) l

-- ---- words in shape

state_in_shape : (s : Plants) → Sized s → tested s ≡ Ok tt → InShape (state_words s) s
state_in_shape s z e =
    record {
      words = words_length s z.up z.partitioned z.stable;
      shape = well_shaped s z.up z.partitioned z.stable (count_holds s e);
      state = plants_read_back s z;
      passed = e;
    }

-- fresh plants
new_counted : (n : ℕ) → new_answer n ≡ 0 → (plant_count n ≡ true) × ((new_plants n).state ≡ fresh_plants n)
unfolding new_plants
new_counted n e = go (plant_count n) refl e
  where
    to : Bool → Next
    to b = cond b (record { state = fresh_plants n; answer = Ok None }) (record { state = blank; answer = Err PlantCount })

    go : (b : Bool) → plant_count n ≡ b → outcome_number (to b).answer ≡ 0 → (plant_count n ≡ true) × ((to b).state ≡ fresh_plants n)
    go true p q = (p, refl)
    go false p q = absurd (nonzero PlantCount q)

pub new_in_shape : (n : ℕ) (w : List ℕ) → new_answer n ≡ 0 → InShape (new_words n w) (fresh_plants n)
new_in_shape n w e =
    let c = new_counted n e in
    let k = between n c.0 in
    let z : Sized (fresh_plants n) = record {
      up = length-append (replicate n true) (replicate (most - n) false) ∙ omega (arith, length-replicate n true, length-replicate (most - n) false);
      partitioned = length-replicate most false;
      stable = length-replicate {A = ℕ} most 0;
    } in
    subst (λ (v : List ℕ). InShape v (fresh_plants n)) (ap state_words (sym c.1) ∙ changed (new_answer n) (state_words (new_plants n).state) w e)
    (state_in_shape (fresh_plants n) z (fresh_passes n k.0 k.1))

-- a fault
or_zero : (k more : ℕ) → or_else k more ≡ 0 → (k ≡ 0) × (more ≡ 0)
unfolding or_else
or_zero k more e = go (eqb k 0) refl e
  where
    go : (b : Bool) → eqb k 0 ≡ b → cond b more k ≡ 0 → (k ≡ 0) × (more ≡ 0)
    go true p q = (eqb-true k 0 p, q)
    go false p q = absurd (eqb-false k 0 p q)

turned_sized : (s : Plants) (i : ℕ) (flag : Bool) (tick crashes restarts reboots : ℕ) → Sized s
    → Sized (turned s i flag tick crashes restarts reboots)
turned_sized s i flag tick crashes restarts reboots z =
    record {
      up = length-set s.up i flag ∙ z.up;
      partitioned = z.partitioned;
      stable = length-set s.stable_until i tick ∙ z.stable;
    }

parted_sized : (s : Plants) (flags : List Bool) → length flags ≡ most → Sized s → Sized (parted s flags)
parted_sized s flags e z = record { up = z.up; partitioned = e; stable = z.stable }

fault_sized : (s : Plants) (tick : ℕ) (fault : Fault) → Sized s → Sized (after_fault s tick fault)
unfolding after_fault
fault_sized s tick (Crash i) z = turned_sized s i false tick _ _ _ z
fault_sized s tick (Restart i) z = turned_sized s i true tick _ _ _ z
fault_sized s tick (Reboot i) z = turned_sized s i true tick _ _ _ z
fault_sized s tick (Partition i) z = parted_sized s _ (length-set s.partitioned i true ∙ z.partitioned) z
fault_sized s tick (Heal i) z = parted_sized s _ (length-set s.partitioned i false ∙ z.partitioned) z
fault_sized s tick HealAll z = parted_sized s _ (length-replicate most false) z

module _ (w : List ℕ) (tick fault id : ℕ) (draws : List ℕ) where
  abbrev passing : Result Unit Refusal
  passing = fault_tested (plants_in w) tick (fault_in fault id) draws

  abbrev faulted : Plants
  faulted = after_fault (plants_in w) tick (fault_in fault id)

  fault_passed : apply_answer w tick fault id draws ≡ 0 → passing ≡ Ok tt
  unfolding apply_answer applied
  fault_passed e = known (leb fault 5) e
    where
      by : (t : Result Unit Refusal) → passing ≡ t → outcome_number (applied_if t (plants_in w) tick (fault_in fault id) draws).answer ≡ 0 → passing ≡ Ok tt
      by (Ok x) p q = p
      by (Err r) p q = absurd (nonzero r q)

      known : (b : Bool) → cond b (or_else (shaped w) (outcome_number (next_of w tick fault id draws).answer)) 5 ≡ 0 → passing ≡ Ok tt
      known true q = by passing refl (or_zero (shaped w) _ q).1
      known false q = absurd (omega arith)

  pub apply_in_shape : length w ≡ state_size → apply_answer w tick fault id draws ≡ 0 → InShape (apply_words w tick fault id draws) faulted
  unfolding applied
  apply_in_shape l e =
      let p = fault_passed e in
      let s : (next_of w tick fault id draws).state ≡ faulted = rw p in
      subst (λ (v : List ℕ). InShape v faulted) (ap state_words (sym s) ∙ changed (apply_answer w tick fault id draws) _ w e)
      (state_in_shape faulted (fault_sized (plants_in w) tick (fault_in fault id) (words_sized w l))
      (keeps_form (plants_in w) tick (fault_in fault id) draws p))

-- a core
module _ (w recovering picks : List ℕ) (full : ℕ) where
  abbrev whole : Bool
  whole = not (eqb full 0)

  abbrev after : Plants
  after = settled (plants_in w) (core_of (plants_in w).n recovering picks whole)

  core_passed : core_answer w recovering picks full ≡ 0 → choice_tested (plants_in w) recovering picks whole ≡ Ok tt
  unfolding core_answer chosen
  core_passed e = by (choice_tested (plants_in w) recovering picks whole) refl (or_zero (shaped w) _ e).1
    where
      by : (t : Result Unit Refusal) → choice_tested (plants_in w) recovering picks whole ≡ t → choice_number (chosen_if t (plants_in w) recovering picks whole).answer ≡ 0
          → choice_tested (plants_in w) recovering picks whole ≡ Ok tt
      by (Ok x) p q = p
      by (Err r) p q = absurd (nonzero r q)

  pub core_in_shape : length w ≡ state_size → core_answer w recovering picks full ≡ 0 → InShape (core_words w recovering picks full) after
  unfolding chosen
  core_in_shape l e =
      let p = core_passed e in
      let z : Sized after = record {
        up = length_up (core_of (plants_in w).n recovering picks whole) 0 most;
        partitioned = length-replicate most false;
        stable = (words_sized w l).stable;
      } in
      let s : (chosen_of w recovering picks full).state ≡ after = rw p in
      subst (λ (v : List ℕ). InShape v after) (ap state_words (sym s) ∙ changed (core_answer w recovering picks full) _ w e)
      (state_in_shape after z (ap tested (sym s) ∙ core-keeps-form (plants_in w) recovering picks whole p))

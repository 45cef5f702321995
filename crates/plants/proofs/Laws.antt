-- What a reader expects of the plants' calls: a refusal hands the plants back, an accepted call leaves a state that passes its tests, so does a
-- fresh_plants state, and a client's id plays no part in a verdict. Assumes nothing.
use mathlib.Core.Bool.{Bool, true, false, ◌&&◌}
use mathlib.Core.List.{List, ◌++◌}
use mathlib.Core.Path.{◌≡◌, refl, ◌∙◌}
use Prim.Native.Nat.{ℕ, zero, suc, ◌-◌, ◌≤◌}
use borrow.Author.Tests.{ltb-true, le-leb}
use lib.ListN.{drop, set, replicate, length-replicate}
use lib.Seq.{drop-set-lt, drop_at}
use Rattle.script.specs.declared.fault.Fault.{Fault}
use Rattle.script.specs.declared.fault.Fault.TheVariants.{Crash, Restart, Reboot, Partition, Heal, HealAll}
use Rattle.plants.specs.Refusals.{must, ◌then◌}
use Rattle.basis.specs.Basis.{fewest, most, plant_count}
use Rattle.basis.proofs.Laws.{both, not_few}
use Rattle.plants.specs.State.{fresh_plants, none_set, counts_fit, plants_formed, tested}
use Rattle.plants.specs.Faults.{after_fault, knows, has_nonce, fault_tested, applied_if, applied}
use Rattle.plants.specs.Verdicts.{verdict_tested, judged_if, verdict_given}
use Rattle.plants.specs.declared.Plants.{Plants}
use Rattle.plants.specs.declared.Origin.TheVariants.{Client}
use Rattle.plants.specs.declared.refusal.Refusal.{Refusal}
use Rattle.plants.specs.declared.refusal.Refusal.TheVariants.{UnknownPlant, CountFull, NoNonce}
use Rattle.std.specs.Prelude.{Result, Ok, Err}
use Rattle.plants.proofs.Testing.{both_pass, holds, count_holds, form_holds, nonce_missing}

-- ---- what an accepted fault passed
module _ (s : Plants) (tick : ℕ) (fault : Fault) (draws : List ℕ) where
  module _ (e : fault_tested s tick fault draws ≡ Ok tt) where
    known : Result Unit Refusal
    known = must (knows s fault) UnknownPlant

    fits : Result Unit Refusal
    fits = must (counts_fit (after_fault s tick fault)) CountFull

    drawn : Result Unit Refusal
    drawn = must (has_nonce fault draws) NoNonce

    parts : (tested s ≡ Ok tt) × ((known then fits then drawn) ≡ Ok tt)
    unfolding fault_tested known fits drawn
    parts = both_pass (tested s) (known then fits then drawn) e

    knows_passed : knows s fault ≡ true
    unfolding known
    knows_passed = holds (knows s fault) UnknownPlant (both_pass known (fits then drawn) parts.1).0

    counts_passed : counts_fit (after_fault s tick fault) ≡ true
    unfolding fits
    counts_passed = holds (counts_fit (after_fault s tick fault)) CountFull (both_pass fits drawn (both_pass known (fits then drawn) parts.1).1).0

    nonce_passed : has_nonce fault draws ≡ true
    unfolding drawn
    nonce_passed = holds (has_nonce fault draws) NoNonce (both_pass fits drawn (both_pass known (fits then drawn) parts.1).1).1

  hands_back : (t : Result Unit Refusal) (r : Refusal) → fault_tested s tick fault draws ≡ t → (applied_if t s tick fault draws).answer ≡ Err r → (applied_if t s tick fault draws).state ≡ s
  hands_back (Ok x) r e f =
      let y = nonce_passed e in
      let n = (nonce_missing fault draws r f).0 in
      cc
  hands_back (Err x) r e f = refl

  -- a refused fault hands the plants back as they came
  pub refused_hands_back : (r : Refusal) → (applied s tick fault draws).answer ≡ Err r → (applied s tick fault draws).state ≡ s
  unfolding applied
  refused_hands_back r e = hands_back (fault_tested s tick fault draws) r refl e

-- ---- flags past n
none_left : (k : ℕ) → none_set (replicate k false) ≡ true
unfolding none_set
none_left zero = refl
none_left (suc k) = none_left k

-- no flag is set past n where none is set
pub none_past : (n k : ℕ) → none_set (drop n (replicate k false)) ≡ true
unfolding none_set
none_past zero k = none_left k
none_past (suc n) zero = refl
none_past (suc n) (suc k) = none_past n k

pub well_formed : (s : Plants) → plant_count s.n ≡ true → none_set (drop s.n s.up) ≡ true → none_set (drop s.n s.partitioned) ≡ true → counts_fit s ≡ true
    → tested s ≡ Ok tt
unfolding tested plants_formed
well_formed s n u p f = rw (n, u, p, f)

module _ (s : Plants) (tick : ℕ) (e : tested s ≡ Ok tt) where
  flags_hold : (none_set (drop s.n s.up) ≡ true) × (none_set (drop s.n s.partitioned) ≡ true)
  unfolding plants_formed
  flags_hold =
      both (none_set (drop s.n s.up)) (none_set (drop s.n s.partitioned))
      (both (none_set (drop s.n s.up) && none_set (drop s.n s.partitioned)) (counts_fit s) (form_holds s e)).0

  set_below : (flags : List Bool) (i : ℕ) (v : Bool) → knows s (Crash i) ≡ true → none_set (drop s.n flags) ≡ true → none_set (drop s.n (set flags i v)) ≡ true
  unfolding knows
  set_below flags i v k h = rw (drop-set-lt s.n flags i v (ltb-true i s.n k)) h

  formed : (next : Plants) → next.n ≡ s.n → none_set (drop s.n next.up) ≡ true → none_set (drop s.n next.partitioned) ≡ true → counts_fit next ≡ true
      → tested next ≡ Ok tt
  formed next m u p f = well_formed next (rw m (count_holds s e)) (rw m u) (rw m p) f

  keeps : (fault : Fault) → knows s fault ≡ true → counts_fit (after_fault s tick fault) ≡ true → tested (after_fault s tick fault) ≡ Ok tt
  unfolding after_fault knows
  keeps (Crash i) k f = formed (after_fault s tick (Crash i)) refl (set_below s.up i false k flags_hold.0) flags_hold.1 f
  keeps (Restart i) k f = formed (after_fault s tick (Restart i)) refl (set_below s.up i true k flags_hold.0) flags_hold.1 f
  keeps (Reboot i) k f = formed (after_fault s tick (Reboot i)) refl (set_below s.up i true k flags_hold.0) flags_hold.1 f
  keeps (Partition i) k f = formed (after_fault s tick (Partition i)) refl flags_hold.0 (set_below s.partitioned i true k flags_hold.1) f
  keeps (Heal i) k f = formed (after_fault s tick (Heal i)) refl flags_hold.0 (set_below s.partitioned i false k flags_hold.1) f
  keeps HealAll k f = formed (after_fault s tick HealAll) refl flags_hold.0 (none_past s.n most) f

-- an accepted fault leaves a state that passes its tests
pub keeps_form : (s : Plants) (tick : ℕ) (fault : Fault) (draws : List ℕ) → fault_tested s tick fault draws ≡ Ok tt → tested (after_fault s tick fault) ≡ Ok tt
keeps_form s tick fault draws e =
    keeps s tick (parts s tick fault draws e).0 fault (knows_passed s tick fault draws e) (counts_passed s tick fault draws e)

-- a fresh_plants state passes its tests
pub fresh_passes : (n : ℕ) → fewest ≤ n → n ≤ most → tested (fresh_plants n) ≡ Ok tt
unfolding counts_fit
fresh_passes n h k =
    let u : none_set (drop n (replicate n true ++ replicate (most - n) false)) ≡ true =
    rw (drop_at (replicate n true) (replicate (most - n) false) n (length-replicate n true)) (none_left (most - n)) in
    well_formed (fresh_plants n) (not_few n h ∙ le-leb n most k) u (none_past n most) refl

-- a client's id plays no part in a verdict
any_client : (t : Result Unit Refusal) (s : Plants) (i j to : ℕ) → judged_if t s (Client i) to ≡ judged_if t s (Client j) to
any_client (Ok x) s i j to = refl
any_client (Err r) s i j to = refl

pub client_untested : (s : Plants) (i j to : ℕ) → verdict_given s (Client i) to ≡ verdict_given s (Client j) to
unfolding verdict_given verdict_tested
client_untested s i j to = any_client (verdict_tested s (Client i) to) s i j to

-- A refused call of the plants leaves every word, and no call on words in shape answers 40 or 42. Assumes nothing.
use Prim.Native.Nat.{ℕ}
use mathlib.Core.Path.{◌≡◌, refl, sym, ap, ◌∙◌, subst}
use mathlib.Core.Bool.{Bool, true, false, cond, not, ◌&&◌}
use mathlib.Core.List.{List, [], ◌∷◌}
use borrow.Author.Tests.{eqb-false}
use lib.Dec.{leb, ltb, eqb}
use lib.ListN.{length}
use Rattle.script.specs.declared.fault.Fault.{Fault}
use Rattle.script.specs.declared.fault.Fault.TheVariants.{Crash, Restart, Reboot, Partition, Heal, HealAll}
use Rattle.basis.specs.Basis.{quorum}
use Rattle.std.specs.Prelude.{Result, Ok, Err}
use Rattle.plants.specs.Refusals.{plants_refusal, must, ◌then◌}
use Rattle.plants.specs.State.{counts_fit, tested}
use Rattle.plants.specs.Faults.{after_fault, knows, answered, has_nonce, fault_tested, applied_if, applied}
use Rattle.plants.specs.Verdicts.{sender_known, verdict_tested, judged_if, verdict_given}
use Rattle.plants.specs.declared.Plants.{Plants}
use Rattle.plants.specs.declared.refusal.Refusal.{Refusal}
use Rattle.plants.specs.declared.refusal.Refusal.TheVariants.{UnknownPlant, CountFull, NoNonce, BadFlags, TooFewPicks, PickOutOfRange, TooFewHealthy}
use Rattle.plants_lineup.specs.Core.{picks_used, picks_in_range, recovering_fit, healthy_count, core_of}
use Rattle.plants_liveness.specs.Choice.{settled, lent_tested, choice_tested, chosen_if, chosen}
use Rattle.plants_layout.specs.Layout.{plants_in, shaped, fault_in, origin_in}
use Rattle.plants_words.specs.Calls.{or_else, outcome_number, new_answer, new_words, apply_answer, apply_words, nonce_words, verdict_answer, verdict_words, judged_number, choice_number, core_answer, core_words, core_answered}
use Rattle.plants_words.proofs.Answering.{kept, second}
use Rattle.host.specs.Plants.{InShape}

-- ---- a refusal leaves every word

pub new_refused_leaves : (n : ℕ) (w : List ℕ) → (new_answer n ≡ 0 → ⊥) → new_words n w ≡ w
new_refused_leaves n w r = sym (kept _ _ w r)

pub apply_refused_leaves : (w : List ℕ) (tick fault id : ℕ) (draws told : List ℕ) → (apply_answer w tick fault id draws ≡ 0 → ⊥)
    → (apply_words w tick fault id draws ≡ w) × (nonce_words w tick fault id draws told ≡ told)
apply_refused_leaves w tick fault id draws told r = (sym (kept _ _ w r), sym (kept _ _ told r))

pub verdict_refused_leaves : (w : List ℕ) (sort id to : ℕ) (told : List ℕ) → (verdict_answer w sort id to ≡ 0 → ⊥)
    → verdict_words w sort id to told ≡ told
verdict_refused_leaves w sort id to told r = sym (kept _ _ told r)

pub core_refused_leaves : (w recovering picks : List ℕ) (full : ℕ) (told : List ℕ) → (core_answer w recovering picks full ≡ 0 → ⊥)
    → (core_words w recovering picks full ≡ w) × (core_answered w recovering picks full told ≡ told)
core_refused_leaves w recovering picks full told r = (sym (kept _ _ w r), sym (kept _ _ told r))

-- ---- no call on words in shape answers 40 or 42

-- neither of the two numbers that the tests of a state have
pub record PastState (k : ℕ) : Type 0 where
  pub counted : k ≡ 40 → ⊥
  pub formed : k ≡ 42 → ⊥

past : (k : ℕ) → eqb k 40 ≡ false → eqb k 42 ≡ false → PastState k
past k a b = record { counted = eqb-false k 40 a; formed = eqb-false k 42 b }

-- tests in an order, of which none has them
abbrev Fails : Result Unit Refusal → Type 0
Fails (Ok x) = Unit {0}
Fails (Err r) = PastState (plants_refusal r)

fault_tests : (a b c : Bool) → Fails (must a UnknownPlant then must b CountFull then must c NoNonce)
fault_tests true true true = tt
fault_tests true true false = past 44 refl refl
fault_tests true false c = past 43 refl refl
fault_tests false b c = past 41 refl refl

verdict_tests : (a b : Bool) → Fails (must a UnknownPlant then must b UnknownPlant)
verdict_tests true true = tt
verdict_tests true false = past 41 refl refl
verdict_tests false b = past 41 refl refl

core_tests : (a b c d e : Bool)
    → Fails ((must a BadFlags then must b TooFewHealthy then must c TooFewPicks then must d PickOutOfRange) then must e CountFull)
core_tests true true true true true = tt
core_tests true true true true false = past 43 refl refl
core_tests true true true false e = past 47 refl refl
core_tests true true false d e = past 46 refl refl
core_tests true false c d e = past 48 refl refl
core_tests false b c d e = past 45 refl refl

past_if : (b : Bool) (k j : ℕ) → PastState k → PastState j → PastState (cond b k j)
past_if true k j p q = p
past_if false k j p q = q

answered_past : (fault : Fault) (draws : List ℕ) → PastState (outcome_number (answered fault draws))
answered_past (Crash i) draws = past 0 refl refl
answered_past (Restart i) draws = past 0 refl refl
answered_past (Reboot i) [] = past 44 refl refl
answered_past (Reboot i) (d ∷ ds) = past 0 refl refl
answered_past (Partition i) draws = past 0 refl refl
answered_past (Heal i) draws = past 0 refl refl
answered_past HealAll draws = past 0 refl refl

module _ (w : List ℕ) (s : Plants) (f : InShape w s) where
  passed_now : tested (plants_in w) ≡ Ok tt
  passed_now = ap tested f.state ∙ f.passed

  behind : (k : ℕ) → PastState k → PastState (or_else (shaped w) k)
  behind k p = subst PastState (sym (second (shaped w) k f.shape)) p

  module _ (tick fault id : ℕ) (draws : List ℕ) where
    apply_fails : Fails (fault_tested (plants_in w) tick (fault_in fault id) draws)
    unfolding fault_tested
    apply_fails =
        rw passed_now
        (fault_tests (knows (plants_in w) (fault_in fault id)) (counts_fit (after_fault (plants_in w) tick (fault_in fault id))) (has_nonce (fault_in fault id) draws))

    pub apply_past : PastState (apply_answer w tick fault id draws)
    unfolding apply_answer applied
    apply_past =
        past_if (leb fault 5) _ 5
        (behind _ (by (fault_tested (plants_in w) tick (fault_in fault id) draws) apply_fails))
        (past 5 refl refl)
      where
        by : (t : Result Unit Refusal) → Fails t → PastState (outcome_number (applied_if t (plants_in w) tick (fault_in fault id) draws).answer)
        by (Ok x) h = answered_past (fault_in fault id) draws
        by (Err r) h = h

  module _ (sort id to : ℕ) where
    verdict_fails : Fails (verdict_tested (plants_in w) (origin_in sort id) to)
    unfolding verdict_tested
    verdict_fails = rw passed_now (verdict_tests (ltb to (plants_in w).n) (sender_known (plants_in w) (origin_in sort id)))

    pub verdict_past : PastState (verdict_answer w sort id to)
    unfolding verdict_answer verdict_given
    verdict_past =
        past_if (leb sort 1) _ 24
        (behind _ (by (verdict_tested (plants_in w) (origin_in sort id) to) verdict_fails))
        (past 24 refl refl)
      where
        by : (t : Result Unit Refusal) → Fails t → PastState (judged_number (judged_if t (plants_in w) (origin_in sort id) to))
        by (Ok x) h = past 0 refl refl
        by (Err r) h = h

  module _ (recovering picks : List ℕ) (full : ℕ) where
    core_fails : Fails (choice_tested (plants_in w) recovering picks (not (eqb full 0)))
    unfolding choice_tested lent_tested
    core_fails =
        let n = (plants_in w).n in
        rw passed_now
        (core_tests (eqb (length recovering) n && recovering_fit recovering) (leb (quorum n) (healthy_count n recovering))
        (leb (picks_used n (not (eqb full 0))) (length picks)) (picks_in_range n picks (not (eqb full 0)))
        (counts_fit (settled (plants_in w) (core_of n recovering picks (not (eqb full 0))))))

    pub core_past : PastState (core_answer w recovering picks full)
    unfolding core_answer chosen
    core_past = behind _ (by (choice_tested (plants_in w) recovering picks (not (eqb full 0))) core_fails)
      where
        by : (t : Result Unit Refusal) → Fails t → PastState (choice_number (chosen_if t (plants_in w) recovering picks (not (eqb full 0))).answer)
        by (Ok x) h = past 0 refl refl
        by (Err r) h = h

-- Numbers of answers, and words that only an answer of 0 changes. Assumes nothing.
use Prim.Native.Nat.{ℕ, ◌≤◌, ◌<◌}
use mathlib.Core.Path.{◌≡◌, refl, sym, ap, ◌∙◌}
use mathlib.Core.Bool.{cond}
use mathlib.Core.List.{List}
use native.Mathlib.Omega.{arith}
use borrow.Author.Tests.{ne_eqb, le-leb, lt-leb}
use Rattle.std.specs.Prelude.{Option, Some, None, Result, Ok, Err, is_ok}
use Rattle.plants.specs.Refusals.{plants_refusal, answer_number}
use Rattle.plants.specs.declared.refusal.Refusal.{Refusal}
use Rattle.plants.specs.declared.refusal.Refusal.TheVariants.{PlantCount, UnknownPlant, IllFormed, CountFull, NoNonce, BadFlags, TooFewPicks, PickOutOfRange, TooFewHealthy}
use Rattle.script.specs.declared.fault.Fault.{Fault}
use Rattle.plants.specs.Faults.{applied}
use Rattle.plants.specs.Verdicts.{verdict_given}
use Rattle.plants.specs.declared.Origin.{Origin}
use Rattle.plants_layout.specs.Layout.{plants_in, shaped, fault_in, origin_in}
use Rattle.plants_words.specs.Calls.{or_else, on_zero, outcome_number, judged_number, apply_answer, verdict_answer}

-- a refusal's number is not 0
pub nonzero : (r : Refusal) → plants_refusal r ≡ 0 → ⊥
nonzero PlantCount e = omega arith
nonzero UnknownPlant e = omega arith
nonzero IllFormed e = omega arith
nonzero CountFull e = omega arith
nonzero NoNonce e = omega arith
nonzero BadFlags e = omega arith
nonzero TooFewPicks e = omega arith
nonzero PickOutOfRange e = omega arith
nonzero TooFewHealthy e = omega arith

-- ---- words that only an answer of 0 changes
pub kept : (k : ℕ) (after before : List ℕ) → (k ≡ 0 → ⊥) → before ≡ on_zero k after before
unfolding on_zero
kept k after before n = rw (ne_eqb k 0 n)

pub changed : (k : ℕ) (after before : List ℕ) → k ≡ 0 → after ≡ on_zero k after before
unfolding on_zero
changed k after before e = rw e

pub first : (k more : ℕ) → (k ≡ 0 → ⊥) → or_else k more ≡ k
unfolding or_else
first k more n = rw (ne_eqb k 0 n)

pub second : (k more : ℕ) → k ≡ 0 → or_else k more ≡ more
unfolding or_else
second k more e = rw e

-- ---- an answer that is a refusal: its number comes first, and no word is changed
module _ {A : Type 0} (x : Result A Refusal) (r : Refusal) (e : x ≡ Err r) where
  number : answer_number x ≡ plants_refusal r
  number = ap answer_number e

  pub refuses : (k more : ℕ) → answer_number x ≡ k → answer_number x ≡ or_else k more
  refuses k more f = f ∙ sym (first k more (λ z. nonzero r (sym number ∙ (f ∙ z))))

  pub stays : (after before : List ℕ) → before ≡ on_zero (answer_number x) after before
  stays after before = kept _ after before (λ z. nonzero r (sym number ∙ z))

-- ---- an answer behind words of a state's shape
pub follows : (k m n : ℕ) → 0 ≡ k → m ≡ n → m ≡ or_else k n
follows k m n e f = f ∙ sym (second k n (sym e))

-- the option that is no word
pub none_is : (o : Option ℕ) → ((x : ℕ) → o ≡ Some x → ⊥) → o ≡ None
none_is None h = refl
none_is (Some x) h = absurd (h x refl)

-- ---- fresh plants: what is done is written
pub by_ok : (x : Result (Option ℕ) Refusal) (after before : List ℕ) → cond (is_ok x) after before ≡ on_zero (outcome_number x) after before
unfolding on_zero
by_ok (Ok d) after before = refl
by_ok (Err r) after before = kept (plants_refusal r) after before (nonzero r)

-- ---- a fault, and a sender, by their numbers
module _ (w : List ℕ) (tick fault id : ℕ) (draws : List ℕ) where
  pub fault_over : 5 < fault → apply_answer w tick fault id draws ≡ 5
  unfolding apply_answer
  fault_over h = rw (lt-leb fault 5 h)

  pub fault_known : fault ≤ 5 → (f : Fault) → f ≡ fault_in fault id
      → or_else (shaped w) (outcome_number (applied (plants_in w) tick f draws).answer) ≡ apply_answer w tick fault id draws
  unfolding apply_answer
  fault_known h f e = rw (le-leb fault 5 h, e)

module _ (w : List ℕ) (sort id to : ℕ) where
  pub sort_over : 1 < sort → verdict_answer w sort id to ≡ 24
  unfolding verdict_answer
  sort_over h = rw (lt-leb sort 1 h)

  pub sort_known : sort ≤ 1 → (o : Origin) → o ≡ origin_in sort id
      → or_else (shaped w) (judged_number (verdict_given (plants_in w) o to)) ≡ verdict_answer w sort id to
  unfolding verdict_answer
  sort_known h o e = rw (le-leb sort 1 h, e)

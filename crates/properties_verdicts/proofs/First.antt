-- Laws of the first answer that is no pass: a loop over numbers goes on at a pass and stops at anything else. Assumes nothing.
use native.Mathlib.Omega.{arith}
use native.Mathlib.Decide.{dec_lt}
use native.Mathlib.Numerals.{add-one}
use mathlib.Core.Bool.{Bool, true, false}
use mathlib.Core.Path.{◌≡◌, refl, ap, ◌∙◌}
use Prim.Native.Nat.{ℕ, zero, suc, ◌+◌, ◌-◌, ◌≤◌, ◌<◌}
use Rattle.std.specs.Prelude.{⊤, Result, Ok, Err}
use Rattle.properties_verdicts.specs.Verdicts.{and_then, first_answer, at_entry, unless, broken, judged, refused}
use Rattle.properties_verdicts.specs.declared.Break.{Break}
use Rattle.properties_verdicts.specs.declared.Failure.TheVariants.{Broken, Refused}
use Rattle.properties_verdicts.specs.declared.Property.{Property}
use Rattle.properties_verdicts.specs.declared.Refusal.{Refusal}

-- an error is no pass
pub no_pass : {E : Type 0} (e : E) → ◌≡◌ {A = Result ⊤ E} (Err e) (Ok tt) → ⊥
no_pass e q = cc

-- both of two answers pass if the two in order do
pub then_pass : {E : Type 0} (a b : Result ⊤ E) → and_then a b ≡ Ok tt → (a ≡ Ok tt) × (b ≡ Ok tt)
then_pass (Ok x) b e = (refl, e)
then_pass (Err x) b e = absurd (no_pass x e)

-- an entry's test that passes
pub test_holds : (p : Property) (r i t : ℕ) (b : Bool) → at_entry p r i t b ≡ Ok tt → b ≡ true
test_holds p r i t true e = refl
test_holds p r i t false e = absurd (no_pass (broken p r i t) e)

-- what is left of the numbers up to e, at i
left : (i e : ℕ) → i < e → e - i ≡ suc (e - (i + 1))
left i e h = omega arith

pub first_on : {E : Type 0} (f : ℕ → Result ⊤ E) (i e : ℕ) → i < e → f i ≡ Ok tt → first_answer f i (e - i) ≡ first_answer f (i + 1) (e - (i + 1))
unfolding first_answer
first_on f i e h p = rw (left i e h, first_answer, p, add-one)

pub first_stop : {E : Type 0} (f : ℕ → Result ⊤ E) (i e : ℕ) (x : E) → i < e → f i ≡ Err x → first_answer f i (e - i) ≡ Err x
unfolding first_answer
first_stop f i e x h p = rw (left i e h, first_answer, p)

pub first_end : {E : Type 0} (f : ℕ → Result ⊤ E) (i e : ℕ) → e ≤ i → first_answer f i (e - i) ≡ Ok tt
unfolding first_answer
first_end f i e h = let z : e - i ≡ 0 = omega arith in rw z

-- two that answer alike at every number asked
pub first_same : {E : Type 0} (f g : ℕ → Result ⊤ E) (i k : ℕ) → ((j : ℕ) → i ≤ j → j < i + k → f j ≡ g j) → first_answer f i k ≡ first_answer g i k
unfolding first_answer
first_same f g i zero h = refl
first_same f g i (suc k) h =
    rw (h i (omega arith) (omega arith), first_same f g (suc i) k (λ j l m. h j (omega arith) (omega arith)))

-- all pass if the first that does not is none
pub first_pass : {E : Type 0} (f : ℕ → Result ⊤ E) (i k : ℕ) → first_answer f i k ≡ Ok tt → (j : ℕ) → i ≤ j → j < i + k → f j ≡ Ok tt
unfolding first_answer
first_pass f i zero e j l m = absurd (omega arith)
first_pass f i (suc k) e j l m =
    let b = then_pass (f i) (first_answer f (suc i) k) e in
    elim (dec_lt i j) [
      | yes g ↦ first_pass f (suc i) k b.1 j (omega arith) (omega arith)
      | no g ↦
          let z : j ≡ i = omega arith in ap f z ∙ b.0
    ]

-- and the other way round
pub all_pass : {E : Type 0} (f : ℕ → Result ⊤ E) (i k : ℕ) → ((j : ℕ) → i ≤ j → j < i + k → f j ≡ Ok tt) → first_answer f i k ≡ Ok tt
unfolding first_answer
all_pass f i zero h = refl
all_pass f i (suc k) h = rw (h i (omega arith) (omega arith)) (all_pass f (suc i) k (λ j a b. h j (omega arith) (omega arith)))

-- a test that passes, of a refusal or of a place
pub unless_known : {E : Type 0} (x : E) (b : Bool) → unless x b ≡ Ok tt → b ≡ true
unless_known x true e = refl
unless_known x false e = absurd (no_pass x e)

-- a call's answer passes where what it was made of does
pub judged_pass : (a : Result ⊤ Break) → judged a ≡ Ok tt → a ≡ Ok tt
judged_pass (Ok x) e = refl
judged_pass (Err b) e = absurd (no_pass (Broken b) e)

pub refused_pass : (a : Result ⊤ Refusal) → refused a ≡ Ok tt → a ≡ Ok tt
refused_pass (Ok x) e = refl
refused_pass (Err r) e = absurd (no_pass (Refused r) e)

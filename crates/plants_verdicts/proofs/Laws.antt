-- What a reader may expect of the verdicts in one call: on one record it is the single call; each word told is the word that the single
-- call tells, whatever it is lent; the first refusal is the answer; the state's own answer counts only where there is no record.
-- Assumes nothing.
use Prim.Native.Nat.{ℕ, ◌*◌, ◌<◌}
use mathlib.Core.Path.{◌≡◌, refl, sym, ap, ◌∙◌}
use mathlib.Core.Bool.{Bool, true, false}
use mathlib.Core.List.{List, [], ◌∷◌, ◌++◌, map}
use borrow.Author.Tests.{eqb-true, eqb-false}
use lib.Dec.{eqb}
use lib.ListN.{length, get_or}
use Rattle.nights.specs.Record.{Record, words, record_size, record_at, recs}
use Rattle.plants.specs.Verdicts.{verdict_tested, verdict_given, judged_if}
use Rattle.plants.specs.declared.Plants.{Plants}
use Rattle.plants.specs.declared.Origin.{Origin}
use Rattle.plants.specs.declared.refusal.Refusal.{Refusal}
use Rattle.std.specs.Prelude.{Result, Ok}
use Rattle.plants_layout.specs.Layout.{plants_in, origin_in}
use Rattle.plants_words.specs.Calls.{or_else, on_zero, judged_word, verdict_answer, verdict_words}
use Rattle.plants_words.proofs.Answering.{kept, changed, first, second}
use Rattle.plants_verdicts.specs.Calls.{answer_on, told_on, state_answer, first_answer, verdicts_answer, verdicts_words}
use Rattle.plants_verdicts.proofs.Judging.{state_whole, all_pass}
use Rattle.plants_verdicts.proofs.Each.{each_zero, at_place, answered_zero}

-- ---- the single call, where it is not refused
same_word : (t : Result Unit Refusal) (s : Plants) (from : Origin) (to k a : ℕ) → t ≡ Ok tt → k ≡ 0
    → on_zero k (judged_word (judged_if t s from to) (a ∷ [])) (a ∷ [])
    ≡ get_or (on_zero k (judged_word (judged_if t s from to) (0 ∷ [])) (0 ∷ [])) 0 0 ∷ []
unfolding on_zero
same_word t s from to k a e z = rw (e, z)

module _ (w : List ℕ) (r : Record) (e : answer_on w r ≡ 0) where
  -- the word that it tells does not depend on the word that it is lent
  pub any_word : (a : ℕ) → verdict_words w r.sort r.origin r.to (a ∷ []) ≡ told_on w r ∷ []
  unfolding verdict_given
  any_word a =
      same_word (verdict_tested (plants_in w) (origin_in r.sort r.origin) r.to) (plants_in w) (origin_in r.sort r.origin) r.to _ a (all_pass w r.sort r.origin r.to e) e

  -- and the state has no refusal of its own
  pub state_has_none : state_answer w ≡ 0
  state_has_none = state_whole w r.sort r.origin r.to e

-- ---- the first refusal is the answer
pub first_answers : (before : List ℕ) (k : ℕ) (more : List ℕ) (last : ℕ) → first_answer before 0 ≡ 0 → (k ≡ 0 → ⊥)
    → first_answer (before ++ (k ∷ more)) last ≡ k
unfolding first_answer
first_answers [] k more last z n = first k (first_answer more last) n
first_answers (b ∷ before) k more last z n =
    second b _ (each_zero (b ∷ before) 0 0 z) ∙ first_answers before k more last (sym (second b (first_answer before 0) (each_zero (b ∷ before) 0 0 z)) ∙ z) n

-- ---- an answer of 0 is one of each record
pub each_answered : (w records told : List ℕ) (i : ℕ) → i < length told → verdicts_answer w records told ≡ 0
    → answer_on w (record_at records (i * record_size)) ≡ 0
each_answered w records told i h e =
    sym (at_place (answer_on w) records (length told) i h)
    ∙ each_zero (map (answer_on w) (recs records 0 (length told))) (state_answer w) i (answered_zero w records told e)

-- ---- on one record it is the single call
module _ (w : List ℕ) (r : Record) (a : ℕ) where
  then_state : (b : Bool) → eqb (answer_on w r) 0 ≡ b → or_else (answer_on w r) (state_answer w) ≡ answer_on w r
  then_state true e = let z = eqb-true _ 0 e in second _ (state_answer w) z ∙ (state_has_none w r z ∙ sym z)
  then_state false e = first _ (state_answer w) (eqb-false _ 0 e)

  pub single_answer : verdicts_answer w (words r) (a ∷ []) ≡ verdict_answer w r.sort r.origin r.to
  unfolding verdicts_answer first_answer recs
  single_answer = then_state (eqb (answer_on w r) 0) refl

  by_answer : (b : Bool) → eqb (answer_on w r) 0 ≡ b
      → on_zero (answer_on w r) (told_on w r ∷ []) (a ∷ []) ≡ verdict_words w r.sort r.origin r.to (a ∷ [])
  by_answer true e = let z = eqb-true _ 0 e in sym (changed _ (told_on w r ∷ []) (a ∷ []) z) ∙ sym (any_word w r z a)
  by_answer false e =
      let n = eqb-false _ 0 e in
      sym (kept _ (told_on w r ∷ []) (a ∷ []) n) ∙ kept _ _ (a ∷ []) n

  pub single_words : verdicts_words w (words r) (a ∷ []) ≡ verdict_words w r.sort r.origin r.to (a ∷ [])
  unfolding recs
  single_words = ap (λ (k : ℕ). on_zero k (told_on w r ∷ []) (a ∷ [])) single_answer ∙ by_answer (eqb (answer_on w r) 0) refl

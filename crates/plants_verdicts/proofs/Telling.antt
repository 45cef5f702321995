-- What the call answers and tells, by the first refusal among the records. Assumes nothing.
use Prim.Native.Nat.{ℕ, ◌*◌, ◌≤◌}
use mathlib.Core.Path.{◌≡◌, refl, sym, ap, ◌∙◌}
use mathlib.Core.List.{List, map}
use native.Mathlib.Omega.{arith}
use lib.ListN.{length}
use Rattle.std.specs.Prelude.{Result, Ok, Err}
use Rattle.nights.specs.Record.{record_size, recs}
use Rattle.plants_words.proofs.Answering.{changed}
use Rattle.plants_verdicts.specs.Calls.{refused_number, answer_on, told_on, state_answer, first_answer, verdicts_answer, verdicts_words}
use Rattle.plants_verdicts.specs.declared.Refused.{Refused}
use Rattle.plants_verdicts.proofs.Each.{one_refused, all_told}
use Rattle.plants_verdicts.proofs.States.{refused}

-- a refusal's number is not 0
pub refused_above : (x : Result Unit Refused) (why : Refused) → x ≡ Err why → 1 ≤ refused_number x
refused_above x why e = let n : refused_number x ≡ 0 → ⊥ = λ z. refused why (sym (ap refused_number e) ∙ z) in omega (arith, n)

module _ (w r t : List ℕ) where
  -- one is refused: there is a record for each word that is lent
  pub refused_answer : (n : ℕ) (x : Result Unit Refused) → n ≡ length t → n * record_size ≡ length r
      → refused_number x ≡ first_answer (map (answer_on w) (recs r 0 n)) (state_answer w)
      → (why : Refused) → x ≡ Err why → refused_number x ≡ verdicts_answer w r t
  refused_answer n x room even first why e =
      let asked = first ∙ ap (λ (k : ℕ). first_answer (map (answer_on w) (recs r 0 k)) (state_answer w)) room in
      (one_refused w r t (omega arith) (refused_number x) asked (λ z. refused why (sym (ap refused_number e) ∙ z))).0

  -- then no word changes
  pub refused_told : length r ≡ record_size * length t → 1 ≤ first_answer (map (answer_on w) (recs r 0 (length t))) (state_answer w)
      → verdicts_words w r t ≡ t
  refused_told even e =
      let k : ℕ = first_answer (map (answer_on w) (recs r 0 (length t))) (state_answer w) in
      sym (one_refused w r t even k refl (λ (z : k ≡ 0). omega arith)).1

  -- none is refused
  pub passed_answer : length r ≡ record_size * length t → first_answer (map (answer_on w) (recs r 0 (length t))) (state_answer w) ≡ 0
      → 0 ≡ verdicts_answer w r t
  passed_answer even e = (all_told w r t even _ e refl).0

  -- then each verdict is told
  pub passed_told : 0 ≡ verdicts_answer w r t → verdicts_words w r t ≡ map (told_on w) (recs r 0 (length t))
  passed_told e = sym (changed _ _ t (sym e))

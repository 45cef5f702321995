-- Records one after the other: the first refusal among them, and the verdicts that are told. Assumes nothing.
use Prim.Native.Nat.{ℕ, zero, suc, ◌+◌, ◌*◌, ◌-◌, ◌≤◌, ◌<◌}
use mathlib.Core.Path.{◌≡◌, refl, sym, ap, ◌∙◌}
use mathlib.Core.Bool.{Bool, true, false}
use mathlib.Core.List.{List, [], ◌∷◌, map}
use native.Mathlib.Omega.{arith}
use borrow.Author.Tests.{eq-eqb, ne_eqb}
use lib.Dec.{eqb}
use lib.ListN.{length, get_or, length-map}
use Rattle.nights.specs.Record.{Record, record_size, record_at, recs}
use Rattle.network_queue.proofs.Inserting.{length-recs, peel}
use Rattle.plants_words.specs.Calls.{or_else}
use Rattle.plants_words.proofs.Answering.{kept, changed, first, second}
use Rattle.plants_verdicts.specs.Calls.{answer_on, told_on, state_answer, first_answer, records_of, verdicts_answer, verdicts_words}
use Rattle.plants_verdicts.proofs.States.{both_zero}

-- ---- the first refusal, by what is left to ask
abbrev pub asked : (Record → ℕ) → List ℕ → (n last i : ℕ) → ℕ
asked f w n last i = first_answer (map f (recs w (i * record_size) (n - i))) last

module _ (f : Record → ℕ) (w : List ℕ) (n last i : ℕ) where
  next : i < n → asked f w n last i ≡ or_else (f (record_at w (i * record_size))) (asked f w n last (i + 1))
  unfolding first_answer
  next h = rw (peel w n 0 0 i h)

  pub goes_on : i < n → f (record_at w (i * record_size)) ≡ 0 → asked f w n last i ≡ asked f w n last (i + 1)
  goes_on h e = next h ∙ second _ (asked f w n last (i + 1)) e

  pub stops : i < n → (f (record_at w (i * record_size)) ≡ 0 → ⊥) → asked f w n last i ≡ f (record_at w (i * record_size))
  stops h e = next h ∙ first _ (asked f w n last (i + 1)) e

  pub none_left : n ≤ i → asked f w n last i ≡ last
  unfolding first_answer recs
  none_left h = let z : n - i ≡ 0 = omega arith in rw z

-- ---- numbers of which none is a refusal
pub each_zero : (ks : List ℕ) (last i : ℕ) → first_answer ks last ≡ 0 → get_or ks i 0 ≡ 0
unfolding first_answer
each_zero [] last i e = refl
each_zero (k ∷ ks) last zero e = (both_zero k (first_answer ks last) e).0
each_zero (k ∷ ks) last (suc i) e = each_zero ks last i (both_zero k (first_answer ks last) e).1

-- ---- what stands at a place
at : (f : Record → ℕ) (w : List ℕ) (b n i : ℕ) → i < n → get_or (map f (recs w b n)) i 0 ≡ f (record_at w (b + i * record_size))
unfolding recs
at f w b zero i h = absurd (omega arith)
at f w b (suc n) zero h = let z : b + 0 * record_size ≡ b = omega arith in ap (λ (k : ℕ). f (record_at w k)) (sym z)
at f w b (suc n) (suc i) h =
    let z : b + record_size + i * record_size ≡ b + suc i * record_size = omega arith in
    at f w (b + record_size) n i (omega arith) ∙ ap (λ (k : ℕ). f (record_at w k)) z

pub at_place : (f : Record → ℕ) (w : List ℕ) (n i : ℕ) → i < n → get_or (map f (recs w 0 n)) i 0 ≡ f (record_at w (i * record_size))
at_place f w n i h =
    let z : 0 + i * record_size ≡ i * record_size = omega arith in at f w 0 n i h ∙ ap (λ (k : ℕ). f (record_at w k)) z

pub as_many : (f : Record → ℕ) (w : List ℕ) (n : ℕ) → length (map f (recs w 0 n)) ≡ n
as_many f w n = length-map (recs w 0 n) f ∙ length-recs w 0 n

-- ---- the call, by where it ends
module _ (w records told : List ℕ) where
  abbrev pub Judged : ℕ → List ℕ → Type 0
  Judged r t = (r ≡ verdicts_answer w records told) × (t ≡ verdicts_words w records told)

  refused : (r : ℕ) → r ≡ verdicts_answer w records told → (r ≡ 0 → ⊥) → Judged r told
  refused r e n = (e, kept _ _ told (λ z. n (e ∙ z)))

  pub uneven : (length records ≡ record_size * length told → ⊥) → Judged 30 told
  unfolding verdicts_answer
  uneven h = refused 30 (rw (ne_eqb (length records) (record_size * length told) h)) (λ z. omega arith)

  module _ (h : length records ≡ record_size * length told) where
    answers : verdicts_answer w records told ≡ first_answer (map (answer_on w) (records_of w records told)) (state_answer w)
    unfolding verdicts_answer
    answers = rw (eq-eqb (length records) (record_size * length told) h)

    pub one_refused : (r : ℕ) → r ≡ first_answer (map (answer_on w) (records_of w records told)) (state_answer w) → (r ≡ 0 → ⊥) → Judged r told
    one_refused r e n = refused r (e ∙ sym answers) n

    pub all_told : (t : List ℕ) → first_answer (map (answer_on w) (records_of w records told)) (state_answer w) ≡ 0
        → t ≡ map (told_on w) (records_of w records told) → Judged 0 t
    all_told t e p = let d = answers ∙ e in (sym d, p ∙ changed _ _ told d)

  by_evenness : (b : Bool) → eqb (length records) (record_size * length told) ≡ b → verdicts_answer w records told ≡ 0
      → first_answer (map (answer_on w) (records_of w records told)) (state_answer w) ≡ 0
  unfolding verdicts_answer
  by_evenness true k e = rw k at e
  by_evenness false k e = let z : ◌≡◌ {A = ℕ} 30 0 = rw k at e in absurd (omega arith)

  -- an answer of 0 is one of the records and the state
  pub answered_zero : verdicts_answer w records told ≡ 0 → first_answer (map (answer_on w) (records_of w records told)) (state_answer w) ≡ 0
  answered_zero e = by_evenness (eqb (length records) (record_size * length told)) refl e

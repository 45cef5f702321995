-- The verdicts on all records of a take in one call (RULES, "The host's boundary"): record by record what the single call answers and
-- tells, and the first refusal is the answer. A refusal leaves the words as they came. Assumes nothing.
use Rattle.std.specs.Prelude.{ℕ, ◌*◌, cond, List, [], ◌∷◌, map, eqb, length, get_or, Result, Ok, Err}
use Rattle.nights.specs.Record.{Record, record_size, recs}
use Rattle.plants.specs.Refusals.{plants_refusal}
use Rattle.plants.specs.State.{tested}
use Rattle.plants.specs.declared.refusal.Refusal.{Refusal}
use Rattle.plants_verdicts.specs.declared.Refused.{Refused}
use Rattle.plants_verdicts.specs.declared.Refused.TheVariants.{UnknownSort, BadRoom, ByPlants}
use Rattle.plants_layout.specs.Layout.{plants_in, shaped}
use Rattle.plants_words.specs.Calls.{or_else, on_zero, verdict_answer, verdict_words}

-- an answer as a number: 0, or the number of its refusal
abbrev pub refused_number : Result Unit Refused → ℕ
refused_number (Ok x) = 0
refused_number (Err UnknownSort) = 24
refused_number (Err BadRoom) = 30
refused_number (Err (ByPlants r)) = plants_refusal r

-- the single call on a record: what it answers, and the word that it tells where it is lent a 0
abbrev pub answer_on : List ℕ → Record → ℕ
answer_on w r = verdict_answer w r.sort r.origin r.to

abbrev pub told_on : List ℕ → Record → ℕ
told_on w r = get_or (verdict_words w r.sort r.origin r.to (0 ∷ [])) 0 0

-- what a state answers by itself: 40 and 42
abbrev pub test_number : Result Unit Refusal → ℕ
test_number (Ok x) = 0
test_number (Err r) = plants_refusal r

unfoldable pub state_answer : List ℕ → ℕ
state_answer w = or_else (shaped w) (test_number (tested (plants_in w)))

-- the first number that is not 0, of a list and then a last one
unfoldable pub first_answer : List ℕ → ℕ → ℕ
first_answer [] last = last
first_answer (k ∷ ks) last = or_else k (first_answer ks last)

-- the call: a record for each word that is lent for a verdict, or 30; then the records' answers, and the state's own
module _ (w records told : List ℕ) where
  abbrev pub records_of : List Record
  records_of = recs records 0 (length told)

  unfoldable pub verdicts_answer : ℕ
  verdicts_answer =
      cond (eqb (length records) (record_size * length told)) (first_answer (map (answer_on w) records_of) (state_answer w)) 30

  abbrev pub verdicts_words : List ℕ
  verdicts_words = on_zero verdicts_answer (map (told_on w) records_of) told

-- Each call over lent words: the words in, the same call's definition, the words out. The answer is 0 or a refusal's number, and then
-- every word is as it came. A fault over 5 is 5 and a sender's sort over 1 is 24, before the state is looked at. Assumes nothing.
use Rattle.std.specs.Prelude.{ℕ, cond, not, List, [], ◌∷◌, leb, eqb, Option, Some, None, Result, Ok, Err}
use Rattle.plants.specs.Refusals.{plants_refusal}
use Rattle.plants.specs.State.{Next, new_plants}
use Rattle.plants.specs.Faults.{applied}
use Rattle.plants.specs.Verdicts.{verdict_number, verdict_given}
use Rattle.plants.specs.declared.Verdict.{Verdict}
use Rattle.plants.specs.declared.refusal.Refusal.{Refusal}
use Rattle.plants_liveness.specs.Choice.{Chosen, chosen}
use Rattle.plants_liveness.specs.declared.Core.{Core}
use Rattle.plants_layout.specs.Layout.{plants_in, state_words, shaped, fault_in, origin_in}

-- a number, and another where it is 0
unfoldable pub or_else : ℕ → ℕ → ℕ
or_else k more = cond (eqb k 0) more k

-- words that only an answer of 0 changes
unfoldable pub on_zero : ℕ → List ℕ → List ℕ → List ℕ
on_zero k after before = cond (eqb k 0) after before

abbrev pub outcome_number : Result (Option ℕ) Refusal → ℕ
outcome_number (Ok drew) = 0
outcome_number (Err r) = plants_refusal r

-- fresh plants
abbrev pub new_answer : ℕ → ℕ
new_answer n = outcome_number (new_plants n).answer

abbrev pub new_words : ℕ → List ℕ → List ℕ
new_words n w = on_zero (new_answer n) (state_words (new_plants n).state) w

-- the nonce that a reboot drew
abbrev pub drawn : Result (Option ℕ) Refusal → List ℕ → List ℕ
drawn (Ok None) told = told
drawn (Ok (Some d)) told = d ∷ []
drawn (Err r) told = told

-- a fault
module _ (w : List ℕ) (tick fault id : ℕ) (draws : List ℕ) where
  abbrev pub next_of : Next
  next_of = applied (plants_in w) tick (fault_in fault id) draws

  unfoldable pub apply_answer : ℕ
  apply_answer = cond (leb fault 5) (or_else (shaped w) (outcome_number next_of.answer)) 5

  abbrev pub apply_words : List ℕ
  apply_words = on_zero apply_answer (state_words next_of.state) w

  abbrev pub nonce_words : List ℕ → List ℕ
  nonce_words told = on_zero apply_answer (drawn next_of.answer told) told

-- a verdict
abbrev pub judged_number : Result Verdict Refusal → ℕ
judged_number (Ok v) = 0
judged_number (Err r) = plants_refusal r

abbrev pub judged_word : Result Verdict Refusal → List ℕ → List ℕ
judged_word (Ok v) told = verdict_number v ∷ []
judged_word (Err r) told = told

module _ (w : List ℕ) (sort id to : ℕ) where
  unfoldable pub verdict_answer : ℕ
  verdict_answer = cond (leb sort 1) (or_else (shaped w) (judged_number (verdict_given (plants_in w) (origin_in sort id) to))) 24

  abbrev pub verdict_words : List ℕ → List ℕ
  verdict_words told = on_zero verdict_answer (judged_word (verdict_given (plants_in w) (origin_in sort id) to) told) told

-- a core
abbrev pub choice_number : Result Core Refusal → ℕ
choice_number (Ok core) = 0
choice_number (Err r) = plants_refusal r

abbrev pub core_told : (size used : ℕ) → List ℕ → List ℕ
core_told size used core = size ∷ used ∷ core

module _ (w recovering picks : List ℕ) (full : ℕ) where
  abbrev pub chosen_of : Chosen
  chosen_of = chosen (plants_in w) recovering picks (not (eqb full 0))

  unfoldable pub core_answer : ℕ
  core_answer = or_else (shaped w) (choice_number chosen_of.answer)

  abbrev pub core_words : List ℕ
  core_words = on_zero core_answer (state_words chosen_of.state) w

  abbrev pub core_told_by : Result Core Refusal → List ℕ → List ℕ
  core_told_by (Ok core) told = core_told core.size core.used core.ids
  core_told_by (Err r) told = told

  abbrev pub core_answered : List ℕ → List ℕ
  core_answered told = on_zero core_answer (core_told_by chosen_of.answer told) told

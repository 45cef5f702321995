-- The refusals 40 to 48 by their names (RULES, "Refusal numbers"), and tests in an order, of which the first that fails answers.
-- Assumes nothing.
use Rattle.std.specs.Prelude.{Bool, cond, ℕ, Result, Ok, Err}
use Rattle.plants.specs.declared.refusal.Refusal.{Refusal}
use Rattle.plants.specs.declared.refusal.Refusal.TheVariants.{PlantCount, UnknownPlant, IllFormed, CountFull, NoNonce, BadFlags, TooFewPicks, PickOutOfRange, TooFewHealthy}

abbrev pub plants_refusal : Refusal → ℕ
plants_refusal PlantCount = 40
plants_refusal UnknownPlant = 41
plants_refusal IllFormed = 42
plants_refusal CountFull = 43
plants_refusal NoNonce = 44
plants_refusal BadFlags = 45
plants_refusal TooFewPicks = 46
plants_refusal PickOutOfRange = 47
plants_refusal TooFewHealthy = 48

-- an answer as a number: 0, or the number of its refusal
abbrev pub answer_number : {A : Type 0} → Result A Refusal → ℕ
answer_number (Ok x) = 0
answer_number (Err r) = plants_refusal r

-- a test that fails with a refusal
abbrev pub must : Bool → Refusal → Result Unit Refusal
must holds r = cond holds (Ok tt) (Err r)

infixr 20 ◌then◌
-- one test and then another
abbrev pub ◌then◌ : Result Unit Refusal → Result Unit Refusal → Result Unit Refusal
◌then◌ (Ok x) t = t
◌then◌ (Err r) t = Err r

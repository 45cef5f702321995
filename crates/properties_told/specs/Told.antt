-- An answer about the properties as a number and four words: 0 and the broken place, with zeros for a pass; or a refusal's number, and
-- the words as they came. Assumes nothing.
use Rattle.std.specs.Prelude.{ℕ, List, [], ◌∷◌, ⊤, Result, Ok, Err}
use Rattle.properties_verdicts.specs.Verdicts.{property_number, properties_refusal}
use Rattle.properties_verdicts.specs.declared.Failure.{Failure}
use Rattle.properties_verdicts.specs.declared.Failure.TheVariants.{Broken, Refused}

-- the words of an answer
abbrev pub answer_words : ℕ
answer_words = 4

abbrev pub answer_number : Result ⊤ Failure → ℕ
answer_number (Ok x) = 0
answer_number (Err (Broken b)) = 0
answer_number (Err (Refused e)) = properties_refusal e

abbrev pub answer_told : Result ⊤ Failure → List ℕ → List ℕ
answer_told (Ok x) told = 0 ∷ 0 ∷ 0 ∷ 0 ∷ []
answer_told (Err (Broken b)) told = property_number b.property ∷ b.plant ∷ b.index ∷ b.test ∷ []
answer_told (Err (Refused e)) told = told

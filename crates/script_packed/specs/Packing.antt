-- A script's answer in one word: the count of its events or, for a refusal, its number, why and at which byte a number went bad (0 and 0
-- where it is no tick and no id), and its line, each times its factor; and how they are taken apart again. Assumes nothing.
use Rattle.std.specs.Prelude.{Ok, Err, ℕ, ◌+◌, ◌*◌, ◌/◌, ◌%◌, ◌^◌}
use Rattle.script.specs.Scripts.{Script, script_refusal, refusal_why, refusal_byte}

-- what each part is multiplied by; the line, which stands lowest, is not
abbrev pub number_factor : ℕ
number_factor = 2 ^ 56

abbrev pub why_factor : ℕ
why_factor = 2 ^ 48

abbrev pub byte_factor : ℕ
byte_factor = 2 ^ 24

abbrev pub answer_word : Script → ℕ
answer_word (Ok n) = n
answer_word (Err refused) =
    script_refusal refused.refusal * number_factor + refusal_why refused.refusal * why_factor + refusal_byte refused.refusal * byte_factor
    + refused.line

-- the parts of a word. A number of 0 says that the word is a count of events
abbrev pub number_in : ℕ → ℕ
number_in word = word / number_factor

abbrev pub why_in : ℕ → ℕ
why_in word = word % number_factor / why_factor

abbrev pub byte_in : ℕ → ℕ
byte_in word = word % why_factor / byte_factor

abbrev pub line_in : ℕ → ℕ
line_in word = word % byte_factor

-- A refusal's word can be taken apart again: its number is 1 to 8 and its reason at most 3, and no text is so long that its line or a byte
-- of a word reaches the factor above it. A count of events stays below every number's factor, so that a number of 0 means events. Assumes
-- nothing.
use native.Mathlib.Omega.{arith}
use mathlib.Core.List.{List}
use mathlib.Core.Path.{◌≡◌}
use Prim.Native.Nat.{ℕ, ◌≤◌, ◌<◌}
use Rattle.numeral.specs.Reading.{why_number}
use Rattle.numeral.specs.declared.Why.{Why}
use Rattle.numeral.specs.declared.Why.TheVariants.{NoDigit, StrayByte, TooLarge}
use Rattle.script.specs.Scripts.{refused_at, script_refusal, refusal_why, refusal_byte, script_answer}
use Rattle.script.specs.declared.line.Refusal.{Refusal}
use Rattle.script.specs.declared.line.Refusal.TheVariants.{TooLong, BadByte, OneWord, BadTick, UnknownFault, MissingId, BadId, NoRoom}
use Rattle.std.specs.Prelude.{Ok}
use Rattle.script.proofs.Laws.{refusal_line, events_most}
use Rattle.script.proofs.Flaws.{refusal_byte_lem}
use Rattle.script_packed.specs.Packing.{byte_factor, answer_word, number_in, why_in, byte_in, line_in}

-- ---- how large the parts are
pub number_range : (r : Refusal) → (1 ≤ script_refusal r) × (script_refusal r ≤ 8)
number_range TooLong = (omega arith, omega arith)
number_range BadByte = (omega arith, omega arith)
number_range OneWord = (omega arith, omega arith)
number_range (BadTick flaw) = (omega arith, omega arith)
number_range UnknownFault = (omega arith, omega arith)
number_range MissingId = (omega arith, omega arith)
number_range (BadId flaw) = (omega arith, omega arith)
number_range NoRoom = (omega arith, omega arith)

why_few : (why : Why) → why_number why ≤ 3
why_few NoDigit = omega arith
why_few StrayByte = omega arith
why_few TooLarge = omega arith

pub why_range : (r : Refusal) → refusal_why r ≤ 3
why_range TooLong = omega arith
why_range BadByte = omega arith
why_range OneWord = omega arith
why_range (BadTick flaw) = why_few flaw.why
why_range UnknownFault = omega arith
why_range MissingId = omega arith
why_range (BadId flaw) = why_few flaw.why
why_range NoRoom = omega arith

pub below_factor : (text : List ℕ) (words : ℕ) (r : Refusal) (line : ℕ) → script_answer text words ≡ refused_at r line
    → (refusal_byte r < byte_factor) × (line < byte_factor)
below_factor text words r line e =
    let b = refusal_byte_lem text words r line e in
    let l = refusal_line text words r line e in
    (omega arith, omega (arith, l.1))

-- ---- the parts, taken out of the word
pub record Apart (r : Refusal) (line word : ℕ) : Type 0 where
  pub number : number_in word ≡ script_refusal r
  pub why : why_in word ≡ refusal_why r
  pub byte : byte_in word ≡ refusal_byte r
  pub lines : line_in word ≡ line

-- of a refusal each part is what was put in
pub refusal_apart : (text : List ℕ) (words : ℕ) (r : Refusal) (line : ℕ) → script_answer text words ≡ refused_at r line
    → Apart r line (answer_word (refused_at r line))
refusal_apart text words r line e =
    let n = number_range r in
    let y = why_range r in
    let s = below_factor text words r line e in
    record {
      number = omega (arith, n.1, s.0, s.1);
      why = omega (arith, n.1, s.0, s.1);
      byte = omega (arith, n.1, s.0, s.1);
      lines = omega (arith, n.1, s.0, s.1);
    }

-- of an accepted script the number is 0
pub count_apart : (text : List ℕ) (words n : ℕ) → script_answer text words ≡ Ok n → number_in (answer_word (Ok n)) ≡ 0
count_apart text words n e = let m = events_most text words n e in omega arith

-- A probability by its 64 bits (IEEE 754 binary64), and the number that a draw on it is compared with (RULES, "The network").
-- Assumes nothing.
use Rattle.std.specs.Prelude.{Bool, not, ◌&&◌, ◌||◌, ℕ, ◌+◌, ◌*◌, ◌/◌, ◌%◌, ◌^◌, leb, eqb, Float}
use Rattle.std.specs.Float.{binary64}
use Rattle.std.specs.Float.Ieee.{is_nan, to_bits}

-- the words of 1 and of the two zeros
abbrev pub one_word : ℕ
one_word = 0x3ff0_0000_0000_0000

abbrev pub negative_zero_word : ℕ
negative_zero_word = 0x8000_0000_0000_0000

-- a word is a good probability's: as a number at most the bits of 1, or negative zero's
unfoldable pub good_word : ℕ → Bool
good_word w = leb w one_word || eqb w negative_zero_word

-- a float is a good probability: no NaN, which has no bits of its own, and its word is good
unfoldable pub good_probability : Float → Bool
good_probability p = not (is_nan p) && good_word (to_bits binary64 p)

-- a float is 1; a float is 0, of either sign
unfoldable pub is_one : Float → Bool
is_one p = eqb (to_bits binary64 p) one_word

unfoldable pub is_zero : Float → Bool
is_zero p = eqb (to_bits binary64 p) 0 || eqb (to_bits binary64 p) negative_zero_word

-- the 11 bits of the exponent and the low 52 bits of a word
abbrev pub exponent_of : ℕ → ℕ
exponent_of w = w / 2 ^ 52 % 2 ^ 11

abbrev pub digits_of : ℕ → ℕ
digits_of w = w % 2 ^ 52

-- the whole part of p * 2 ^ 64, from p's word: with e the exponent's bits and f the low 52, (2 ^ 52 + f) * 2 ^ e divided by 2 ^ 1011
unfoldable pub threshold_of : ℕ → ℕ
threshold_of w = (2 ^ 52 + digits_of w) * 2 ^ exponent_of w / 2 ^ 1011

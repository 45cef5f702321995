-- A number at most 1 has a word at most 1's, and a number above 1 has a word at least 1's: words without a sign grow with their numbers.
-- Assumes nothing.
use mathlib.Core.Path.{◌≡◌, refl, sym, ap, ◌∙◌, subst}
use mathlib.Core.Logic.{inl, inr}
use mathlib.Core.Bool.{Bool, true, false, cond}
use Prim.Native.Nat.{ℕ, ◌+◌, ◌-◌, ◌*◌, ◌/◌, ◌^◌, ◌≤◌, ◌<◌}
use native.Mathlib.Nat.{eq-or-lt_of_le, le_trans, lt_of_not-le, lt_irrefl, lt_of_lt_of_le, le-div_iff_mul-le, div-lt_iff_lt-mul, mul_comm, mul-div_right, mul-lt-mul_of_pos_right, mul-le-mul_right, le_of_lt}
use native.Mathlib.Omega.{arith}
use lib.IntN.{ℤ}
use lib.Dec.{lit≤}
use lib.Pow.{pow-add, pow_pos, pow_mono}
use lib.Ieee.{fin, binary64, up, down, size, to_bits}
use lib.Ieee.Digits.{size-lt, size-le, size_reaches}
use lib.Ieee.Fits.{kept-lt, down_pos}
use Rattle.chance.specs.Probability.{one_word, negative_zero_word}

-- a number in units of 2 ^ -1074, and the word of n units: how far the leading digit stands above the 53rd, and the 53 leading digits
abbrev pub units : ℕ → ℤ → ℕ
units m e = m * up e * 2 ^ 1074 / down e

abbrev pub word_of_units : Bool → ℕ → ℕ
word_of_units s n = cond s negative_zero_word 0 + (size n - 53) * 2 ^ 52 + n / 2 ^ (size n - 53)

pub word_is : (s : Bool) (m : ℕ) (e : ℤ) → to_bits binary64 (fin s m e) ≡ word_of_units s (units m e)
unfolding to_bits
word_is s m e = refl

-- 1 is 2 ^ 1074 units
pub units_of_one : (m : ℕ) (e : ℤ) → m * up e ≡ down e → units m e ≡ 2 ^ 1074
units_of_one m e q = ap (λ (x : ℕ). x * 2 ^ 1074 / down e) q ∙ mul-div_right (2 ^ 1074) (down_pos e)

word_low : (n : ℕ) → n < 2 ^ 1074 → word_of_units false n < one_word
word_low n h = sum_low (size n) (n / 2 ^ (size n - 53)) (size-le n 1074 h) (kept-lt 53 n)
  where
    sum_low : (z q : ℕ) → z ≤ 1074 → q < 2 ^ 53 → 0 + (z - 53) * 2 ^ 52 + q < one_word
    sum_low z q a b = omega arith

word_high : (n : ℕ) → 2 ^ 1074 ≤ n → one_word ≤ word_of_units false n
word_high n h =
    let z : 1074 < size n = lt_of_not-le (λ (g : size n ≤ 1074). lt_irrefl n (lt_of_lt_of_le (size-lt n) (le_trans (pow_mono g) h))) in
    let k = size n - 53 in
    sum_high (size n) (n / 2 ^ k) z
    ((le-div_iff_mul-le (pow_pos k)).1 (subst (λ (x : ℕ). x ≤ n) (pow-add 2 52 k) (size_reaches n (52 + k) (room (size n) z))))
  where
    sum_high : (z q : ℕ) → 1074 < z → 2 ^ 52 ≤ q → one_word ≤ 0 + (z - 53) * 2 ^ 52 + q
    sum_high z q a b = omega arith

    room : (z : ℕ) → 1074 < z → 52 + (z - 53) < z
    room z h = omega arith

module _ (m : ℕ) (e : ℤ) where
  -- m * 2 ^ e is m * up e / down e
  pub word_under : m * up e ≤ down e → word_of_units false (units m e) ≤ one_word
  word_under h = elim (eq-or-lt_of_le h) [
    | inl q ↦ subst (λ (n : ℕ). word_of_units false n ≤ one_word) (sym (units_of_one m e q)) (unfold size in lit≤ tt)
    | inr l ↦ le_of_lt (word_low (units m e) ((div-lt_iff_lt-mul (down_pos e)).1 (rw (mul_comm (2 ^ 1074) (down e)) (mul-lt-mul_of_pos_right l (pow_pos 1074)))))
  ]

  pub word_over : down e < m * up e → one_word ≤ word_of_units false (units m e)
  word_over h = word_high (units m e) ((le-div_iff_mul-le (down_pos e)).1 (rw (mul_comm (2 ^ 1074) (down e)) (mul-le-mul_right (2 ^ 1074) (le_of_lt h))))

-- a word with the sign is above 1's
pub word_signed : (n : ℕ) → one_word < word_of_units true n
word_signed n = sum_above ((size n - 53) * 2 ^ 52) (n / 2 ^ (size n - 53))
  where
    sum_above : (a b : ℕ) → one_word < negative_zero_word + a + b
    sum_above a b = omega arith

-- The shifts of a word's 53 digits are the threshold: up where the exponent is at least 1011, down below that, and nothing is left below 959.
-- Assumes nothing.
use mathlib.Core.Path.{◌≡◌, sym, ap, ◌∙◌}
use mathlib.Core.Logic.{inl, inr}
use mathlib.Core.Bool.{false}
use Prim.Native.Nat.{ℕ, ◌+◌, ◌-◌, ◌*◌, ◌/◌, ◌%◌, ◌^◌, ◌≤◌, ◌<◌}
use native.Mathlib.Nat.{mul_assoc, mod-lt, div-eq_of_lt, lt_of_lt_of_le}
use native.Mathlib.Omega.{arith}
use lib.Dec.{T}
use lib.Pow.{pow-add, pow_pos, pow_mono, shl_lt, shl-shr, shr-shr, shl_exact}
use lib.Arith.{lt_of_le-ne}
use lib.Bits.{bit_and, bit_or, and_mask, or_shifted_r}
use lib.Ieee.{Float, binary64, to_bits}
use borrow.Author.Tests.{eqb-false}
use Rattle.chance.specs.Probability.{good_probability, is_one, one_word, exponent_of, digits_of, threshold_of}
use Rattle.chance.proofs.ThereAndBack.{good_cases, has_good_word}

-- a good p other than 1 has an exponent below 1's, negative zero too
pub exponent_lt : (p : Float) → T (good_probability p) → is_one p ≡ false → exponent_of (to_bits binary64 p) < 1023
unfolding is_one
exponent_lt p g n =
    let b = to_bits binary64 p in
    elim (good_cases b (has_good_word p g)) [
      | inl l ↦ under b (lt_of_le-ne l (eqb-false b one_word n))
      | inr q ↦ omega arith
    ]
  where
    under : (b : ℕ) → b < one_word → exponent_of b < 1023
    under b h = omega arith

-- q * 2 ^ j / 2 ^ l in one shift
shifted_up : (q j l : ℕ) → l ≤ j → q * 2 ^ (j - l) ≡ q * 2 ^ j / 2 ^ l
shifted_up q j l h =
    sym (ap (λ (k : ℕ). q * 2 ^ k / 2 ^ l) (rejoin h) ∙ ap (λ (k : ℕ). q * k / 2 ^ l) (pow-add 2 (j - l) l) ∙ ap (λ (k : ℕ). k / 2 ^ l) (sym (mul_assoc q (2 ^ (j - l)) (2 ^ l))) ∙ shl-shr (q * 2 ^ (j - l)) l)
  where
    rejoin : l ≤ j → j ≡ j - l + l
    rejoin h = omega arith

shifted_down : (q j l : ℕ) → j ≤ l → q / 2 ^ (l - j) ≡ q * 2 ^ j / 2 ^ l
shifted_down q j l h = ap (λ (k : ℕ). k / 2 ^ (l - j)) (sym (shl-shr q j)) ∙ shr-shr (q * 2 ^ j) j (l - j) ∙ ap (λ (k : ℕ). q * 2 ^ j / 2 ^ k) (join h)
  where
    join : j ≤ l → j + (l - j) ≡ l
    join h = omega arith

-- the code's digits and exponent, by masks
abbrev digits : ℕ → ℕ
digits b = bit_or (bit_and b (2 ^ 52 - 1)) (2 ^ 52)

abbrev exponent : ℕ → ℕ
exponent b = bit_and (b / 2 ^ 52) (2 ^ 11 - 1)

module _ (b : ℕ) where
  pub exponent_is : exponent b ≡ exponent_of b
  exponent_is = and_mask (b / 2 ^ 52) 11

  digits_are : digits b ≡ 2 ^ 52 + digits_of b
  digits_are = ap (λ (k : ℕ). bit_or k (2 ^ 52)) (and_mask b 52) ∙ or_shifted_r 1 52 (digits_of b) (mod-lt b (pow_pos 52))

  digits_lt : digits b < 2 ^ 53
  digits_lt = rw digits_are (omega (arith, mod-lt b (pow_pos 52)))

  threshold_is : digits b * 2 ^ exponent b / 2 ^ 1011 ≡ threshold_of b
  unfolding threshold_of
  threshold_is = ap (λ (k : ℕ). k * 2 ^ exponent b / 2 ^ 1011) digits_are ∙ ap (λ (k : ℕ). (2 ^ 52 + digits_of b) * 2 ^ k / 2 ^ 1011) exponent_is

  -- the three returns of the code
  pub cut_up : exponent_of b < 1023 → 1011 ≤ exponent b → digits b * 2 ^ (exponent b - 1011) % 2 ^ 64 ≡ threshold_of b
  cut_up l h = shl_exact 53 (exponent b - 1011) 64 digits_lt (omega (arith, exponent_is)) ∙ shifted_up (digits b) (exponent b) 1011 h ∙ threshold_is

  pub cut_down : exponent b < 1011 → digits b / 2 ^ (1011 - exponent b) ≡ threshold_of b
  cut_down h = shifted_down (digits b) (exponent b) 1011 (omega arith) ∙ threshold_is

  pub cut_off : exponent b < 959 → 0 ≡ threshold_of b
  cut_off h = let fit : 53 + exponent b ≤ 1011 = omega arith in sym (sym threshold_is ∙ div-eq_of_lt (lt_of_lt_of_le (shl_lt 53 (exponent b) digits_lt) (pow_mono fit)))

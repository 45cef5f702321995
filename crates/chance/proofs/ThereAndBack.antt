-- Words and floats give each other back: a good word by way of its float, a good probability by way of its word, and negative zero keeps its sign.
-- Only a NaN would be lost on the way, and a good word is none's. Assumes nothing.
use mathlib.Core.Path.{◌≡◌, refl, sym, ap, ◌∙◌, subst}
use mathlib.Core.Logic.{◌⊎◌, inl, inr}
use mathlib.Core.Bool.{Bool, true, false, not}
use Prim.Native.Nat.{ℕ, zero, suc, ◌*◌, ◌%◌, ◌^◌, ◌≤◌, ◌<◌}
use native.Mathlib.Nat.{pow-succ'}
use native.Mathlib.Omega.{arith}
use lib.IntN.{ℤ, pos, negsuc}
use lib.Dec.{T, leb, eqb, leb→le, eqb→eq}
use lib.Pow.{pow_pos}
use lib.Ieee.{Float, fin, binary64, up, down, fits, is_nan, nan_bits, of_bits, to_bits}
use lib.Ieee.Bits.{of_bits-to_bits, to_bits-of_bits, nan_bits_is, nan_bits_above}
use lib.Ieee.Fits.{and_i, and_l, and_r}
use mir.Facts.{or_yes}
use borrow.Author.Tests.{le-ltb}
use Rattle.chance.specs.Probability.{good_word, good_probability, one_word, negative_zero_word}

-- ---- the floats of three words

abbrev pub zero_float : Float
zero_float = fin false 0 (pos 0)

abbrev pub one_float : Float
one_float = fin false 1 (pos 0)

abbrev pub negative_zero_float : Float
negative_zero_float = fin true 0 (pos 0)

pub zero_float_lem : of_bits binary64 0 ≡ zero_float
unfolding of_bits
zero_float_lem = refl

pub one_float_lem : of_bits binary64 one_word ≡ one_float
unfolding of_bits
one_float_lem = refl

pub negative_zero_float_lem : of_bits binary64 negative_zero_word ≡ negative_zero_float
unfolding of_bits
negative_zero_float_lem = refl

-- negative zero is good and stays itself both ways: its word is not zero's
pub negative_zero_kept :
    (to_bits binary64 (of_bits binary64 negative_zero_word) ≡ negative_zero_word)
    × (of_bits binary64 (to_bits binary64 negative_zero_float) ≡ negative_zero_float)
    × T (good_probability negative_zero_float)
unfolding to_bits of_bits good_probability good_word is_nan
negative_zero_kept = (refl, refl, tt)

-- a zero is written with the exponent 0: 2 ^ e is 1 for no other e
pub zero_exponent : (s : Bool) (e : ℤ) → T (fits binary64 (fin s 0 e)) → e ≡ pos 0
unfolding fits
zero_exponent s e h = only e (eqb→eq (up e * down e) 1 h)
  where
    even : (x y : ℕ) → x ≡ 2 * y → 0 < y → x ≡ 1 → ⊥
    even x y e p h = omega arith

    only : (e : ℤ) → up e * down e ≡ 1 → e ≡ pos 0
    only (pos zero) h = refl
    only (pos (suc a)) h = absurd (even (2 ^ suc a) (2 ^ a) (pow-succ' 2 a) (pow_pos a) (omega arith))
    only (negsuc a) h = absurd (even (2 ^ suc a) (2 ^ a) (pow-succ' 2 a) (pow_pos a) (omega arith))

-- ---- what being good says

-- the two halves of being good
pub no_nan : (p : Float) → T (good_probability p) → T (not (is_nan p))
unfolding good_probability
no_nan p h = and_l (not (is_nan p)) (good_word (to_bits binary64 p)) h

pub has_good_word : (p : Float) → T (good_probability p) → T (good_word (to_bits binary64 p))
unfolding good_probability
has_good_word p h = and_r (not (is_nan p)) (good_word (to_bits binary64 p)) h

-- a good word is at most 1's, or negative zero's
pub good_cases : (w : ℕ) → T (good_word w) → (w ≤ one_word) ⊎ (w ≡ negative_zero_word)
unfolding good_word
good_cases w h = elim (or_yes (leb w one_word) (eqb w negative_zero_word) h) [ inl a ↦ inl (leb→le w one_word a) | inr b ↦ inr (eqb→eq w negative_zero_word b) ]

-- a NaN's word lies above infinity's, sign aside
pub no_nan_bits : (w : ℕ) → T (good_word w) → T (not (nan_bits binary64 w))
no_nan_bits w h = subst (λ (b : Bool). T (not b)) (sym (nan_bits_above binary64 w ∙ le-ltb 0x7ff0_0000_0000_0000 (w % 2 ^ 63) low)) tt
  where
    low : w % 2 ^ 63 ≤ 0x7ff0_0000_0000_0000
    low = elim (good_cases w h) [ inl a ↦ omega arith | inr b ↦ omega arith ]

-- ---- there and back, and back and there

-- a good word comes back from its float, which is good
pub there_and_back : (w : ℕ) → T (good_word w) → (to_bits binary64 (of_bits binary64 w) ≡ w) × T (good_probability (of_bits binary64 w))
unfolding good_probability
there_and_back w h = (same, and_i (not (is_nan (of_bits binary64 w))) (good_word (to_bits binary64 (of_bits binary64 w))) number (rw same h))
  where
    number : T (not (is_nan (of_bits binary64 w)))
    number = subst (λ (b : Bool). T (not b)) (nan_bits_is binary64 w) (no_nan_bits w h)

    fits_in_64 : w < 2 ^ 64
    fits_in_64 = elim (good_cases w h) [ inl a ↦ omega arith | inr b ↦ omega arith ]

    same : to_bits binary64 (of_bits binary64 w) ≡ w
    same = to_bits-of_bits binary64 w fits_in_64 number

-- a good probability comes back from its word, which is good
pub back_and_there : (p : Float) → T (fits binary64 p) → T (good_probability p) → (of_bits binary64 (to_bits binary64 p) ≡ p) × T (good_word (to_bits binary64 p))
back_and_there p h g = (of_bits-to_bits binary64 p h, has_good_word p g)

-- a float that the format holds is the float of its word
pub of_word : (p : Float) (w : ℕ) → T (fits binary64 p) → to_bits binary64 p ≡ w → p ≡ of_bits binary64 w
of_word p w h e = sym (of_bits-to_bits binary64 p h) ∙ ap (of_bits binary64) e

-- The number that a draw is compared with is the whole part of p * 2 ^ 64, at every good p, the zeros, the subnormals and 1 among them.
-- The definition goes by the exponent's bits, with a leading digit that a subnormal does not have: there both are 0. Assumes nothing.
use mathlib.Core.Path.{◌≡◌, refl, sym, ap, ◌∙◌, subst}
use mathlib.Core.Logic.{inl, inr}
use mathlib.Core.Bool.{Bool, true, false, cond}
use Prim.Native.Nat.{ℕ, zero, suc, ◌+◌, ◌*◌, ◌/◌, ◌%◌, ◌^◌, ◌≤◌, ◌<◌}
use native.Mathlib.Nat.{mul_assoc, mul_right_comm, mod-lt, mod-eq_of_lt, div-eq_of_lt, lt_of_lt_of_le, pow-suc}
use native.Mathlib.Omega.{arith}
use lib.IntN.{ℤ}
use lib.Dec.{T, eqb, lit≤}
use lib.Pow.{pow_pos, shl_lt}
use lib.Ieee.{Float, nan, inf, fin, binary64, up, down, fits, is_nan, odd, of_fields, of_bits, to_bits}
use lib.Ieee.Bits.{of_bits-to_bits}
use lib.Ieee.Exact.{HasValue, odd_sign}
use lib.Ieee.Nearest.{div_same}
use lib.Ieee.Positive.{num, den, den_pos, value→cross}
use borrow.Author.Tests.{lt-leb, ne_eqb}
use Rattle.chance.specs.Probability.{good_word, good_probability, one_word, negative_zero_word, threshold_of}
use Rattle.chance.proofs.ThereAndBack.{negative_zero_float, zero_exponent, has_good_word, good_cases}
use Rattle.chance.proofs.GoodByComparison.{negative_not_good}

-- the whole part of x * 2 ^ 64, where x is num x / den x: m * up e / down e at `fin s m e`
abbrev whole_of : Float → ℕ
whole_of x = num x * 2 ^ 64 / den x

-- the same from any a with x = a / 2 ^ 1074
of_value : (x : Float) (a : ℕ) → HasValue x false a (2 ^ 1074) → whole_of x ≡ a * 2 ^ 64 / 2 ^ 1074
of_value x a v =
    div_same (num x * 2 ^ 64) (den x) (a * 2 ^ 64) (2 ^ 1074) (den_pos x) (pow_pos 1074)
    (mul_right_comm (num x) (2 ^ 64) (2 ^ 1074) ∙ ap (λ (k : ℕ). k * 2 ^ 64) (value→cross x a (2 ^ 1074) v) ∙ mul_right_comm a (den x) (2 ^ 64))

shift : (y : ℕ) → y * 2 ^ 64 * 2 ^ 1011 ≡ y * 2 * 2 ^ 1074
shift y = mul_assoc y (2 ^ 64) (2 ^ 1011) ∙ sym (mul_assoc y 2 (2 ^ 1074))

-- by the fields of a word: x the exponent's bits, t the low 52
fields : (x t : ℕ) → t < 2 ^ 52 → x < 2047 → whole_of (of_fields binary64 false x t) ≡ (2 ^ 52 + t) * 2 ^ x / 2 ^ 1011
unfolding of_fields
fields zero t h l =
    let short : t * 1 < 2 ^ 52 = omega arith in
    let lead : (2 ^ 52 + t) * 1 < 2 ^ 53 = omega arith in
    let none : t * 1 * 2 ^ 64 < 2 ^ 1074 = lt_of_lt_of_le (shl_lt 52 64 short) (lit≤ tt) in
    let low : (2 ^ 52 + t) * 1 < 2 ^ 1011 = lt_of_lt_of_le lead (lit≤ tt) in
    of_value (odd 53 false t 0 1074) (t * 1) (odd_sign 53 false t 0 1074)
    ∙ div-eq_of_lt none
    ∙ sym (div-eq_of_lt low)
fields (suc j) t h l =
    let q = 2 ^ 52 + t in
    let v = odd 53 false q j 1074 in
    ap (λ (b : Bool). whole_of (cond b (cond (eqb t 0) (inf false) nan) v)) (ne_eqb (suc j) 2047 (λ z. omega arith))
    ∙ of_value v (q * 2 ^ j) (odd_sign 53 false q j 1074)
    ∙ div_same (q * 2 ^ j * 2 ^ 64) (2 ^ 1074) (q * 2 ^ j * 2) (2 ^ 1011) (pow_pos 1074) (pow_pos 1011) (shift (q * 2 ^ j))
    ∙ ap (λ (k : ℕ). k / 2 ^ 1011) (mul_assoc q (2 ^ j) 2 ∙ ap (λ (k : ℕ). q * k) (sym (pow-suc 2 j)))

of_bits_low : (b : ℕ) → b < 2 ^ 63 → of_bits binary64 b ≡ of_fields binary64 false (b / 2 ^ 52) (b % 2 ^ 52)
unfolding of_bits
of_bits_low b h = rw (lt-leb (2 ^ 63) b h, mod-eq_of_lt h)

at_word : (b : ℕ) → b ≤ one_word → whole_of (of_bits binary64 b) ≡ threshold_of b
unfolding threshold_of
at_word b h =
    let small : b < 2 ^ 63 = omega arith in
    let same : b / 2 ^ 52 % 2 ^ 11 ≡ b / 2 ^ 52 = omega arith in
    ap whole_of (of_bits_low b small) ∙ fields (b / 2 ^ 52) (b % 2 ^ 52) (mod-lt b (pow_pos 52)) (omega arith) ∙ sym (rw same)

at_negative_zero : whole_of (of_bits binary64 negative_zero_word) ≡ threshold_of negative_zero_word
unfolding threshold_of of_bits
at_negative_zero = refl

-- p is the number m * 2 ^ e, and 2 ^ e is up e / down e
pub whole_part : (s : Bool) (m : ℕ) (e : ℤ) → T (fits binary64 (fin s m e)) → T (good_probability (fin s m e)) → threshold_of (to_bits binary64 (fin s m e)) ≡ m * up e * 2 ^ 64 / down e
whole_part s m e h g =
    let b = to_bits binary64 (fin s m e) in
    let back : whole_of (of_bits binary64 b) ≡ whole_of (fin s m e) = ap whole_of (of_bits-to_bits binary64 (fin s m e) h) in
    elim (good_cases b (has_good_word (fin s m e) g)) [
      | inl l ↦ sym (at_word b l) ∙ back
      | inr q ↦ ap threshold_of q ∙ sym at_negative_zero ∙ ap (λ (w : ℕ). whole_of (of_bits binary64 w)) (sym q) ∙ back
    ]

-- So it speaks of every good probability: each is such a number, and the only one with a sign is negative zero
pub data Number : Float → Type 0 where
  unsigned : (m : ℕ) (e : ℤ) → Number (fin false m e)
  negative_zero : Number negative_zero_float

pub good_is_number : (p : Float) → T (fits binary64 p) → T (good_probability p) → Number p
unfolding good_probability good_word is_nan to_bits
good_is_number nan h g = absurd g
good_is_number (inf true) h g = absurd g
good_is_number (inf false) h g = absurd g
good_is_number (fin false m e) h g = unsigned m e
good_is_number (fin true zero e) h g = subst (λ (x : ℤ). Number (fin true 0 x)) (sym (zero_exponent true e h)) negative_zero
good_is_number (fin true (suc m) e) h g = absurd (subst T (negative_not_good m e h) g)

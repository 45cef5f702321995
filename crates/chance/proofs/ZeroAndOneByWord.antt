-- A p that equals 1, as IEEE compares, has 1's word, and one that equals 0 has a zero's word, of either sign; and the other way round.
-- Assumes nothing.
use mathlib.Core.Path.{◌≡◌, refl, sym, ap, ◌∙◌, subst}
use mathlib.Core.Logic.{inl, inr}
use mathlib.Core.Bool.{Bool, true, false}
use Prim.Native.Nat.{ℕ, zero, suc, ◌*◌, ◌<◌}
use native.Mathlib.Nat.{mul-pos, zero-lt-suc}
use native.Mathlib.Omega.{arith}
use lib.IntN.{ℤ, pos}
use lib.Dec.{T, eqb, eqb→eq}
use lib.Ieee.{Float, nan, inf, fin, binary64, up, down, size, eq, fits, of_bits, to_bits}
use lib.Ieee.Bits.{is_true}
use lib.Ieee.Fits.{and_l, and_r, up_pos, down_pos, eq→eqb}
use mir.Facts.{or_yes}
use Rattle.chance.specs.Probability.{is_one, is_zero, one_word, negative_zero_word}
use Rattle.chance.proofs.ThereAndBack.{zero_float, one_float, zero_float_lem, one_float_lem, of_word, zero_exponent}
use Rattle.chance.proofs.WordAgainstOne.{word_of_units, units_of_one, word_is}

-- two tests that pass together are one
same_test : (a b : Bool) → (T a → T b) → (T b → T a) → a ≡ b
same_test true b f g = sym (is_true b (f tt))
same_test false true f g = absurd (g tt)
same_test false false f g = refl

not_none : (m : ℕ) (e : ℤ) → suc m * up e * 1 ≡ 0 * down e → ⊥
not_none m e h = omega (arith, mul-pos (zero-lt-suc m) (up_pos e))

-- a p that equals 0 or 1 has the word
zero_word : (p : Float) → T (fits binary64 p) → T (eq p zero_float) → T (is_zero p)
unfolding eq is_zero to_bits
zero_word nan h q = absurd q
zero_word (inf s) h q = absurd q
zero_word (fin s zero e) h q = subst (λ (x : ℤ). T (is_zero (fin s 0 x))) (sym (zero_exponent s e h)) (either_sign s)
  where
    either_sign : (s : Bool) → T (is_zero (fin s 0 (pos 0)))
    either_sign true = tt
    either_sign false = tt
zero_word (fin s (suc m) e) h q = absurd (not_none m e (eqb→eq (suc m * up e * 1) (0 * down e) (and_l (eqb (suc m * up e * 1) (0 * down e)) _ q)))

one_word_lem : (p : Float) → T (eq p one_float) → to_bits binary64 p ≡ one_word
unfolding eq
one_word_lem nan q = absurd q
one_word_lem (inf s) q = absurd q
one_word_lem (fin true m e) q =
    let a : m * up e * 1 ≡ 1 * down e = eqb→eq (m * up e * 1) (1 * down e) (and_l (eqb (m * up e * 1) (1 * down e)) (eqb (m * up e * 1) 0) q) in
    let b : m * up e * 1 ≡ 0 = eqb→eq (m * up e * 1) 0 (and_r (eqb (m * up e * 1) (1 * down e)) (eqb (m * up e * 1) 0) q) in
    absurd (clash (down e) (m * up e * 1) a b (down_pos e))
  where
    clash : (d n : ℕ) → n ≡ 1 * d → n ≡ 0 → 0 < d → ⊥
    clash d n a b c = omega arith
one_word_lem (fin false m e) q =
    let a : m * up e * 1 ≡ 1 * down e = eqb→eq (m * up e * 1) (1 * down e) (and_l (eqb (m * up e * 1) (1 * down e)) true q) in
    let b : m * up e ≡ down e = omega arith in
    word_is false m e ∙ ap (word_of_units false) (units_of_one m e b) ∙ (unfold size in refl)

-- the floats of the words equal 1 and 0
same_ends : T (eq (of_bits binary64 one_word) (of_bits binary64 one_word)) × T (eq (of_bits binary64 negative_zero_word) (of_bits binary64 0)) × T (eq (of_bits binary64 0) (of_bits binary64 0))
unfolding eq of_bits
same_ends = (tt, tt, tt)

module _ (p : Float) (h : T (fits binary64 p)) where
  from_word : (w x : ℕ) → T (eq (of_bits binary64 w) (of_bits binary64 x)) → T (eqb (to_bits binary64 p) w) → T (eq p (of_bits binary64 x))
  from_word w x t q = rw (of_word p w h (eqb→eq (to_bits binary64 p) w q)) t

  -- `p == 1.0`
  pub equals_one : eq p (of_bits binary64 one_word) ≡ is_one p
  unfolding is_one
  equals_one = same_test (eq p (of_bits binary64 one_word)) (is_one p) (λ q. eq→eqb (one_word_lem p (rw one_float_lem at q))) (from_word one_word one_word same_ends.0)

  -- `p == 0.0`
  pub equals_zero : eq p (of_bits binary64 0) ≡ is_zero p
  unfolding is_zero
  equals_zero =
      let w = to_bits binary64 p in
      same_test (eq p (of_bits binary64 0)) (is_zero p)
      (λ q. zero_word p h (rw zero_float_lem at q))
      (λ t. elim (or_yes (eqb w 0) (eqb w negative_zero_word) t) [ inl a ↦ from_word 0 0 same_ends.2 a | inr b ↦ from_word negative_zero_word 0 same_ends.1 b ])

-- Which probabilities use a word of the list: 1 never does; 0, of either sign, does not in a send and does elsewhere;
-- 2 ^ -65 does in both, though no word is below its threshold. Assumes nothing.
use mathlib.Core.Path.{◌≡◌, refl, sym, ap, ◌∙◌}
use mathlib.Core.Bool.{true, false}
use mathlib.Core.List.{List}
use Prim.Native.Nat.{ℕ, ◌+◌, ◌^◌, ◌<◌, zero-le}
use native.Mathlib.Omega.{arith}
use lib.Ieee.{Float, binary64, to_bits}
use lib.ListN.{length}
use borrow.Author.Tests.{ne_eqb}
use Rattle.chance.specs.Probability.{is_one, is_zero, threshold_of, one_word}
use Rattle.chance.specs.Draw.{drawn, gen_bool, gen_bool_in_send}
use Rattle.chance.proofs.ThereAndBack.{zero_float, one_float, negative_zero_float}
use Rattle.chance.proofs.WorkedThresholds.{two_to_minus65, words_of, worked, ends}
use Rattle.chance.proofs.DrawCases.{one, word_not_below, zero_in_send, other_in_send}

module _ (draws : List ℕ) (place : ℕ) where
  pub one_uses_none : (gen_bool one_float draws place ≡ drawn true place) × (gen_bool_in_send one_float draws place ≡ drawn true place)
  unfolding is_one is_zero to_bits
  one_uses_none = let yes = one one_float draws place refl in (yes, other_in_send one_float draws place refl ∙ yes)

  pub zeros_use_none_in_send : (gen_bool_in_send zero_float draws place ≡ drawn false place) × (gen_bool_in_send negative_zero_float draws place ≡ drawn false place)
  unfolding is_zero to_bits
  zeros_use_none_in_send = (zero_in_send zero_float draws place refl, zero_in_send negative_zero_float draws place refl)

  -- a threshold of 0 is above no word, and all the same a word is used
  pub none_below : (p : Float) → place < length draws → threshold_of (to_bits binary64 p) ≡ 0 → gen_bool p draws place ≡ drawn false (place + 1)
  unfolding is_one
  none_below p l z = word_not_below p draws place (ne_eqb (to_bits binary64 p) one_word not_one) l (rw z zero-le)
    where
      not_one : to_bits binary64 p ≡ one_word → ⊥
      not_one q = let clash : 2 ^ 64 ≡ 0 = sym ends.0 ∙ ap threshold_of (sym q) ∙ z in omega arith

  -- outside a send 0 is drawn on like any other
  pub zeros_use_one : place < length draws → (gen_bool zero_float draws place ≡ drawn false (place + 1)) × (gen_bool negative_zero_float draws place ≡ drawn false (place + 1))
  unfolding to_bits
  zeros_use_one l = (none_below zero_float l ends.1, none_below negative_zero_float l ends.2)

  -- whatever the word is
  pub two_to_minus_65_uses_one : place < length draws → (gen_bool two_to_minus65 draws place ≡ drawn false (place + 1)) × (gen_bool_in_send two_to_minus65 draws place ≡ drawn false (place + 1))
  unfolding is_zero to_bits
  two_to_minus_65_uses_one l = let used = none_below two_to_minus65 l (ap threshold_of words_of.3 ∙ worked.3) in (used, other_in_send two_to_minus65 draws place refl ∙ used)

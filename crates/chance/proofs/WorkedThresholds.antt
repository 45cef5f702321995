-- The rules' worked thresholds, and the ends of the range, by computation. Assumes nothing.
use mathlib.Core.Path.{◌≡◌, refl}
use mathlib.Core.Bool.{false}
use Prim.Native.Nat.{◌-◌, ◌^◌}
use lib.IntN.{negsuc}
use lib.Ieee.{Float, fin, binary64, to_bits}
use Rattle.chance.specs.Probability.{threshold_of, one_word, negative_zero_word}

-- `negsuc k` is the exponent -(k + 1)
abbrev pub half : Float
half = fin false 1 (negsuc 0)

abbrev pub largest_below_one : Float
largest_below_one = fin false (2 ^ 53 - 1) (negsuc 52)

abbrev pub two_to_minus64 : Float
two_to_minus64 = fin false 1 (negsuc 63)

abbrev pub two_to_minus65 : Float
two_to_minus65 = fin false 1 (negsuc 64)

pub words_of :
    (to_bits binary64 half ≡ 0x3fe0_0000_0000_0000)
    × (to_bits binary64 largest_below_one ≡ 0x3fef_ffff_ffff_ffff)
    × (to_bits binary64 two_to_minus64 ≡ 0x3bf0_0000_0000_0000)
    × (to_bits binary64 two_to_minus65 ≡ 0x3be0_0000_0000_0000)
unfolding to_bits
words_of = (refl, refl, refl, refl)

-- in the order of `words_of`
pub worked :
    (threshold_of 0x3fe0_0000_0000_0000 ≡ 9223372036854775808)
    × (threshold_of 0x3fef_ffff_ffff_ffff ≡ 18446744073709549568)
    × (threshold_of 0x3bf0_0000_0000_0000 ≡ 1)
    × (threshold_of 0x3be0_0000_0000_0000 ≡ 0)
unfolding threshold_of
worked = (refl, refl, refl, refl)

-- 1, the zeros, the smallest and the largest subnormal
pub ends :
    (threshold_of one_word ≡ 2 ^ 64)
    × (threshold_of 0 ≡ 0)
    × (threshold_of negative_zero_word ≡ 0)
    × (threshold_of 1 ≡ 0)
    × (threshold_of 0x000f_ffff_ffff_ffff ≡ 0)
unfolding threshold_of
ends = (refl, refl, refl, refl, refl)

-- Options by comparison and options by words: the tests agree, and good options come back from their plain form. Assumes nothing.
use mathlib.Core.Path.{◌≡◌, refl, sym, ◌∙◌}
use mathlib.Core.List.{[], ◌∷◌}
use mathlib.Core.Bool.{Bool, true, false, ◌&&◌}
use Prim.Native.Nat.{ℕ, ◌≤◌, ◌<◌}
use native.Mathlib.Omega.{arith}
use borrow.Author.Tests.{le-leb, lt-leb}
use lib.Dec.{T, leb}
use lib.Ieee.{Float, nan, inf, fin, binary64, fits, is_nan, to_bits, of_bits}
use lib.Ieee.Bits.{of_bits-to_bits}
use Rattle.chance.specs.Probability.{good_word, good_probability}
use Rattle.nights.specs.Net.{Options, good_options}
use Rattle.nights.specs.Tests.{done, refused, verdict, option_tests}
use mir.Val.{bool_byte}
use Rattle.basis.specs.Basis.{bit}
use Rattle.basis.proofs.Laws.{both}
use Rattle.network_options.specs.declared.NetworkOptions.{NetworkOptions}
use Rattle.network_options.specs.Options.{plain_options, struct_options, perfect_options}

-- the word of a good probability is good, and no other word is
pub good_word_is : (p : Float) → good_word (to_bits binary64 p) ≡ good_probability p
unfolding good_word good_probability to_bits is_nan
good_word_is nan = refl
good_word_is (inf s) = refl
good_word_is (fin s m e) = refl

-- a flag as a word is its bit
pub flag_bit : (b : Bool) → bool_byte b ≡ bit b
flag_bit true = refl
flag_bit false = refl

-- ---- good options, part by part

module _ (o : Options) where
  pub loss_bad : good_word o.loss ≡ false → false ≡ good_options o
  unfolding good_options
  loss_bad a = rw a

  module _ (a : good_word o.loss ≡ true) where
    pub replay_bad : good_word o.replay ≡ false → false ≡ good_options o
    unfolding good_options
    replay_bad b = rw (a, b)

    pub delays_told : good_word o.replay ≡ true → leb o.least o.mean ≡ good_options o
    unfolding good_options
    delays_told b = rw (a, b)

-- ---- the tests of new options, one after the other

module _ (o : Options) where
  pub loss_fails : good_word o.loss ≡ false → refused 20 ≡ verdict (option_tests o [])
  unfolding verdict
  loss_fails a = rw a

  module _ (a : good_word o.loss ≡ true) where
    pub replay_fails : good_word o.replay ≡ false → refused 21 ≡ verdict (option_tests o [])
    unfolding verdict
    replay_fails b = rw (a, b)

    module _ (b : good_word o.replay ≡ true) where
      pub delay_fails : o.mean < o.least → refused 22 ≡ verdict (option_tests o [])
      unfolding verdict
      delay_fails h = rw (a, b, lt-leb o.least o.mean h)

      pub all_pass : o.least ≤ o.mean → done ≡ verdict (option_tests o [])
      unfolding verdict
      all_pass h = rw (a, b, le-leb o.least o.mean h)

  -- new options that pass all tests are good
  pub good_done : verdict (option_tests o []) ≡ done → good_options o ≡ true
  unfolding verdict good_options
  good_done e = go (good_word o.loss) (good_word o.replay) (leb o.least o.mean) refl refl refl e
    where
      go : (a b c : Bool) → good_word o.loss ≡ a → good_word o.replay ≡ b → leb o.least o.mean ≡ c
          → verdict (record { passes = a; number = 20 } ∷ record { passes = b; number = 21 } ∷ record { passes = c; number = 22 } ∷ []) ≡ done
          → a && (b && c) ≡ true
      go true true true p q r h = refl
      go true true false p q r h = let z : ◌≡◌ {A = ℕ} 0 1 = cc in absurd (omega arith)
      go true false c p q r h = let z : ◌≡◌ {A = ℕ} 0 1 = cc in absurd (omega arith)
      go false b c p q r h = let z : ◌≡◌ {A = ℕ} 0 1 = cc in absurd (omega arith)

  -- and good ones pass them all
  pub tests_pass : good_options o ≡ true → verdict (option_tests o []) ≡ done
  unfolding verdict good_options
  tests_pass e =
      let a = both (good_word o.loss) _ e in
      let b = both (good_word o.replay) _ a.1 in
      rw (a.0, b.0, b.1)

-- both probabilities of good options are good
pub good_chances : (o : NetworkOptions) → good_options (plain_options o) ≡ true
    → (good_probability o.packet_loss_probability ≡ true) × (good_probability o.packet_replay_probability ≡ true)
unfolding good_options
good_chances o e =
    let a = both (good_word (to_bits binary64 o.packet_loss_probability)) _ e in
    let b = both (good_word (to_bits binary64 o.packet_replay_probability)) _ a.1 in
    (sym (good_word_is o.packet_loss_probability) ∙ a.0, sym (good_word_is o.packet_replay_probability) ∙ b.0)

-- options whose floats the format holds come back from their plain form
pub record Held (o : NetworkOptions) : Type 0 where
  pub loss : T (fits binary64 o.packet_loss_probability)
  pub replay : T (fits binary64 o.packet_replay_probability)

pub options_back : (o : NetworkOptions) → Held o → struct_options (plain_options o) ≡ o
options_back o h =
    rw (of_bits-to_bits binary64 o.packet_loss_probability h.loss, of_bits-to_bits binary64 o.packet_replay_probability h.replay)

pub perfect_good : good_options perfect_options ≡ true
unfolding good_options good_word
perfect_good = refl

-- the perfect options come back from their struct
pub perfect_plain : plain_options (struct_options perfect_options) ≡ perfect_options
unfolding to_bits of_bits
perfect_plain = refl

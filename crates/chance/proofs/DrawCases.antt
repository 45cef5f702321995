-- A draw case by case: which cases use a word, and what each answers. Callers cite these and not the definitions. Assumes nothing.
use mathlib.Core.Path.{◌≡◌, ap, ◌∙◌}
use mathlib.Core.Bool.{Bool, true, false}
use lib.Dec.{ltb}
use mathlib.Core.List.{List}
use Prim.Native.Nat.{ℕ, ◌+◌, ◌≤◌, ◌<◌}
use lib.Ieee.{Float, binary64, to_bits}
use lib.ListN.{length, get_or}
use borrow.Author.Tests.{lt-ltb, le-ltb}
use Rattle.chance.specs.Probability.{is_one, is_zero, threshold_of}
use Rattle.std.specs.Prelude.{None}
use Rattle.chance.specs.Draw.{drawn, by_word, gen_bool, gen_bool_in_send}

module _ (p : Float) (draws : List ℕ) (place : ℕ) where
  -- 1 needs no word
  pub one : is_one p ≡ true → gen_bool p draws place ≡ drawn true place
  unfolding gen_bool
  one h = rw h

  -- any other p needs one: with none at the place the list is short
  pub no_word : is_one p ≡ false → length draws ≤ place → gen_bool p draws place ≡ None
  unfolding gen_bool by_word
  no_word h s = rw (h, le-ltb place (length draws) s)

  -- a word is used, and answers yes exactly if it is below the threshold
  pub word_used : is_one p ≡ false → place < length draws → gen_bool p draws place ≡ drawn (ltb (get_or draws place 0) (threshold_of (to_bits binary64 p))) (place + 1)
  unfolding gen_bool by_word
  word_used h l = rw (h, lt-ltb place (length draws) l)

  pub word_below : is_one p ≡ false → place < length draws → get_or draws place 0 < threshold_of (to_bits binary64 p) → gen_bool p draws place ≡ drawn true (place + 1)
  word_below h l b = word_used h l ∙ ap (λ (y : Bool). drawn y (place + 1)) (lt-ltb (get_or draws place 0) (threshold_of (to_bits binary64 p)) b)

  pub word_not_below : is_one p ≡ false → place < length draws → threshold_of (to_bits binary64 p) ≤ get_or draws place 0 → gen_bool p draws place ≡ drawn false (place + 1)
  word_not_below h l b = word_used h l ∙ ap (λ (y : Bool). drawn y (place + 1)) (le-ltb (get_or draws place 0) (threshold_of (to_bits binary64 p)) b)

  -- in a send 0 needs no word, and every other p draws as elsewhere
  pub zero_in_send : is_zero p ≡ true → gen_bool_in_send p draws place ≡ drawn false place
  unfolding gen_bool_in_send
  zero_in_send h = rw h

  pub other_in_send : is_zero p ≡ false → gen_bool_in_send p draws place ≡ gen_bool p draws place
  unfolding gen_bool_in_send
  other_in_send h = rw h

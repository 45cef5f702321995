-- A yes or no draw on a good probability, over a lent list of words and the place of the next one (RULES, "The network").
-- Assumes nothing.
use Rattle.std.specs.Prelude.{Bool, true, false, cond, List, ℕ, ◌+◌, ltb, Float, length, get_or, Option, Some, None}
use Rattle.std.specs.Float.{binary64}
use Rattle.std.specs.Float.Ieee.{to_bits}
use Rattle.chance.specs.Probability.{is_one, is_zero, threshold_of}
use Rattle.chance.specs.declared.Draw.{Draw}

-- a draw that answered, with the place of the next word
abbrev pub drawn : Bool → ℕ → Option Draw
drawn b place = Some (record { yes = b; next = place })

-- the word at a place answers: yes exactly if it is below the whole part of p * 2 ^ 64. No word there: the list is short
unfoldable pub by_word : Float → List ℕ → ℕ → Option Draw
by_word p draws place =
    cond (ltb place (length draws))
    (drawn (ltb (get_or draws place 0) (threshold_of (to_bits binary64 p))) (place + 1))
    None

-- a draw: 1 answers yes without a word, and any other probability, 0 too, uses one
unfoldable pub gen_bool : Float → List ℕ → ℕ → Option Draw
gen_bool p draws place = cond (is_one p) (drawn true place) (by_word p draws place)

-- a draw of a send: there 0, of either sign, answers no without a word
unfoldable pub gen_bool_in_send : Float → List ℕ → ℕ → Option Draw
gen_bool_in_send p draws place = cond (is_zero p) (drawn false place) (gen_bool p draws place)

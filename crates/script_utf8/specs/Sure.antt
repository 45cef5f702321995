-- The test of one byte by the three before it, for the code. proofs/Sure says that bytes which pass it are read as the table has them.
-- Assumes nothing.
use Rattle.std.specs.Prelude.{Bool, not, ◌&&◌, ◌||◌, ℕ, leb, ltb, eqb}
use Rattle.std.specs.Bool.{beq}

-- the first byte of the form 10xxxxxx, and the least and the most of them behind a first byte that allows less than all
abbrev pub first_continuation : ℕ
first_continuation = 0x80

abbrev pub least_behind_e0 : ℕ
least_behind_e0 = 0xA0

abbrev pub least_behind_f0 : ℕ
least_behind_f0 = 0x90

abbrev pub most_behind_ed : ℕ
most_behind_ed = 0x9F

abbrev pub most_behind_f4 : ℕ
most_behind_f4 = 0x8F

-- a byte of that form
unfoldable pub continues : ℕ → Bool
continues e = leb first_continuation e && ltb e 0xC0

-- whether a byte must continue a character that p, q or r began, p the nearest
unfoldable pub awaited : ℕ → ℕ → ℕ → Bool
awaited r q p = (leb 0xC2 p || leb 0xE0 q) || leb 0xF0 r

-- below, and above, what a first byte p allows behind it
unfoldable pub too_low : ℕ → ℕ → Bool
too_low p e = (eqb p 0xE0 && ltb e least_behind_e0) || (eqb p 0xF0 && ltb e least_behind_f0)

unfoldable pub too_high : ℕ → ℕ → Bool
too_high p e = (eqb p 0xED && ltb most_behind_ed e) || (eqb p 0xF4 && ltb most_behind_f4 e)

-- bytes that no character has
unfoldable pub in_none : ℕ → Bool
in_none e = (eqb e 0xC0 || eqb e 0xC1) || ltb 0xF4 e

-- whether a byte e is wrong behind p, q and r
unfoldable pub wrong_at : ℕ → ℕ → ℕ → ℕ → Bool
wrong_at r q p e = ((not (beq (continues e) (awaited r q p)) || too_low p e) || too_high p e) || in_none e

-- A number below 2 ^ 64 as plain decimal bytes, without sign or needless zeros, and what a lent slice holds once they are written
-- into it. Assumes nothing.
use Rattle.std.specs.Prelude.{cond, List, ℕ, zero, suc, ◌+◌, ◌/◌, leb, ltb, length, Option, Some, None}
use Rattle.basis.specs.Basis.{laid}
use Rattle.numeral.specs.Digits.{last_digits}

-- how many digits n has: one below ten, else one more than a tenth of it has. The first argument is at least how often ten divides it
unfoldable pub digit_count : ℕ → ℕ → ℕ
digit_count zero n = 1
digit_count (suc k) n = cond (ltb n 10) 1 (suc (digit_count k (n / 10)))

-- the digits of n, for n below 10 ^ 20
unfoldable pub decimal : ℕ → List ℕ
decimal n = last_digits (digit_count 19 n) n

-- the answer and the slice after writing n at a place: the place after its digits, or none and nothing written where they do not fit
unfoldable pub written_of : ℕ → ℕ → ℕ → Option ℕ
written_of n room place = cond (leb (place + length (decimal n)) room) (Some (place + length (decimal n))) None

unfoldable pub out_of : ℕ → List ℕ → ℕ → List ℕ
out_of n out place = cond (leb (place + length (decimal n)) (length out)) (laid out place (decimal n)) out

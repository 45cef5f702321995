-- Decimal digits as bytes, and the number that a list of them stands for (RULES, "Fault scripts", numbers). Assumes nothing.
use Rattle.std.specs.Prelude.{Bool, true, ◌&&◌, List, [], ◌∷◌, ℕ, zero, suc, ◌+◌, ◌-◌, ◌*◌, ◌/◌, ◌%◌, ◌^◌, leb, length}

-- a byte is one of `0` to `9`
unfoldable pub is_digit : ℕ → Bool
is_digit b = leb 48 b && leb b 57

-- every byte of a list is
unfoldable pub is_all_digits : List ℕ → Bool
is_all_digits [] = true
is_all_digits (b ∷ bs) = is_digit b && is_all_digits bs

-- the number in base ten: each digit counts ten times as much for each digit after it
unfoldable pub value_of : List ℕ → ℕ
value_of [] = 0
value_of (b ∷ bs) = (b - 48) * 10 ^ length bs + value_of bs

-- the k last digits of n, zeros in front where n has fewer
unfoldable pub last_digits : ℕ → ℕ → List ℕ
last_digits zero n = []
last_digits (suc k) n = (48 + n / 10 ^ k % 10) ∷ last_digits k n

-- Counts in a row. Assumes nothing.
use Rattle.std.specs.Prelude.{List, ℕ, ◌+◌, ◌-◌, ◌%◌, ◌^◌, min, length, get_or, set}

-- one more at a place, or at the last one for all behind it, modulo 2^64
abbrev pub one_more : List ℕ → ℕ → List ℕ
one_more counts place =
    let at = min place (length counts - 1) in
    set counts at ((get_or counts at 0 + 1) % 2 ^ 64)

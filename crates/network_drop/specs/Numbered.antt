-- A record's number against another. Assumes nothing.
use Rattle.std.specs.Prelude.{ℕ, Bool, leb}
use Rattle.nights.specs.Record.{Record}

-- a record's number is at most that one
abbrev pub up_to : ℕ → Record → Bool
up_to last r = leb r.seq last

-- What an end call asks of the core (RULES, "Refusal numbers" 60). Assumes nothing.
use Rattle.std.specs.Prelude.{Bool, true, ◌&&◌, List, [], ◌∷◌, ℕ, suc, leb, ltb, length}

-- the ids rise strictly, from `least` on, and are below n
unfoldable pub rises_below : ℕ → ℕ → List ℕ → Bool
rises_below n least [] = true
rises_below n least (id ∷ ids) = leb least id && ltb id n && rises_below n (suc id) ids

-- a core that is not empty, strictly rising and has no id of n or over
unfoldable pub core_fits : ℕ → List ℕ → Bool
core_fits n core = ltb 0 (length core) && rises_below n 0 core

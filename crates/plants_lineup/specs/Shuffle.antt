-- Shuffling by lent picks (RULES, "Plants and core"): for i from the last place down to 1 a pick 0..i, swapping. Assumes nothing.
use Rattle.std.specs.Prelude.{Bool, true, ◌&&◌, List, ℕ, zero, suc, ◌-◌, leb, length, drop, get_or, set}

-- the elements at two places swapped
abbrev pub swapped : List ℕ → ℕ → ℕ → List ℕ
swapped l i j = set (set l i (get_or l j 0)) j (get_or l i 0)

-- for i from a place down to 1, the next pick
unfoldable pub shuffled_from : ℕ → List ℕ → List ℕ → List ℕ
shuffled_from zero picks l = l
shuffled_from (suc i) picks l = shuffled_from i (drop 1 picks) (swapped l (suc i) (get_or picks 0 0))

-- a list shuffled by the picks at the front of some
abbrev pub shuffled : List ℕ → List ℕ → List ℕ
shuffled picks l = shuffled_from (length l - 1) picks l

-- for i from a place down to 1, the next pick is 0..i
unfoldable pub picks_within : ℕ → List ℕ → Bool
picks_within zero picks = true
picks_within (suc i) picks = leb (get_or picks 0 0) (suc i) && picks_within i (drop 1 picks)

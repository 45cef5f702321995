-- What several crates say in the same words: how many plants there are and how many are a quorum (RULES, "Plants and core"), a bool as a
-- number, and a list laid over another. Assumes nothing.
use Rattle.std.specs.Prelude.{Bool, cond, ◌&&◌, List, ◌++◌, ℕ, ◌+◌, ◌/◌, leb, length, take, drop}

-- the fewest plants, and the most
abbrev pub fewest : ℕ
fewest = 3

abbrev pub most : ℕ
most = 15

-- 40: n is 3 to 15
unfoldable pub plant_count : ℕ → Bool
plant_count n = leb fewest n && leb n most

-- a quorum of n plants
abbrev pub quorum : ℕ → ℕ
quorum n = n / 2 + 1

-- 1 for true, 0 for false
abbrev pub bit : Bool → ℕ
bit b = cond b 1 0

-- a list laid over another from a place on: what stands before it and after it stays
abbrev pub laid : List ℕ → ℕ → List ℕ → List ℕ
laid l place part = take place l ++ (part ++ drop (place + length part) l)

-- The state of 3 to 15 plants (RULES, "Plants and core"), when it is well formed, and a fresh_plants one. A state has room for 15 plants: flags and
-- numbers are lists of 15, of which the first n are the plants'. Assumes nothing.
use Rattle.std.specs.Prelude.{Bool, true, false, cond, not, ◌&&◌, List, [], ◌∷◌, ◌++◌, ℕ, ◌-◌, ◌^◌, leb, drop, replicate, Option, None, Result, Ok, Err}
use Rattle.basis.specs.Basis.{most, plant_count}
use Rattle.plants.specs.Refusals.{must, ◌then◌}
use Rattle.plants.specs.declared.Plants.{Plants}
use Rattle.calls.specs.declared.After.{After}
use Rattle.plants.specs.declared.refusal.Refusal.{Refusal}
use Rattle.plants.specs.declared.refusal.Refusal.TheVariants.{PlantCount, IllFormed}

-- the most that a count may be
abbrev pub limit : ℕ
limit = 2 ^ 62

-- no flag is set
unfoldable pub none_set : List Bool → Bool
none_set [] = true
none_set (b ∷ bs) = not b && none_set bs

-- no count is over the limit
unfoldable pub counts_fit : Plants → Bool
counts_fit s = leb s.crashes limit && leb s.restarts limit && leb s.reboots limit

-- no flag is set past n, and no count is over the limit
unfoldable pub plants_formed : Plants → Bool
plants_formed s = none_set (drop s.n s.up) && none_set (drop s.n s.partitioned) && counts_fit s

-- the tests of a state, which come first in every call: 40 and then 42
unfoldable pub tested : Plants → Result Unit Refusal
tested s = must (plant_count s.n) PlantCount then must (plants_formed s) IllFormed

-- all n up, and zeros
abbrev pub fresh_plants : ℕ → Plants
fresh_plants n =
    record {
      n = n;
      up = replicate n true ++ replicate (most - n) false;
      partitioned = replicate most false;
      stable_until = replicate most 0;
      crashes = 0;
      restarts = 0;
      reboots = 0;
    }

-- all zeros
abbrev pub blank : Plants
blank = fresh_plants 0

-- what a call on the plants hands back: the plants that follow it, and done, done with a nonce that was drawn, or why it is refused
abbrev pub Next : Type 0
Next = After Plants (Result (Option ℕ) Refusal)

-- a new state
unfoldable pub new_plants : ℕ → Next
new_plants n =
    cond (plant_count n) (record { state = fresh_plants n; answer = Ok None }) (record { state = blank; answer = Err PlantCount })

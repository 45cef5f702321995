-- The 49 words of a state of plants, as the host lends them: n; 15 flags up; 15 flags partitioned; 15 ticks; crashes, restarts,
-- reboots. Words that name no case have a refusal of their own. Assumes nothing.
use Rattle.std.specs.Prelude.{ℕ, ◌+◌, ◌*◌, Bool, true, cond, ◌&&◌, List, [], ◌∷◌, ◌++◌, map, leb, eqb, get_or, take, drop, Result}
use Rattle.script.specs.declared.fault.Fault.{Fault}
use Rattle.script.specs.declared.fault.Fault.TheVariants.{Crash, Restart, Reboot, Partition, Heal, HealAll}
use Rattle.basis.specs.Basis.{most, plant_count, bit}
use Rattle.plants.specs.Refusals.{must, ◌then◌}
use Rattle.plants.specs.declared.Plants.{Plants}
use Rattle.plants.specs.declared.Origin.{Origin}
use Rattle.plants.specs.declared.Origin.TheVariants.{Replica, Client}
use Rattle.plants.specs.declared.refusal.Refusal.{Refusal}
use Rattle.plants.specs.declared.refusal.Refusal.TheVariants.{PlantCount, IllFormed}

-- where the parts of a state stand, behind n, and how many words it has
abbrev pub up_at : ℕ
up_at = 1

abbrev pub partitioned_at : ℕ
partitioned_at = up_at + most

abbrev pub stable_at : ℕ
stable_at = partitioned_at + most

abbrev pub crashes_at : ℕ
crashes_at = stable_at + most

abbrev pub restarts_at : ℕ
restarts_at = crashes_at + 1

abbrev pub reboots_at : ℕ
reboots_at = restarts_at + 1

abbrev pub state_size : ℕ
state_size = reboots_at + 1

-- a core's answer: its size, the picks used, and an id or 0 for each of the most plants
abbrev pub core_row : ℕ
core_row = 2 + most

-- flags and their words
abbrev pub flag_of : ℕ → Bool
flag_of w = eqb w 1

unfoldable pub flags_in : List ℕ → List Bool
flags_in ws = map flag_of ws

unfoldable pub bits : List Bool → List ℕ
bits fs = map bit fs

unfoldable pub all_bits : List ℕ → Bool
all_bits [] = true
all_bits (w ∷ ws) = leb w 1 && all_bits ws

-- the words of the flags are 0 or 1
abbrev pub flag_words_fit : List ℕ → Bool
flag_words_fit w = all_bits (take (2 * most) (drop up_at w))

-- the ticks
abbrev pub ticks_in : List ℕ → List ℕ
ticks_in w = take most (drop stable_at w)

-- the state of the words, and the words of a state
abbrev pub plants_in : List ℕ → Plants
plants_in w =
    record {
      n = get_or w 0 0;
      up = flags_in (take most (drop up_at w));
      partitioned = flags_in (take most (drop partitioned_at w));
      stable_until = ticks_in w;
      crashes = get_or w crashes_at 0;
      restarts = get_or w restarts_at 0;
      reboots = get_or w reboots_at 0;
    }

abbrev pub state_words : Plants → List ℕ
state_words s =
    s.n ∷ (bits s.up ++ (bits s.partitioned ++ (s.stable_until ++ (s.crashes ∷ s.restarts ∷ s.reboots ∷ []))))

-- the tests of the words themselves: n is 3 to 15, and each flag is 0 or 1
unfoldable pub shape_tested : List ℕ → Result Unit Refusal
shape_tested w = must (plant_count (get_or w 0 0)) PlantCount then must (flag_words_fit w) IllFormed

-- what the words themselves answer, 0 if nothing: n is not 3 to 15, or a flag is neither 0 nor 1
unfoldable pub shaped : List ℕ → ℕ
shaped w = cond (plant_count (get_or w 0 0)) (cond (flag_words_fit w) 0 42) 40

-- the fault of a number from 0 to 5, and the sender of a sort
unfoldable pub fault_in : ℕ → ℕ → Fault
fault_in k id =
    cond (eqb k 0) (Crash id)
    (cond (eqb k 1) (Restart id)
    (cond (eqb k 2) (Reboot id) (cond (eqb k 3) (Partition id) (cond (eqb k 4) (Heal id) HealAll))))

unfoldable pub origin_in : ℕ → ℕ → Origin
origin_in sort id = cond (eqb sort 0) (Replica id) (Client id)

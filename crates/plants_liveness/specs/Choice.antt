-- The choice of the core with its refusals, and the plants after it (RULES, "Plants and core" and "Refusal numbers"). Partitions clear; core
-- plants that were down come up, a restart, and others that were up go down, a crash; stable-until stays. Assumes nothing.
use Rattle.std.specs.Prelude.{Bool, false, not, ◌&&◌, ◌||◌, List, [], ◌∷◌, ◌++◌, ℕ, zero, suc, ◌+◌, ◌-◌, leb, eqb, length, get_or, replicate, Result, Ok, Err}
use Rattle.plants.specs.Refusals.{must, ◌then◌}
use Rattle.basis.specs.Basis.{most, bit, quorum}
use Rattle.plants.specs.State.{tested, counts_fit}
use Rattle.plants.specs.declared.Plants.{Plants}
use Rattle.calls.specs.declared.After.{After}
use Rattle.plants.specs.declared.refusal.Refusal.{Refusal}
use Rattle.plants.specs.declared.refusal.Refusal.TheVariants.{CountFull, BadFlags, TooFewPicks, PickOutOfRange, TooFewHealthy}
use Rattle.plants_lineup.specs.Core.{picks_used, core_size, picks_in_range, recovering_fit, healthy_count, core_of}
use Rattle.plants_liveness.specs.declared.Core.{Core}

unfoldable pub member : ℕ → List ℕ → Bool
member id [] = false
member id (x ∷ xs) = eqb id x || member id xs

-- whether each of k plants from plant i on is in a core
unfoldable pub in_core : List ℕ → ℕ → ℕ → List Bool
in_core core i zero = []
in_core core i (suc k) = member i core ∷ in_core core (suc i) k

abbrev pub is_set : List Bool → ℕ → Bool
is_set flags id = get_or flags id false

-- how many flags are set that were not
unfoldable pub newly_set : List Bool → List Bool → ℕ
newly_set [] [] = 0
newly_set [] (x ∷ xs) = 0
newly_set (b ∷ bs) [] = 0
newly_set (b ∷ bs) (x ∷ xs) = bit (not b && x) + newly_set bs xs

-- which plants are up after the choice
abbrev pub up_after : List ℕ → List Bool
up_after core = in_core core 0 most

-- the plants with these up from now on
abbrev pub settled_by : Plants → List Bool → Plants
settled_by s up =
    record {
      n = s.n;
      up = up;
      partitioned = replicate most false;
      stable_until = s.stable_until;
      crashes = s.crashes + newly_set up s.up;
      restarts = s.restarts + newly_set s.up up;
      reboots = s.reboots;
    }

-- the plants after the choice
abbrev pub settled : Plants → List ℕ → Plants
settled s core = settled_by s (up_after core)

-- the tests before the core is chosen, 40, 42, 45, 48, 46 and 47, in this order
unfoldable pub lent_tested : Plants → List ℕ → List ℕ → Bool → Result Unit Refusal
lent_tested s flags picks full =
    tested s
    then must (eqb (length flags) s.n && recovering_fit flags) BadFlags
    then must (leb (quorum s.n) (healthy_count s.n flags)) TooFewHealthy
    then must (leb (picks_used s.n full) (length picks)) TooFewPicks
    then must (picks_in_range s.n picks full) PickOutOfRange

-- and then 43, of the counts after all changes
unfoldable pub choice_tested : Plants → List ℕ → List ℕ → Bool → Result Unit Refusal
choice_tested s flags picks full =
    lent_tested s flags picks full
    then must (counts_fit (settled s (core_of s.n flags picks full))) CountFull

-- the core with zeros past its size
abbrev pub padded : List ℕ → List ℕ
padded core = core ++ replicate (most - length core) 0

-- the ids of the core, and zeros where there is none
abbrev pub ids_of : Result Core Refusal → List ℕ
ids_of (Ok core) = core.ids
ids_of (Err r) = replicate most 0

-- what the choice hands back: the plants that follow it, and the core, or why there is none
abbrev pub Chosen : Type 0
Chosen = After Plants (Result Core Refusal)

-- the plants that follow, the core, and the answer: a refusal hands the plants back as they came, with no core
abbrev pub chosen_if : Result Unit Refusal → Plants → List ℕ → List ℕ → Bool → Chosen
chosen_if (Ok x) s flags picks full =
    record {
      state = settled s (core_of s.n flags picks full);
      answer =
          Ok
          (record {
            size = core_size s.n picks full;
            used = picks_used s.n full;
            ids = padded (core_of s.n flags picks full);
          });
    }
chosen_if (Err r) s flags picks full = record { state = s; answer = Err r }

unfoldable pub chosen : Plants → List ℕ → List ℕ → Bool → Chosen
chosen s flags picks full = chosen_if (choice_tested s flags picks full) s flags picks full

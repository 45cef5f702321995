-- A fault applied to the plants (RULES, "Plants and core"). Crash counts only if the plant is up, restart only if it is down. Reboot always counts
-- a reboot and a restart, ends up, and uses one draw as nonce. Crash, restart and reboot always set stable-until to the tick. Assumes nothing.
use Rattle.std.specs.Prelude.{Bool, true, false, not, List, [], ◌∷◌, ℕ, ◌+◌, ltb, get_or, set, replicate, Option, Some, None, Result, Ok, Err}
use Rattle.script.specs.declared.fault.Fault.{Fault}
use Rattle.script.specs.declared.fault.Fault.TheVariants.{Crash, Restart, Reboot, Partition, Heal, HealAll}
use Rattle.plants.specs.Refusals.{must, ◌then◌}
use Rattle.basis.specs.Basis.{most, bit}
use Rattle.plants.specs.State.{Next, tested, counts_fit}
use Rattle.plants.specs.declared.Plants.{Plants}
use Rattle.plants.specs.declared.refusal.Refusal.{Refusal}
use Rattle.plants.specs.declared.refusal.Refusal.TheVariants.{UnknownPlant, CountFull, NoNonce}

-- whether a plant is up
abbrev pub is_up : Plants → ℕ → Bool
is_up s i = get_or s.up i false

-- a plant up or down from a tick on, with new counts
abbrev pub turned : Plants → ℕ → Bool → ℕ → ℕ → ℕ → ℕ → Plants
turned s i flag tick crashes restarts reboots =
    record {
      n = s.n;
      up = set s.up i flag;
      partitioned = s.partitioned;
      stable_until = set s.stable_until i tick;
      crashes = crashes;
      restarts = restarts;
      reboots = reboots;
    }

-- other plants partitioned, and all else as it was
abbrev pub parted : Plants → List Bool → Plants
parted s flags =
    record {
      n = s.n;
      up = s.up;
      partitioned = flags;
      stable_until = s.stable_until;
      crashes = s.crashes;
      restarts = s.restarts;
      reboots = s.reboots;
    }

-- the plants after_fault a fault at a tick
unfoldable pub after_fault : Plants → ℕ → Fault → Plants
after_fault s tick (Crash i) = turned s i false tick (s.crashes + bit (is_up s i)) s.restarts s.reboots
after_fault s tick (Restart i) = turned s i true tick s.crashes (s.restarts + bit (not (is_up s i))) s.reboots
after_fault s tick (Reboot i) = turned s i true tick s.crashes (s.restarts + 1) (s.reboots + 1)
after_fault s tick (Partition i) = parted s (set s.partitioned i true)
after_fault s tick (Heal i) = parted s (set s.partitioned i false)
after_fault s tick HealAll = parted s (replicate most false)

-- the fault's id is below n: heal-all has none
unfoldable pub knows : Plants → Fault → Bool
knows s (Crash i) = ltb i s.n
knows s (Restart i) = ltb i s.n
knows s (Reboot i) = ltb i s.n
knows s (Partition i) = ltb i s.n
knows s (Heal i) = ltb i s.n
knows s HealAll = true

-- what a fault answers: a reboot the first draw as its nonce, if there is one
abbrev pub answered : Fault → List ℕ → Result (Option ℕ) Refusal
answered (Crash i) draws = Ok None
answered (Restart i) draws = Ok None
answered (Reboot i) [] = Err NoNonce
answered (Reboot i) (d ∷ ds) = Ok (Some d)
answered (Partition i) draws = Ok None
answered (Heal i) draws = Ok None
answered HealAll draws = Ok None

-- whether there is a draw where one is used
abbrev pub has_nonce : Fault → List ℕ → Bool
has_nonce (Crash i) draws = true
has_nonce (Restart i) draws = true
has_nonce (Reboot i) [] = false
has_nonce (Reboot i) (d ∷ ds) = true
has_nonce (Partition i) draws = true
has_nonce (Heal i) draws = true
has_nonce HealAll draws = true

-- the tests 40, 42, 41, 43 and 44, in this order
unfoldable pub fault_tested : Plants → ℕ → Fault → List ℕ → Result Unit Refusal
fault_tested s tick fault draws =
    tested s
    then must (knows s fault) UnknownPlant
    then must (counts_fit (after_fault s tick fault)) CountFull
    then must (has_nonce fault draws) NoNonce

-- the plants that follow and the answer: a refusal hands the plants back as they came
abbrev pub applied_if : Result Unit Refusal → Plants → ℕ → Fault → List ℕ → Next
applied_if (Ok x) s tick fault draws = record { state = after_fault s tick fault; answer = answered fault draws }
applied_if (Err r) s tick fault draws = record { state = s; answer = Err r }

unfoldable pub applied : Plants → ℕ → Fault → List ℕ → Next
applied s tick fault draws = applied_if (fault_tested s tick fault draws) s tick fault draws

-- What becomes of a message that is due (RULES, "Plants and core"): 1 if the receiver is down, else 2 if the receiver or a sending replica is
-- partitioned, else 0. A client's id isn't tested. Assumes nothing.
use Rattle.std.specs.Prelude.{Bool, true, false, cond, ◌||◌, ℕ, ltb, get_or, Result, Ok, Err}
use Rattle.plants.specs.Refusals.{must, ◌then◌}
use Rattle.plants.specs.State.{tested}
use Rattle.plants.specs.Faults.{is_up}
use Rattle.plants.specs.declared.Plants.{Plants}
use Rattle.plants.specs.declared.Origin.{Origin}
use Rattle.plants.specs.declared.Origin.TheVariants.{Replica, Client}
use Rattle.plants.specs.declared.Verdict.{Verdict}
use Rattle.plants.specs.declared.Verdict.TheVariants.{Deliver, ReceiverDown, CutOff}
use Rattle.plants.specs.declared.refusal.Refusal.{Refusal}
use Rattle.plants.specs.declared.refusal.Refusal.TheVariants.{UnknownPlant}

abbrev pub verdict_number : Verdict → ℕ
verdict_number Deliver = 0
verdict_number ReceiverDown = 1
verdict_number CutOff = 2

-- whether a plant is partitioned
abbrev pub is_partitioned : Plants → ℕ → Bool
is_partitioned s i = get_or s.partitioned i false

-- a sending replica is one of the plants; a client may have any id
abbrev pub sender_known : Plants → Origin → Bool
sender_known s (Replica i) = ltb i s.n
sender_known s (Client i) = true

abbrev pub sender_partitioned : Plants → Origin → Bool
sender_partitioned s (Replica i) = is_partitioned s i
sender_partitioned s (Client i) = false

-- by whether the receiver is up, and whether the receiver and the sender are partitioned
abbrev pub verdict_by : Bool → Bool → Bool → Verdict
verdict_by up receiver_cut sender_cut = cond up (cond (receiver_cut || sender_cut) CutOff Deliver) ReceiverDown

abbrev pub verdict_of : Plants → Origin → ℕ → Verdict
verdict_of s from to = verdict_by (is_up s to) (is_partitioned s to) (sender_partitioned s from)

-- the tests 40, 42 and 41, in this order
unfoldable pub verdict_tested : Plants → Origin → ℕ → Result Unit Refusal
verdict_tested s from to =
    tested s then must (ltb to s.n) UnknownPlant then must (sender_known s from) UnknownPlant

abbrev pub judged_if : Result Unit Refusal → Plants → Origin → ℕ → Result Verdict Refusal
judged_if (Ok x) s from to = Ok (verdict_of s from to)
judged_if (Err r) s from to = Err r

unfoldable pub verdict_given : Plants → Origin → ℕ → Result Verdict Refusal
verdict_given s from to = judged_if (verdict_tested s from to) s from to

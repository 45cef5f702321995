-- Faults by their names and numbers (RULES, "Fault scripts"): crash, restart, reboot, partition, heal, each with an id, and heal-all,
-- numbered 0 to 5 in this order. Names match by exact case. Assumes nothing.
use Rattle.std.specs.Prelude.{Bool, true, false, cond, ◌&&◌, List, [], ◌∷◌, ℕ, eqb, Option, Some, None}
use Rattle.numeral.specs.Bytes.{bytes}
use Rattle.script.specs.declared.fault.Fault.{Fault}
use Rattle.script.specs.declared.fault.Fault.TheVariants.{Crash, Restart, Reboot, Partition, Heal, HealAll}

-- a fault's number, its id (0 for heal-all, which has none), and whether it has one
abbrev pub fault_number : Fault → ℕ
fault_number (Crash i) = 0
fault_number (Restart i) = 1
fault_number (Reboot i) = 2
fault_number (Partition i) = 3
fault_number (Heal i) = 4
fault_number HealAll = 5

abbrev pub fault_id : Fault → ℕ
fault_id (Crash i) = i
fault_id (Restart i) = i
fault_id (Reboot i) = i
fault_id (Partition i) = i
fault_id (Heal i) = i
fault_id HealAll = 0

abbrev pub needs_id : Fault → Bool
needs_id (Crash i) = true
needs_id (Restart i) = true
needs_id (Reboot i) = true
needs_id (Partition i) = true
needs_id (Heal i) = true
needs_id HealAll = false

-- the same fault of another plant
abbrev pub with_id : Fault → ℕ → Fault
with_id (Crash i) id = Crash id
with_id (Restart i) id = Restart id
with_id (Reboot i) id = Reboot id
with_id (Partition i) id = Partition id
with_id (Heal i) id = Heal id
with_id HealAll id = HealAll

-- two lists of bytes are the same
unfoldable pub same : List ℕ → List ℕ → Bool
same [] [] = true
same [] (y ∷ ys) = false
same (x ∷ xs) [] = false
same (x ∷ xs) (y ∷ ys) = eqb x y && same xs ys

-- a fault's name in a script
abbrev pub crash : List ℕ
crash = bytes "crash"

abbrev pub restart : List ℕ
restart = bytes "restart"

abbrev pub reboot : List ℕ
reboot = bytes "reboot"

abbrev pub partition : List ℕ
partition = bytes "partition"

abbrev pub heal : List ℕ
heal = bytes "heal"

abbrev pub heal_all : List ℕ
heal_all = bytes "heal-all"

-- the fault that a word names, of the plant 0, or that it names none
unfoldable pub named_by : List ℕ → Option Fault
named_by w =
    cond (same w crash) (Some (Crash 0))
    (cond (same w restart) (Some (Restart 0))
    (cond (same w reboot) (Some (Reboot 0))
    (cond (same w partition) (Some (Partition 0))
    (cond (same w heal) (Some (Heal 0)) (cond (same w heal_all) (Some HealAll) None)))))

-- Numbers and names as the rules list them, one row each, and that reading a fault's name as it is written gives the fault back. Each row is by
-- computation: two numbers exchanged alike in a definition and in the code fail here. Assumes nothing.
use mathlib.Core.Path.{◌≡◌, refl}
use Prim.Native.Nat.{ℕ}
use Rattle.numeral.specs.Reading.{why_number}
use Rattle.numeral.specs.declared.Why.TheVariants.{NoDigit, StrayByte, TooLarge}
use Rattle.script.specs.Faults.{fault_number, with_id, same, named_by}
use Rattle.script.specs.Scripts.{script_refusal}
use Rattle.script.specs.declared.fault.Fault.{Fault}
use Rattle.script.specs.declared.fault.Fault.TheVariants.{Crash, Restart, Reboot, Partition, Heal, HealAll}
use Rattle.std.specs.Prelude.{Some}
use Rattle.numeral.specs.declared.Flaw.{Flaw}
use Rattle.script.specs.declared.line.Refusal.TheVariants.{TooLong, BadByte, OneWord, BadTick, UnknownFault, MissingId, BadId, NoRoom}
use Rattle.script_report.specs.Report.{name_of}

-- the name that is written for a fault is read as that fault, of plant 0 where it has one
pub name_reads_back : (f : Fault) → named_by (name_of (fault_number f)) ≡ Some (with_id f 0)
unfolding named_by name_of same
name_reads_back (Crash i) = refl
name_reads_back (Restart i) = refl
name_reads_back (Reboot i) = refl
name_reads_back (Partition i) = refl
name_reads_back (Heal i) = refl
name_reads_back HealAll = refl

-- the refusals of a script by their numbers, the reasons of a number gone bad by theirs, and the faults by theirs, whatever the plant
pub record Numbered : Type 0 where
  pub too_long : script_refusal TooLong ≡ 1
  pub bad_byte : script_refusal BadByte ≡ 2
  pub only_one_word : script_refusal OneWord ≡ 3
  pub bad_tick : (flaw : Flaw) → script_refusal (BadTick flaw) ≡ 4
  pub unknown_fault : script_refusal UnknownFault ≡ 5
  pub id_missing : script_refusal MissingId ≡ 6
  pub id_bad : (flaw : Flaw) → script_refusal (BadId flaw) ≡ 7
  pub room_full : script_refusal NoRoom ≡ 8
  pub no_digit : why_number NoDigit ≡ 1
  pub stray_byte : why_number StrayByte ≡ 2
  pub too_large : why_number TooLarge ≡ 3
  pub crash : (plant : ℕ) → fault_number (Crash plant) ≡ 0
  pub restart : (plant : ℕ) → fault_number (Restart plant) ≡ 1
  pub reboot : (plant : ℕ) → fault_number (Reboot plant) ≡ 2
  pub partition : (plant : ℕ) → fault_number (Partition plant) ≡ 3
  pub heal : (plant : ℕ) → fault_number (Heal plant) ≡ 4
  pub heal_all : fault_number HealAll ≡ 5

pub numbered : Numbered
numbered =
    record {
      too_long = refl;
      bad_byte = refl;
      only_one_word = refl;
      bad_tick = λ flaw. refl;
      unknown_fault = refl;
      id_missing = refl;
      id_bad = λ flaw. refl;
      room_full = refl;
      no_digit = refl;
      stray_byte = refl;
      too_large = refl;
      crash = λ plant. refl;
      restart = λ plant. refl;
      reboot = λ plant. refl;
      partition = λ plant. refl;
      heal = λ plant. refl;
      heal_all = refl;
    }

-- Answers and the order in which they are sought (RULES, "Properties"): the first broken place, plants rising, then indexes from last commit up.
-- Tests count from 1 in the order written; the index is 0 where the test has none. A pass is `Ok tt`. Assumes nothing.
use Rattle.std.specs.Prelude.{Bool, cond, List, [], ◌∷◌, ℕ, zero, suc, ◌-◌, ⊤, Result, Ok, Err}
use Rattle.properties_snapshots.specs.Cluster.{Cluster, plant, last}
use Rattle.properties_verdicts.specs.declared.Break.{Break}
use Rattle.properties_verdicts.specs.declared.Failure.{Failure}
use Rattle.properties_verdicts.specs.declared.Failure.TheVariants.{Broken, Refused}
use Rattle.properties_verdicts.specs.declared.Property.{Property}
use Rattle.properties_verdicts.specs.declared.Property.TheVariants.{CommitNumber, PrefixAgreement, NoDuplicates, Durability, Convergence}
use Rattle.properties_verdicts.specs.declared.Refusal.{Refusal}
use Rattle.properties_verdicts.specs.declared.Refusal.TheVariants.{PlantCount, NoSuchPlant, BadSnapshot, BadTracker}

-- the numbers that the rules give
unfoldable pub property_number : Property → ℕ
property_number CommitNumber = 1
property_number PrefixAgreement = 3
property_number NoDuplicates = 4
property_number Durability = 6
property_number Convergence = 7

unfoldable pub properties_refusal : Refusal → ℕ
properties_refusal PlantCount = 40
properties_refusal NoSuchPlant = 41
properties_refusal BadSnapshot = 60
properties_refusal BadTracker = 61

-- one answer and, if that is a pass, the next
abbrev pub and_then : {E : Type 0} → Result ⊤ E → Result ⊤ E → Result ⊤ E
and_then (Ok x) b = b
and_then (Err e) b = Err e

-- the first answer that is no pass, of the numbers from `from` up, `count` of them
unfoldable pub first_answer : {E : Type 0} → (ℕ → Result ⊤ E) → ℕ → ℕ → Result ⊤ E
first_answer f from zero = Ok tt
first_answer f from (suc count) = and_then (f from) (first_answer f (suc from) count)

-- a test whose failing is that error
abbrev pub unless : {E : Type 0} → E → Bool → Result ⊤ E
unless e good = cond good (Ok tt) (Err e)

-- a place
abbrev pub broken : Property → ℕ → ℕ → ℕ → Break
broken p r i number = record { property = p; plant = r; index = i; test = number }

-- a test of a single entry
abbrev pub at_entry : Property → ℕ → ℕ → ℕ → Bool → Result ⊤ Break
at_entry p r i number holds = unless (broken p r i number) holds

-- the first test that fails, counted from `number` on; the test has no index
abbrev pub first_failed : Property → ℕ → ℕ → List Bool → Result ⊤ Break
first_failed p r number [] = Ok tt
first_failed p r number (holds ∷ more) = cond holds (first_failed p r (suc number) more) (Err (broken p r 0 number))

-- plants rising
abbrev pub over_plants : {E : Type 0} → Cluster → (ℕ → Result ⊤ E) → Result ⊤ E
over_plants c f = first_answer f 0 c.size

-- the entries that a plant has committed since it was last verified: indexes from last commit up
abbrev pub over_committed : {E : Type 0} → Cluster → ℕ → (ℕ → Result ⊤ E) → Result ⊤ E
over_committed c r f = first_answer f (last c r) ((plant c r).commit - last c r)

-- what a call fails with, of a property's answer and of a refusal
abbrev pub judged : Result ⊤ Break → Result ⊤ Failure
judged (Ok x) = Ok tt
judged (Err b) = Err (Broken b)

abbrev pub refused : Result ⊤ Refusal → Result ⊤ Failure
refused (Ok x) = Ok tt
refused (Err e) = Err (Refused e)

-- words that only a pass changes
abbrev pub on_pass : {E : Type 0} → Result ⊤ E → List ℕ → List ℕ → List ℕ
on_pass (Ok x) after before = after
on_pass (Err e) after before = before

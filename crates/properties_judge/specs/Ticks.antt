-- The properties of a tick in their order: 1, 3, 4 and 6 (RULES, "Properties"). Assumes nothing.
use Rattle.std.specs.Prelude.{Bool, ℕ, ⊤, Result}
use Rattle.properties_snapshots.specs.Cluster.{Cluster}
use Rattle.properties_verdicts.specs.Verdicts.{and_then, at_entry, over_plants, over_committed}
use Rattle.properties_commits.specs.Commits.{commit_numbers}
use Rattle.properties_agreement.specs.Agreement.{agrees}
use Rattle.properties_duplicates.specs.Duplicates.{unseen}
use Rattle.properties_durability.specs.Durability.{durable}
use Rattle.properties_verdicts.specs.declared.Break.{Break}
use Rattle.properties_verdicts.specs.declared.Property as all

-- the properties that ask about each entry newly committed: 3, 4 and 6
pub data EntryProperty : Type 0 where
  PrefixAgreement : EntryProperty
  NoDuplicates : EntryProperty
  Durability : EntryProperty

-- the properties of entries by their names among all
abbrev pub named : EntryProperty → all.Property
named PrefixAgreement = all.TheVariants.PrefixAgreement
named NoDuplicates = all.TheVariants.NoDuplicates
named Durability = all.TheVariants.Durability

-- what each asks of an entry newly committed
abbrev pub asked : EntryProperty → Cluster → ℕ → ℕ → Bool
asked PrefixAgreement c r i = agrees c r i
asked NoDuplicates c r i = unseen c r i
asked Durability c r i = durable c r i

-- a test of each entry newly committed, over all plants
abbrev pub over_each : all.Property → (ℕ → ℕ → Bool) → Cluster → Result ⊤ Break
over_each p holds c = over_plants c (λ r. over_committed c r (λ i. at_entry p r i 1 (holds r i)))

-- such a property over all plants
unfoldable pub over_entries : EntryProperty → Cluster → Result ⊤ Break
over_entries p c = over_each (named p) (asked p c) c

-- a tick call: 1, 3, 4 and 6, property by property over all plants
unfoldable pub judged_entries : Cluster → Result ⊤ Break
judged_entries c =
    and_then (over_entries PrefixAgreement c) (and_then (over_entries NoDuplicates c) (over_entries Durability c))

unfoldable pub tick_judged : Cluster → Result ⊤ Break
tick_judged c = and_then (commit_numbers c) (judged_entries c)

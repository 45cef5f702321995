-- Property 3 by the rule's own words (RULES, "Properties"): plant by plant, and index by index from its last commit up to its commit, an
-- entry is compared with the canonical one at its index, or is appended where there is none; what earlier plants appended counts.
-- Assumes nothing.
use Rattle.std.specs.Prelude.{cond, List, [], ◌∷◌, ◌++◌, ℕ, zero, suc, ◌-◌, ltb, length, get_or, ⊤, Result, Ok, Err}
use Rattle.properties_snapshots.specs.Cluster.{LogEntry, Cluster, same_entry, no_entry, plant, entry, last}
use Rattle.properties_verdicts.specs.Verdicts.{at_entry}
use Rattle.properties_verdicts.specs.declared.Break.{Break}
use Rattle.properties_verdicts.specs.declared.Property.TheVariants.{PrefixAgreement}

-- the canonical entries so far, and the answer so far
pub record Walk : Type 0 where
  pub canonical : List LogEntry
  pub answer : Result ⊤ Break

-- a walk that goes on only after a pass
abbrev pub on_answer : Result ⊤ Break → Walk → (List LogEntry → Walk) → Walk
on_answer (Ok x) w more = more w.canonical
on_answer (Err e) w more = w

abbrev pub walk_then : Walk → (List LogEntry → Walk) → Walk
walk_then w more = on_answer w.answer w more

-- one entry: compared, or appended
abbrev pub compared_or_appended : (r i : ℕ) → LogEntry → List LogEntry → Walk
compared_or_appended r i e canonical =
    cond (ltb i (length canonical))
    (record { canonical = canonical; answer = at_entry PrefixAgreement r i 1 (same_entry (get_or canonical i no_entry) e) })
    (record { canonical = canonical ++ (e ∷ []); answer = Ok tt })

-- plant r's entries from index i on, so many
unfoldable pub over_indexes : Cluster → (r i count : ℕ) → List LogEntry → Walk
over_indexes c r i zero canonical = record { canonical = canonical; answer = Ok tt }
over_indexes c r i (suc count) canonical =
    walk_then (compared_or_appended r i (entry c r i) canonical) (over_indexes c r (suc i) count)

-- the plants from plant r on, so many
unfoldable pub over_all : Cluster → (r count : ℕ) → List LogEntry → Walk
over_all c r zero canonical = record { canonical = canonical; answer = Ok tt }
over_all c r (suc count) canonical =
    walk_then (over_indexes c r (last c r) ((plant c r).commit - last c r) canonical) (over_all c (suc r) count)

-- the whole call, from the canonical entries that are remembered
abbrev pub appending : Cluster → Walk
appending c = over_all c 0 c.size c.tracker.canonical

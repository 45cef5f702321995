-- Property 6, durability (RULES, "Properties"): copies ≥ max(0, participants + 1 - quorum). Assumes nothing.
use Rattle.std.specs.Prelude.{Bool, not, ◌&&◌, ℕ, ◌+◌, ◌-◌, leb, ltb, length}
use Rattle.basis.specs.Basis.{quorum}
use Rattle.properties_snapshots.specs.Below.{count_below}
use Rattle.properties_snapshots.specs.Cluster.{LogEntry, Cluster, same_entry, plant, entry}

-- the plants that are not recovering
unfoldable pub participants : Cluster → ℕ
participants c = count_below c.size (λ q. not (plant c q).recovering)

-- so many copies meet every quorum that the participants could form
abbrev pub needed_copies : ℕ → ℕ → ℕ
needed_copies n taking = taking + 1 - quorum n

-- plant q holds a copy: it takes part, and its log reaches the index with an equal entry there
unfoldable pub holds_copy : Cluster → ℕ → LogEntry → ℕ → Bool
holds_copy c i e q = not (plant c q).recovering && ltb i (length (plant c q).log) && same_entry (entry c q i) e

-- the copies of the entry of plant r at index i
unfoldable pub copies_of : Cluster → ℕ → ℕ → ℕ
copies_of c r i = count_below c.size (holds_copy c i (entry c r i))

unfoldable pub durable : Cluster → ℕ → ℕ → Bool
durable c r i = leb (needed_copies c.size (participants c)) (copies_of c r i)

-- What the copies of the canonical entries can show: property 6, of the entries that agree with them. Assumes nothing.
use Rattle.std.specs.Prelude.{true, List, ◌≡◌, ℕ, ◌<◌, get_or}
use Rattle.properties_snapshots.specs.Below.{count_below}
use Rattle.properties_snapshots.specs.Cluster.{Cluster, plant}
use Rattle.properties_snapshots.specs.Layout.{commit_at, last_at}
use Rattle.properties_agreement.specs.Agreement.{canonical_entry, agrees}
use Rattle.properties_durability.specs.Durability.{holds_copy, durable}

-- the copies of the canonical entry at an index
unfoldable pub canonical_copies : Cluster → ℕ → ℕ
canonical_copies c i = count_below c.size (holds_copy c i (canonical_entry c i))

-- at an index: whoever has committed an entry there that agrees with the canonical one has a durable one
abbrev pub DurableAt : Cluster → ℕ → Type 0
DurableAt c i = (r : ℕ) → r < c.size → i < (plant c r).commit → agrees c r i ≡ true → durable c r i ≡ true

-- the commit of plant r has moved
abbrev pub Moved : List ℕ → List ℕ → ℕ → Type 0
Moved p t r = get_or t (last_at r) 0 < get_or p (commit_at r) 0

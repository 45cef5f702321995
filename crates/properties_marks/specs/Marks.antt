-- What the marks of ids can show: that property 4 holds of all that a plant has newly committed. Assumes nothing.
use Rattle.std.specs.Prelude.{Bool, true, false, List, ◌≡◌, ℕ, ◌≤◌, ◌<◌, ◌%◌, get_or}
use Rattle.properties_snapshots.specs.Cluster.{Cluster, plant, last}
use Rattle.properties_duplicates.specs.Duplicates.{unseen}

-- no entry that plant r has newly committed has an id that was seen
abbrev pub NoneSeen : Cluster → ℕ → Type 0
NoneSeen c r = (i : ℕ) → last c r ≤ i → i < (plant c r).commit → unseen c r i ≡ true

-- an id's mark stands at the id modulo 256
abbrev pub marks : ℕ
marks = 256

-- the id's mark is set
abbrev pub Marked : List Bool → ℕ → Type 0
Marked m id = get_or m (id % marks) false ≡ true

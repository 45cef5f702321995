-- What the tracker's words are after a pass (RULES, "Properties"): the canonical length, the last commits, appended entries and newly seen
-- ids, and no other word. Assumes nothing.
use Rattle.std.specs.Prelude.{List, ◌∷◌, ℕ, zero, suc, ◌+◌, ◌-◌, length}
use Rattle.properties_snapshots.specs.Below.{numbered, max_below}
use Rattle.properties_snapshots.specs.Cluster.{LogEntry, Cluster, words_of_entries, plant, entry, last}
use Rattle.basis.specs.Basis.{laid}
use Rattle.properties_snapshots.specs.Layout.{length_at, canonical_at, seen_at}
use Rattle.properties_agreement.specs.Agreement.{canonical_entry}

-- the canonical length after a pass, and the entries appended
unfoldable pub length_after : Cluster → ℕ
length_after c = max_below c.size (λ r. (plant c r).commit) (length c.tracker.canonical)

unfoldable pub appended : Cluster → List LogEntry
appended c =
    numbered (length_after c - length c.tracker.canonical) (λ k. canonical_entry c (length c.tracker.canonical + k))

-- a plant's ids newly seen
unfoldable pub new_ids : Cluster → ℕ → List ℕ
new_ids c r = numbered ((plant c r).commit - last c r) (λ k. (entry c r (last c r + k)).id)

-- the words with the newly seen ids of the first k plants: plant r's id for index i at place 128r + i of the last part
unfoldable pub with_ids : Cluster → ℕ → List ℕ → List ℕ
with_ids c zero t = t
with_ids c (suc r) t = laid (with_ids c r t) (seen_at c.size r (last c r)) (new_ids c r)

-- with the appended entries, behind the canonical ones
unfoldable pub with_entries : Cluster → List ℕ → List ℕ
with_entries c t = laid t (canonical_at c.size (length c.tracker.canonical)) (words_of_entries (appended c))

-- with the canonical length and the last commits
unfoldable pub with_commits : Cluster → List ℕ → List ℕ
with_commits c t = laid t length_at (length_after c ∷ numbered c.size (λ r. (plant c r).commit))

-- the words after a pass: these, and no other word
unfoldable pub remembered : Cluster → List ℕ → List ℕ
remembered c t = with_commits c (with_entries c (with_ids c c.size t))

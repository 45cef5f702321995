-- Property 3, committed-prefix-agreement (RULES, "Properties"). What a plant appends is canonical for those after it in the same call.
-- Assumes nothing.
use Rattle.std.specs.Prelude.{Bool, cond, ℕ, zero, suc, ◌-◌, ltb, length, get_or}
use Rattle.properties_snapshots.specs.Cluster.{LogEntry, Cluster, same_entry, no_entry, plant, entry}

-- the first plant, from q on, that has committed index i; after k of them the next one is not asked
unfoldable pub committer_from : Cluster → ℕ → ℕ → ℕ → ℕ
committer_from c i q zero = q
committer_from c i q (suc k) = cond (ltb i (plant c q).commit) q (committer_from c i (suc q) k)

-- the first of all plants that has committed index i, of an index that one of them has: so the last need not be asked
unfoldable pub committer : Cluster → ℕ → ℕ
committer c i = committer_from c i 0 (c.size - 1)

-- the canonical entry at an index that is committed: the one remembered, or else that of the first plant to have committed it, which appends it
unfoldable pub canonical_entry : Cluster → ℕ → LogEntry
canonical_entry c i =
    cond (ltb i (length c.tracker.canonical)) (get_or c.tracker.canonical i no_entry) (entry c (committer c i) i)

-- the entry equals canonical there, or is the one that is appended
unfoldable pub agrees : Cluster → ℕ → ℕ → Bool
agrees c r i = same_entry (canonical_entry c i) (entry c r i)

-- Property 4, no-duplicate-ops (RULES, "Properties"). Assumes nothing.
use Rattle.std.specs.Prelude.{Bool, cond, not, ℕ, ltb, eqb}
use Rattle.properties_snapshots.specs.Below.{all_below}
use Rattle.properties_snapshots.specs.Cluster.{Cluster, entry, last, seen_id}

-- the plant's ids: the tracker's below last commit, the log's from there on
unfoldable pub id_of : Cluster → ℕ → ℕ → ℕ
id_of c r j = cond (ltb j (last c r)) (seen_id c r j) (entry c r j).id

-- the op id differs from the plant's first i ids
unfoldable pub unseen : Cluster → ℕ → ℕ → Bool
unseen c r i = all_below i (λ j. not (eqb (id_of c r j) (entry c r i).id))

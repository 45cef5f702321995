-- What one look at the plants' numbers can show: no commit has moved. It says nothing that the definitions of a tick do not say. Assumes nothing.
use Rattle.std.specs.Prelude.{true, Ok, List, ◌≡◌, ℕ, ◌≤◌, ◌<◌, get_or}
use Rattle.basis.specs.Basis.{plant_count}
use Rattle.properties_snapshots.specs.Cluster.{cluster_in}
use Rattle.properties_snapshots.specs.Fits.{snapshot_fits, tracker_fits}
use Rattle.properties_snapshots.specs.Layout.{log_entries, recovering_at, commit_at, op_at, size_at, length_at, last_at}
use Rattle.properties_judge.specs.Ticks.{tick_judged}

-- plant r's numbers are right, and its commit is its last commit
pub record Still (p t : List ℕ) (r : ℕ) : Type 0 where
  pub flag : get_or p (recovering_at r) 0 ≤ 1
  pub short : get_or p (size_at r) 0 ≤ log_entries
  pub whole : get_or p (op_at r) 0 ≡ get_or p (size_at r) 0
  pub within : get_or p (commit_at r) 0 ≤ get_or p (op_at r) 0
  pub known : get_or t (last_at r) 0 ≤ get_or t length_at 0
  pub unmoved : get_or p (commit_at r) 0 ≡ get_or t (last_at r) 0

-- the words fit, every property passes, and no plant's commit has moved
pub record NothingNew (n : ℕ) (p l t : List ℕ) : Type 0 where
  pub counted : plant_count n ≡ true
  pub snapshot : snapshot_fits n p l ≡ true
  pub tracker : tracker_fits n t ≡ true
  pub passes : tick_judged (cluster_in n p l t) ≡ Ok tt
  pub still : (r : ℕ) → r < n → get_or p (commit_at r) 0 ≡ get_or t (last_at r) 0

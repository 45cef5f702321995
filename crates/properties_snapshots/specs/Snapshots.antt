-- The cluster that the words of a snapshot and of a tracker hold. Assumes nothing.
use Rattle.std.specs.Prelude.{List, ℕ}
use Rattle.properties_snapshots.specs.Cluster.{Cluster, cluster_in}
use Rattle.properties_snapshots.specs.declared.snapshot.Snapshot.{Snapshot}
use Rattle.properties_snapshots.specs.declared.advance.Advance.{Advance}

abbrev pub cluster_of : Snapshot → List ℕ → Cluster
cluster_of s t = cluster_in s.n s.plants.now s.logs.now t

abbrev pub cluster_at : Advance → Cluster
cluster_at a = cluster_of a.snapshot a.tracker.now

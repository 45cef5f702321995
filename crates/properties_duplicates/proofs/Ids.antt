-- The plant's ids in words: below last commit the tracker's, from there on the log's. Assumes nothing.
use borrow.Author.Tests.{lt-ltb, le-ltb}
use native.Mathlib.Omega.{arith}
use mathlib.Core.List.{List}
use mathlib.Core.Path.{◌≡◌, ap}
use Prim.Native.Nat.{ℕ, ◌≤◌, ◌<◌}
use lib.ListN.{get_or}
use Rattle.properties_snapshots.specs.Cluster.{LogEntry, entry, cluster_in}
use Rattle.properties_snapshots.specs.Layout.{id_at, log_entries, commit_at, entry_at, last_at, seen_at}
use Rattle.properties_snapshots.specs.Shape.{Snapshot, Forward}
use Rattle.properties_snapshots.proofs.Held.{entry_held, last_held, seen_held}
use Rattle.properties_duplicates.specs.Duplicates.{id_of}

module _ (n : ℕ) (p l t : List ℕ) (s : Snapshot n p l) (f : Forward n p t) (r i : ℕ) (h : r < n) (k : i < get_or p (commit_at r) 0) where
  pub within : i < log_entries
  within = omega (arith, s.sizes r h, f.within r h)

  pub id_held : (entry (cluster_in n p l t) r i).id ≡ get_or l (id_at (entry_at r i)) 0
  id_held = ap (λ (e : LogEntry). e.id) (entry_held n p l t r h i (omega (arith, f.within r h)))

  pub seen : i < get_or t (last_at r) 0 → get_or t (seen_at n r i) 0 ≡ id_of (cluster_in n p l t) r i
  unfolding id_of
  seen g = rw (last_held n p l t r h, lt-ltb i (get_or t (last_at r) 0) g, seen_held n p l t r h i within)

  pub logged : get_or t (last_at r) 0 ≤ i → get_or l (id_at (entry_at r i)) 0 ≡ id_of (cluster_in n p l t) r i
  unfolding id_of
  logged g = rw (last_held n p l t r h, le-ltb i (get_or t (last_at r) 0) g, id_held)

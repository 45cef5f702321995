-- How the words hold the cluster: each part of the records is the words at its place. Assumes nothing.
use mathlib.Core.List.{List, []}
use mathlib.Core.Path.{◌≡◌, ap, ◌∙◌}
use Prim.Native.Nat.{ℕ, ◌<◌}
use lib.Dec.{eqb}
use lib.ListN.{length, get_or}
use Rattle.properties_snapshots.specs.Below.{numbered}
use Rattle.properties_snapshots.specs.Cluster.{Plant, no_entry, no_plant, plant, entry, last, seen_id, entry_in, plant_in, tracker_in, cluster_in}
use Rattle.properties_snapshots.specs.Layout.{log_entries, recovering_at, commit_at, op_at, size_at, entry_at, length_at, last_at, canonical_at, seen_at}
use Rattle.properties_snapshots.proofs.Below.{length-numbered, get_d_numbered}

module _ (n : ℕ) (p l t : List ℕ) where
  pub canonical_long : length (tracker_in n t).canonical ≡ get_or t length_at 0
  unfolding tracker_in
  canonical_long = length-numbered (get_or t length_at 0) (λ i. entry_in t (canonical_at n i))

  pub canonical_held : (i : ℕ) → i < get_or t length_at 0 → get_or (tracker_in n t).canonical i no_entry ≡ entry_in t (canonical_at n i)
  unfolding tracker_in
  canonical_held i h = get_d_numbered (get_or t length_at 0) (λ i. entry_in t (canonical_at n i)) i no_entry h

  module _ (r : ℕ) (in-range : r < n) where
    plant_held : plant (cluster_in n p l t) r ≡ plant_in p l r
    unfolding plant
    plant_held = get_d_numbered n (plant_in p l) r no_plant in-range

    pub recovering_held : (plant (cluster_in n p l t) r).recovering ≡ eqb (get_or p (recovering_at r) 0) 1
    unfolding plant_in
    recovering_held = ap (λ (x : Plant). x.recovering) plant_held

    pub commit_held : (plant (cluster_in n p l t) r).commit ≡ get_or p (commit_at r) 0
    unfolding plant_in
    commit_held = ap (λ (x : Plant). x.commit) plant_held

    pub op_held : (plant (cluster_in n p l t) r).op ≡ get_or p (op_at r) 0
    unfolding plant_in
    op_held = ap (λ (x : Plant). x.op) plant_held

    pub size_held : length (plant (cluster_in n p l t) r).log ≡ get_or p (size_at r) 0
    unfolding plant_in
    size_held =
        ap (λ (x : Plant). length x.log) plant_held
        ∙ length-numbered (get_or p (size_at r) 0) (λ i. entry_in l (entry_at r i))

    pub entry_held : (i : ℕ) → i < get_or p (size_at r) 0 → entry (cluster_in n p l t) r i ≡ entry_in l (entry_at r i)
    unfolding entry plant_in
    entry_held i h =
        ap (λ (x : Plant). get_or x.log i no_entry) plant_held
        ∙ get_d_numbered (get_or p (size_at r) 0) (λ i. entry_in l (entry_at r i)) i no_entry h

    pub last_held : last (cluster_in n p l t) r ≡ get_or t (last_at r) 0
    unfolding last tracker_in
    last_held = get_d_numbered n (λ r. get_or t (last_at r) 0) r 0 in-range

    pub seen_held : (i : ℕ) → i < log_entries → seen_id (cluster_in n p l t) r i ≡ get_or t (seen_at n r i) 0
    unfolding seen_id tracker_in
    seen_held i h =
        ap (λ (x : List ℕ). get_or x i 0) (get_d_numbered n (λ r. numbered log_entries (λ i. get_or t (seen_at n r i) 0)) r [] in-range)
        ∙ get_d_numbered log_entries (λ i. get_or t (seen_at n r i) 0) i 0 h

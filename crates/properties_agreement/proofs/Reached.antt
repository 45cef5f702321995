-- The first plant that has committed an index: it is one of the plants, and it has committed it if any has. And the canonical entry in words.
-- Assumes nothing.
use borrow.Author.Tests.{lt-ltb, le-ltb}
use native.Mathlib.Omega.{arith}
use native.Mathlib.Decide.{dec_lt}
use mathlib.Core.Bool.{Bool, true, false, cond}
use mathlib.Core.List.{List}
use mathlib.Core.Path.{◌≡◌, sym, ◌∙◌}
use Prim.Native.Nat.{ℕ, zero, suc, ◌+◌, ◌-◌, ◌≤◌, ◌<◌}
use lib.Dec.{ltb}
use lib.ListN.{get_or}
use Rattle.std.proofs.Common.{Option, Some, None}
use Rattle.std.specs.Option.{MatchOption, unwrap_or}
use Rattle.properties_snapshots.specs.Cluster.{Cluster, plant, entry, entry_in, cluster_in}
use Rattle.properties_snapshots.specs.Layout.{commit_at, entry_at, length_at, canonical_at}
use Rattle.properties_snapshots.specs.Shape.{Snapshot, Forward}
use Rattle.properties_snapshots.proofs.Held.{commit_held, entry_held, canonical_long, canonical_held}
use Rattle.properties_agreement.specs.Agreement.{committer_from, committer, canonical_entry}

in_reach : (c : Cluster) (i q k : ℕ) → committer_from c i q k ≤ q + k
unfolding committer_from
in_reach c i q zero = omega arith
in_reach c i q (suc k) = go (ltb i (plant c q).commit) (in_reach c i (suc q) k)
  where
    go : (b : Bool) → committer_from c i (suc q) k ≤ suc q + k → cond b q (committer_from c i (suc q) k) ≤ q + suc k
    go true h = omega arith
    go false h = omega arith

has_it : (c : Cluster) (i q k r : ℕ) → q ≤ r → r ≤ q + k → i < (plant c r).commit → i < (plant c (committer_from c i q k)).commit
unfolding committer_from
has_it c i q zero r l m h = let z : r ≡ q = omega arith in rw z at h
has_it c i q (suc k) r l m h =
    elim (dec_lt i (plant c q).commit) [
      | yes g ↦ rw (lt-ltb i (plant c q).commit g) g
      | no g ↦
          rw (le-ltb i (plant c q).commit (omega arith)) (has_it c i (suc q) k r (later g) (omega arith) h)
    ]
  where
    later : (i < (plant c q).commit → ⊥) → suc q ≤ r
    later g = elim (dec_lt q r) [ yes o ↦ o | no o ↦ let z : r ≡ q = omega arith in absurd (g (rw z at h)) ]

-- the first that has it, or the last of those in a row
pub first_of : (c : Cluster) (i q k j : ℕ) → q ≤ j → j < q + k → i < (plant c j).commit → ((m : ℕ) → q ≤ m → m < j → (plant c m).commit ≤ i)
    → committer_from c i q k ≡ j
unfolding committer_from
first_of c i q zero j l m h b = absurd (omega arith)
first_of c i q (suc k) j l m h b =
    elim (dec_lt q j) [
      | yes g ↦ rw (le-ltb i (plant c q).commit (b q (omega arith) g)) (first_of c i (suc q) k j (omega arith) (omega arith) h (λ u v w. b u (omega arith) w))
      | no g ↦ let z : j ≡ q = omega arith in rw (lt-ltb i (plant c q).commit (rw z at h)) (sym z)
    ]

pub none_of : (c : Cluster) (i q k : ℕ) → ((m : ℕ) → q ≤ m → m < q + k → (plant c m).commit ≤ i) → committer_from c i q k ≡ q + k
unfolding committer_from
none_of c i q zero b = omega arith
none_of c i q (suc k) b =
    let z : suc q + k ≡ q + suc k = omega arith in
    rw (le-ltb i (plant c q).commit (b q (omega arith) (omega arith))) (none_of c i (suc q) k (λ u v w. b u (omega arith) (omega arith)) ∙ z)

-- what a search over the plants, but for the last, has found
pub first_found : (n : ℕ) (p l t : List ℕ) (i : ℕ) (o : Option ℕ)
    → MatchOption o ((k : ℕ) → 0 ≤ k → k < n - 1 → get_or p (commit_at k) 0 ≤ i)
    (λ q. (0 ≤ q) × (q < n - 1) × (i < get_or p (commit_at q) 0) × ((k : ℕ) → 0 ≤ k → k < q → get_or p (commit_at k) 0 ≤ i))
    → unwrap_or o (n - 1) ≡ committer (cluster_in n p l t) i
unfolding committer
first_found n p l t i None h =
    let c = cluster_in n p l t in
    omega (arith, none_of c i 0 (n - 1) (λ m u v. omega (arith, h m u (omega arith), commit_held n p l t m (omega arith))))
first_found n p l t i (Some q) h =
    let c = cluster_in n p l t in
    sym (first_of c i 0 (n - 1) q h.0 (omega (arith, h.1)) (omega (arith, h.2, commit_held n p l t q (omega (arith, h.1))))
    (λ m u v. omega (arith, h.3 m u v, commit_held n p l t m (omega (arith, h.1)))))

pub committer_below : (c : Cluster) (i : ℕ) → 1 ≤ c.size → committer c i < c.size
unfolding committer
committer_below c i h = omega (arith, in_reach c i 0 (c.size - 1))

pub committer_committed : (c : Cluster) (i r : ℕ) → r < c.size → i < (plant c r).commit → i < (plant c (committer c i)).commit
unfolding committer
committer_committed c i r h k = has_it c i 0 (c.size - 1) r (omega arith) (omega arith) k

-- its entry in words, of an index that some plant has committed
module _ (n : ℕ) (p l t : List ℕ) (s : Snapshot n p l) (f : Forward n p t) where
  pub committed_entry : (i r : ℕ) → r < n → i < get_or p (commit_at r) 0
      → entry (cluster_in n p l t) (committer (cluster_in n p l t) i) i ≡ entry_in l (entry_at (committer (cluster_in n p l t) i) i)
  committed_entry i r h k =
      let c = cluster_in n p l t in
      let b = committer_below c i (omega (arith, s.some)) in
      let g : i < (plant c r).commit = omega (arith, commit_held n p l t r h) in
      entry_held n p l t (committer c i) b i
      (omega (arith, committer_committed c i r h g, commit_held n p l t (committer c i) b, f.within (committer c i) b))

  -- the canonical entry in words: the tracker's, or that of the first plant that committed it
  pub canonical_known : (i : ℕ) → i < get_or t length_at 0 → canonical_entry (cluster_in n p l t) i ≡ entry_in t (canonical_at n i)
  unfolding canonical_entry
  canonical_known i g = rw (canonical_long n p l t, lt-ltb i (get_or t length_at 0) g, canonical_held n p l t i g)

  pub canonical_new : (i r : ℕ) → r < n → i < get_or p (commit_at r) 0 → get_or t length_at 0 ≤ i → canonical_entry (cluster_in n p l t) i ≡ entry_in l
      (entry_at (committer (cluster_in n p l t) i) i)
  unfolding canonical_entry
  canonical_new i r h k g = rw (canonical_long n p l t, le-ltb i (get_or t length_at 0) g) (committed_entry i r h k)

  -- a plant's own entry in words, of an index that it has committed
  pub own_entry : (i r : ℕ) → r < n → i < get_or p (commit_at r) 0 → entry (cluster_in n p l t) r i ≡ entry_in l (entry_at r i)
  own_entry i r h k = entry_held n p l t r h i (omega (arith, f.within r h))

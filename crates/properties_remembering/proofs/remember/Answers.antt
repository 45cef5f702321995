-- `properties_remembering::remember` meets its contract: the three parts are written one after the other, from what came. Assumes nothing.
use native.Mathlib.Omega.{arith}
use mathlib.Core.List.{List, ◌∷◌}
use mathlib.Core.Path.{◌≡◌, sym, ap, ◌∙◌}
use Prim.Native.Nat.{ℕ, ◌+◌, ◌-◌, ◌≤◌}
use lib.ListN.{get_or}
use Rattle.properties_snapshots.specs.Below.{numbered, max_below}
use Rattle.properties_snapshots.specs.Cluster.{words_of_entries, plant, entry_in, cluster_in}
use Rattle.basis.specs.Basis.{laid}
use Rattle.properties_snapshots.specs.Layout.{log_entries, commit_at, entry_at, length_at, canonical_at}
use Rattle.properties_snapshots.specs.Shape.{Snapshot, Tracked, Forward}
use Rattle.properties_snapshots.proofs.Below.{numbered_same, max_start, max_bound}
use Rattle.properties_snapshots.proofs.Held.{canonical_long, commit_held}
use Rattle.properties_agreement.specs.Agreement.{committer}
use Rattle.properties_remembering.specs.Remembering.{length_after, with_ids, with_entries, with_commits, remembered}
use Rattle.properties_remembering.proofs.Written.{length_held, appended_held}
use Rattle.properties_remembering.proofs.remember.Goals as goal

module _ (n : ℕ) (p l t : List ℕ) (s : Snapshot n p l) (k : Tracked n t) (f : Forward n p t) (longest : ℕ)
    (m : longest ≡ max_below n (λ r. get_or p (commit_at r) 0) (get_or t length_at 0)) where
  reach : (get_or t length_at 0 ≤ longest) × (longest ≤ log_entries)
  reach = (
    omega (arith, max_start n (λ r. get_or p (commit_at r) 0) (get_or t length_at 0)),
    omega (arith, max_bound n (λ r. get_or p (commit_at r) 0) (get_or t length_at 0) log_entries k.canonical (λ r h. omega (arith, f.within r h, s.sizes r h))),
  )

  all_written : (known : ℕ) (u v w : List ℕ) → known ≡ get_or t length_at 0 → u ≡ with_ids (cluster_in n p l t) n t
      → v ≡ laid u (canonical_at n known) (words_of_entries (numbered (longest - known) (λ j. entry_in l
      (entry_at (committer (cluster_in n p l t) (known + j)) (known + j)))))
      → w ≡ laid v length_at (longest ∷ numbered n (λ r. get_or p (commit_at r) 0))
      → w ≡ remembered (cluster_in n p l t) t
  unfolding remembered with_commits with_entries
  all_written known u v w e a b g =
      let c = cluster_in n p l t in
      let commits : numbered n (λ r. get_or p (commit_at r) 0) ≡ numbered n (λ r. (plant c r).commit) =
      numbered_same n (λ r. get_or p (commit_at r) 0) (λ r. (plant c r).commit) (λ r h. sym (commit_held n p l t r h)) in
      g
      ∙ rw (
        b,
        e,
        a,
        m ∙ sym (length_held n p l t s k f),
        commits,
        canonical_long n p l t,
        appended_held n p l t s k f (length_after c)
            (length_held n p l t s k f),
      )

pub append-requires : goal.append-requires
append-requires c =
    let s = c.args.snapshot.now in
    let known = c.number-known.ensures in
    let longest = c.length_after-longest in
    let r = reach s.n s.plants.now s.logs.now c.args.tracker.now s.fits c.requires.0 c.requires.1 longest.result
    (longest.ensures ∙ ap (max_below s.n (λ r. get_or s.plants.now (commit_at r) 0)) known) in
    (omega (arith, r.0, known), r.1, c.put_ids.auto.tracker ∙ c.requires.0.words)

pub returns : goal.returns
returns c =
    let s = c.args.snapshot.now in
    let t = c.args.tracker.now in
    let known = c.number-known in
    let longest = c.length_after-longest in
    all_written s.n s.plants.now s.logs.now t s.fits c.requires.0 c.requires.1 longest.result
    (longest.ensures ∙ ap (max_below s.n (λ r. get_or s.plants.now (commit_at r) 0)) known.ensures)
    known.result _ _ _ known.ensures c.put_ids.ensures (c.append.ensures t) c.put_commits.ensures

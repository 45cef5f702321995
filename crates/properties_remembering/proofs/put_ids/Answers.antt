-- `properties_remembering::put_ids` meets its contract. The loop's invariant: the ids of the plants passed are laid, which leaves the last commits as they
-- were. Assumes nothing.
use native.Mathlib.Omega.{arith}
use native.Mathlib.Numerals.{add-one}
use mathlib.Core.List.{List}
use mathlib.Core.Path.{◌≡◌, refl, ap, ◌∙◌}
use Prim.Native.Nat.{ℕ, ◌+◌, ◌-◌, ◌<◌}
use lib.ListN.{get_or}
use Rattle.properties_snapshots.specs.Below.{numbered}
use Rattle.properties_snapshots.specs.Cluster.{cluster_in}
use Rattle.basis.specs.Basis.{laid}
use Rattle.properties_snapshots.specs.Layout.{id_at, commit_at, entry_at, last_at, seen_at}
use Rattle.properties_snapshots.specs.Shape.{Snapshot, Tracked, Forward}
use Rattle.properties_snapshots.proofs.Held.{last_held}
use Rattle.properties_remembering.specs.Remembering.{with_ids}
use Rattle.properties_remembering.proofs.Written.{ids_held, ids_kept}
use Rattle.properties_remembering.proofs.put_ids.Goals as goal

module _ (n : ℕ) (p l t : List ℕ) (s : Snapshot n p l) (k : Tracked n t) (f : Forward n p t) (r : ℕ) (h : r < n) where
  -- the last commit that is read is the one that came
  last_kept : (w : List ℕ) → w ≡ with_ids (cluster_in n p l t) r t → get_or w (last_at r) 0 ≡ get_or t (last_at r) 0
  last_kept w e = ap (λ (x : List ℕ). get_or x (last_at r) 0) e ∙ (ids_kept n p l t s k f r (omega arith)).1 (last_at r) (omega arith)

  another : (w u : List ℕ) (from : ℕ) → w ≡ with_ids (cluster_in n p l t) r t → from ≡ get_or t (last_at r) 0
      → u ≡ laid w (seen_at n r from) (numbered (get_or p (commit_at r) 0 - from) (λ j. get_or l (id_at (entry_at r (from + j))) 0))
      → u ≡ with_ids (cluster_in n p l t) (r + 1) t
  unfolding with_ids
  another w u from e a g = g ∙ rw (add-one r, with_ids, last_held n p l t r h, ids_held n p l t s k f r h, e, a)

pub loop-r-init : goal.loop-r-init
unfolding with_ids
loop-r-init c = refl

pub put_plant_ids-requires-clause-commits : goal.put_plant_ids-requires-clause-commits
put_plant_ids-requires-clause-commits c =
    let s = c.args.snapshot.now in
    let r = c.loop-r.r in
    let h : r < s.n = omega arith in
    let e = c.last_of-last.ensures ∙ last_kept s.n s.plants.now s.logs.now c.args.tracker.now s.fits c.requires.0 c.requires.1 r h c.loop-r.tracker c.loop-r.invariant in
    (h, omega (arith, e, c.requires.1.onward r h), omega (arith, c.requires.1.within r h, s.fits.sizes r h))

pub loop-r-preserved : goal.loop-r-preserved
loop-r-preserved c =
    let s = c.args.snapshot.now in
    let r = c.loop-r.r in
    let h : r < s.n = omega arith in
    let e = c.last_of-last.ensures ∙ last_kept s.n s.plants.now s.logs.now c.args.tracker.now s.fits c.requires.0 c.requires.1 r h c.loop-r.tracker c.loop-r.invariant in
    another s.n s.plants.now s.logs.now c.args.tracker.now s.fits c.requires.0 c.requires.1 r h c.loop-r.tracker _ _ c.loop-r.invariant e c.put_plant_ids.ensures

pub returns : goal.returns
returns c =
    let s = c.args.snapshot.now in
    let t = c.args.tracker.now in
    let z : c.loop-r.r ≡ s.n = omega arith in
    c.loop-r.invariant ∙ ap (λ (k : ℕ). with_ids (cluster_in s.n s.plants.now s.logs.now t) k t) z

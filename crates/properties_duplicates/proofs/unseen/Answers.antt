-- `properties_duplicates::unseen` meets its contract: the plant's first i ids are the tracker's below last commit, and then the log's. Assumes nothing.
use native.Mathlib.Omega.{arith}
use mathlib.Core.Bool.{Bool, true, false, not, ◌&&◌}
use mathlib.Core.List.{List}
use mathlib.Core.Path.{◌≡◌, sym, ap, ◌∙◌}
use Prim.Native.Nat.{ℕ, ◌+◌, ◌-◌, ◌<◌, min}
use lib.Dec.{eqb}
use lib.ListN.{length, get_or, take, drop, length-drop}
use lib.Seq.{length-take-le, get_or-take, get_or-drop}
use Rattle.properties_snapshots.specs.Below.{all_below}
use Rattle.properties_snapshots.specs.Cluster.{entry, cluster_in}
use Rattle.properties_snapshots.specs.Layout.{id_at, commit_at, entry_at, last_at, seen_at}
use Rattle.properties_snapshots.specs.Shape.{Snapshot, Tracked, Forward}
use Rattle.properties_snapshots.proofs.Below.{all_same, all_split}
use Rattle.properties_duplicates.specs.Duplicates.{id_of, unseen}
use Rattle.properties_duplicates.proofs.Ids.{within, id_held, seen, logged}
use Rattle.properties_duplicates.proofs.unseen.Goals as goal

module _ (n : ℕ) (p l t : List ℕ) (s : Snapshot n p l) (w : Tracked n t) (f : Forward n p t) (r i : ℕ) (h : r < n) (k : i < get_or p (commit_at r) 0) where
  -- the two stretches
  module _ (known at id : ℕ) (e : known ≡ min i (get_or t (last_at r) 0)) (a : at ≡ seen_at n r 0) (g : id ≡ get_or l (id_at (entry_at r i)) 0) (m : ℕ) (z : m ≡ known) where
    abbrev differs : ℕ → Bool
    differs j = not (eqb (id_of (cluster_in n p l t) r j) (entry (cluster_in n p l t) r i).id)

    abbrev ids : List ℕ
    ids = take m (drop at t)

    abbrev front : Bool
    front = all_below (length ids) (λ j. not (eqb (get_or ids j 0) id))

    abbrev back : Bool
    back = all_below (i - known) (λ j. not (eqb (get_or l (id_at (entry_at r (known + j))) 0) id))

    long : length ids ≡ known
    long = length-take-le m (drop at t) (omega (arith, length-drop at t, w.words, within n p l t s f r i h k)) ∙ z

    front_told : front ≡ all_below known differs
    front_told =
        ap (λ (x : ℕ). all_below x (λ j. not (eqb (get_or ids j 0) id))) long
        ∙ all_same known (λ j. not (eqb (get_or ids j 0) id)) differs (λ j o.
        let y : at + j ≡ seen_at n r j = omega arith in
        rw (id_held n p l t s f r i h k, g, get_or-take m (drop at t) j 0 (omega arith), get_or-drop at t j 0, y, seen n p l t s f r j h (omega arith) (omega arith)))

    back_told : back ≡ all_below (i - known) (λ j. differs (known + j))
    back_told =
        all_same (i - known) (λ j. not (eqb (get_or l (id_at (entry_at r (known + j))) 0) id)) (λ j. differs (known + j)) (λ j o.
        rw (id_held n p l t s f r i h k, g, logged n p l t s f r (known + j) h (omega arith) (omega arith)))

    stretches : front && back ≡ unseen (cluster_in n p l t) r i
    unfolding unseen
    stretches =
        let z : known + (i - known) ≡ i = omega arith in
        rw (front_told, back_told) (sym (all_split known (i - known) differs) ∙ ap (λ (x : ℕ). all_below x differs) z)

    found : front ≡ false → front ≡ unseen (cluster_in n p l t) r i
    found f = f ∙ (ap (λ (x : Bool). x && back) (sym f) ∙ stretches)

    missed : front ≡ true → back ≡ unseen (cluster_in n p l t) r i
    missed f = ap (λ (x : Bool). x && back) (sym f) ∙ stretches

pub returns-then-none_seen : goal.returns-then-none_seen
returns-then-none_seen c =
    let a = c.args.advance.now in
    let s = a.snapshot in
    c.none_logged.ensures
    ∙ missed s.n s.plants.now s.logs.now a.tracker.now s.fits a.tracked a.forward c.args.r c.args.i c.requires.0 c.requires.1 _ _ _
    (c.min-known.ensures ∙ ap (min c.args.i) c.last_of.ensures.last) c.seen_at-at.ensures c.logged_id-id.ensures _ (omega arith)
    (sym c.none_seen.ensures ∙ c.if-none_seen.true)

pub returns-else-none_seen : goal.returns-else-none_seen
returns-else-none_seen c =
    let a = c.args.advance.now in
    let s = a.snapshot in
    c.none_seen.ensures
    ∙ found s.n s.plants.now s.logs.now a.tracker.now s.fits a.tracked a.forward c.args.r c.args.i c.requires.0 c.requires.1 _ _ _
    (c.min-known.ensures ∙ ap (min c.args.i) c.last_of.ensures.last) c.seen_at-at.ensures c.logged_id-id.ensures _ (omega arith)
    (sym c.none_seen.ensures ∙ c.if-none_seen.false)

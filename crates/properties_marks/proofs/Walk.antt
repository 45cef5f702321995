-- The walk over what a plant has newly committed: all ids passed are marked, so that an id which meets no mark is none of them. Assumes nothing.
use borrow.Author.Tests.{eqb-true, eqb-false, ne_eqb}
use native.Mathlib.Omega.{arith}
use mathlib.Core.Bool.{Bool, true, false, not, false≢true}
use mathlib.Core.List.{List}
use mathlib.Core.Path.{◌≡◌, refl, sym, ap, subst, ◌∙◌}
use Prim.Native.Nat.{ℕ, ◌+◌, ◌≤◌, ◌<◌, ◌%◌}
use lib.Dec.{eqb}
use lib.ListN.{length, get_or, set, take, drop, length-set, length-drop}
use lib.Seq.{get_or-set_same, get_or-set_other, length-take-le, get_or-take, get_or-drop}
use Rattle.properties_snapshots.specs.Cluster.{Cluster, last, entry, cluster_in}
use Rattle.properties_snapshots.specs.Layout.{id_at, commit_at, entry_at, last_at, seen_at}
use Rattle.properties_snapshots.specs.Shape.{Snapshot, Forward}
use Rattle.properties_snapshots.proofs.Below.{below_more, all_of}
use Rattle.properties_snapshots.proofs.Held.{commit_held, last_held}
use Rattle.properties_duplicates.specs.Duplicates.{id_of, unseen}
use Rattle.properties_duplicates.proofs.Ids.{id_held, seen, logged}
use Rattle.properties_marks.specs.Marks.{NoneSeen, marks, Marked}

-- a word of those taken
pub taken : (t : List ℕ) (at k m j b : ℕ) → j < k → m ≡ k → at + k ≤ length t → at + j ≡ b
    → (j < length (take m (drop at t))) × (get_or (take m (drop at t)) j 0 ≡ get_or t b 0)
taken t at k m j b g e h z =
    (omega (arith, length-take-le m (drop at t) (omega (arith, length-drop at t))), get_or-take m (drop at t) j 0 (omega arith) ∙ (get_or-drop at t j 0 ∙ ap (λ (x : ℕ). get_or t x 0) z))

-- a mark that is set, and those that were
pub mark_set : (m : List Bool) (id : ℕ) → length m ≡ marks → Marked (set m (id % marks) true) id
mark_set m id h = get_or-set_same m (id % marks) true false (omega (arith, h))

pub mark_kept : (m : List Bool) (id x : ℕ) → length m ≡ marks → Marked m x → Marked (set m (id % marks) true) x
mark_kept m id x h old = go (eqb (x % marks) (id % marks)) refl
  where
    go : (b : Bool) → eqb (x % marks) (id % marks) ≡ b → Marked (set m (id % marks) true) x
    go true q = ap (λ (k : ℕ). get_or (set m (id % marks) true) k false) (eqb-true (x % marks) (id % marks) q) ∙ mark_set m id h
    go false q = get_or-set_other m (id % marks) (x % marks) true false (eqb-false (x % marks) (id % marks) q) ∙ old

-- property 4 holds of what was passed of plant r
abbrev pub Passed : Cluster → ℕ → ℕ → Type 0
Passed c r i = (k : ℕ) → k < i → last c r ≤ k → unseen c r k ≡ true

-- and every id of the plant that was passed is marked
pub record Walked (c : Cluster) (r i : ℕ) (m : List Bool) : Type 0 where
  pub from : last c r ≤ i
  pub size : length m ≡ marks
  pub marked : (j : ℕ) → j < i → Marked m (id_of c r j)
  pub passed : Passed c r i

module _ (n : ℕ) (p l t : List ℕ) (s : Snapshot n p l) (f : Forward n p t) (r : ℕ) (h : r < n) where
  abbrev c : Cluster
  c = cluster_in n p l t

  pub passed_none : (i : ℕ) → i ≡ get_or t (last_at r) 0 → Passed c r i
  passed_none i e k b a = absurd (omega (arith, last_held n p l t r h))

  pub passed_more : (i : ℕ) → Passed c r i → unseen c r i ≡ true → Passed c r (i + 1)
  passed_more i passed e = below_more (λ k. last c r ≤ k → unseen c r k ≡ true) i passed (λ a. e)

  pub passed_all : (i : ℕ) → get_or p (commit_at r) 0 ≤ i → Passed c r i → NoneSeen c r
  passed_all i g passed k a b = passed k (omega (arith, commit_held n p l t r h)) a

  pub start : (i : ℕ) → i ≡ get_or t (last_at r) 0 → (m : List Bool) → length m ≡ marks → ((j : ℕ) → j < i → Marked m (get_or t (seen_at n r j) 0)) → Walked c r i m
  start i e m size marked =
      record {
        from = omega (arith, last_held n p l t r h);
        size = size;
        marked = λ j g. subst (Marked m) (seen n p l t s f r j h (omega (arith, f.onward r h)) (omega arith)) (marked j g);
        passed = passed_none i e;
      }

  module _ (i : ℕ) (m : List Bool) (w : Walked c r i m) (k : i < get_or p (commit_at r) 0) (id : ℕ) (e : id ≡ get_or l (id_at (entry_at r i)) 0) where
    -- an id that meets no mark is none of those before it
    pub unmarked : get_or m (id % marks) false ≡ false → unseen c r i ≡ true
    unfolding unseen
    unmarked z =
        all_of i (λ j. not (eqb (id_of c r j) (entry c r i).id)) (λ j g.
        ap not (ne_eqb (id_of c r j) (entry c r i).id (λ q.
        false≢true (sym z ∙ (ap (λ (x : ℕ). get_or m (x % marks) false) (sym (q ∙ (id_held n p l t s f r i h k ∙ sym e))) ∙ w.marked j g)))))

    pub on : unseen c r i ≡ true → Walked c r (i + 1) (set m (id % marks) true)
    on u =
        record {
          from = omega (arith, w.from);
          size = length-set m (id % marks) true ∙ w.size;
          marked =
              below_more (λ j. Marked (set m (id % marks) true) (id_of c r j)) i (λ j g. mark_kept m id (id_of c r j) w.size (w.marked j g))
              (subst (Marked (set m (id % marks) true)) (e ∙ logged n p l t s f r i h k (omega (arith, w.from, last_held n p l t r h))) (mark_set m id w.size));
          passed = passed_more i w.passed u;
        }

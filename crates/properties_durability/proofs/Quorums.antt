-- Why the needed copies are as many as they are: a quorum of plants not recovering and the plants that hold a copy are together more than the
-- plants not recovering, so they share one. Assumes nothing.
use borrow.Author.Tests.{leb-true}
use native.Mathlib.Omega.{arith}
use mathlib.Core.Bool.{Bool, true, false, cond, not, ◌&&◌, false≢true}
use mathlib.Core.Path.{◌≡◌, refl, sym, ap, ◌∙◌}
use Prim.Native.Nat.{ℕ, zero, suc, ◌+◌, ◌≤◌, ◌<◌}
use lib.Dec.{ltb}
use lib.ListN.{length}
use Rattle.properties_snapshots.specs.Below.{count_below}
use Rattle.properties_snapshots.specs.Cluster.{LogEntry, Cluster, same_entry, plant, entry}
use Rattle.basis.specs.Basis.{quorum}
use Rattle.basis.proofs.Laws.{both}
use Rattle.properties_durability.specs.Durability.{participants, needed_copies, holds_copy, copies_of, durable}

-- two sets within a third that has fewer members than both together share a member
shared : (n : ℕ) (f g whole : ℕ → Bool) → ((q : ℕ) → q < n → f q ≡ true → whole q ≡ true) → ((q : ℕ) → q < n → g q ≡ true → whole q ≡ true)
    → count_below n whole < count_below n f + count_below n g → (q : ℕ) × (q < n) × (f q ≡ true) × (g q ≡ true)
unfolding count_below
shared zero f g whole a b h = absurd (omega arith)
shared (suc n) f g whole a b h =
    go (f n) (g n) (whole n) refl refl refl
    (λ k. let r = shared n f g whole (λ q l. a q (omega arith)) (λ q l. b q (omega arith)) k in (r.0, omega (arith, r.1), r.2, r.3)) h
  where
    go : (x y z : Bool) → f n ≡ x → g n ≡ y → whole n ≡ z
        → (count_below n whole < count_below n f + count_below n g → (q : ℕ) × (q < suc n) × (f q ≡ true) × (g q ≡ true))
        → cond z (suc (count_below n whole)) (count_below n whole)
        < cond x (suc (count_below n f)) (count_below n f) + cond y (suc (count_below n g)) (count_below n g)
        → (q : ℕ) × (q < suc n) × (f q ≡ true) × (g q ≡ true)
    go true true z e d w more k = (n, omega arith, e, d)
    go true false true e d w more k = more (omega arith)
    go true false false e d w more k = absurd (false≢true (sym w ∙ a n (omega arith) e))
    go false true true e d w more k = more (omega arith)
    go false true false e d w more k = absurd (false≢true (sym w ∙ b n (omega arith) d))
    go false false true e d w more k = more (omega arith)
    go false false false e d w more k = more (omega arith)

-- who holds a copy takes part
holder : (c : Cluster) (i : ℕ) (e : LogEntry) (q : ℕ) → holds_copy c i e q ≡ true → not (plant c q).recovering ≡ true
unfolding holds_copy
holder c i e q h =
    (both (not (plant c q).recovering) (ltb i (length (plant c q).log))
    (both (not (plant c q).recovering && ltb i (length (plant c q).log)) (same_entry (entry c q i) e) h).0).0

-- an entry that passes is in every quorum that the plants not recovering could form
pub in_every_quorum : (c : Cluster) (r i : ℕ) → durable c r i ≡ true
    → (chosen : ℕ → Bool) → ((q : ℕ) → q < c.size → chosen q ≡ true → (plant c q).recovering ≡ false) → quorum c.size ≤ count_below c.size chosen
    → (q : ℕ) × (q < c.size) × (chosen q ≡ true) × (holds_copy c i (entry c r i) q ≡ true)
unfolding durable participants copies_of
in_every_quorum c r i h chosen taking enough =
    let needed = leb-true (needed_copies c.size (participants c)) (copies_of c r i) h in
    shared c.size chosen (holds_copy c i (entry c r i)) (λ q. not (plant c q).recovering)
    (λ q l e. ap not (taking q l e)) (λ q l e. holder c i (entry c r i) q e) (omega arith)

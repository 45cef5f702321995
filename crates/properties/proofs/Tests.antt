-- What each test of a tick call asks, as its rule says it. Assumes nothing.
use borrow.Author.Tests.{leb-true, eqb-true, eqb-false, le-leb, eq-eqb, ne_eqb, not-true}
use native.Mathlib.Omega.{arith}
use mathlib.Core.Bool.{Bool, true, not}
use mathlib.Core.Logic.{◌↔◌}
use mathlib.Core.Path.{◌≡◌, refl, ap}
use Prim.Native.Nat.{ℕ, ◌≤◌, ◌<◌}
use lib.Dec.{leb, eqb}
use lib.ListN.{length}
use Rattle.properties_snapshots.specs.Cluster.{Cluster, plant, entry, last}
use Rattle.properties_snapshots.proofs.Below.{all_true, all_of}
use Rattle.properties_snapshots.proofs.Same.{same_entries, entries_same}
use Rattle.properties_agreement.specs.Agreement.{canonical_entry, agrees}
use Rattle.properties_duplicates.specs.Duplicates.{id_of, unseen}
use Rattle.properties_durability.specs.Durability.{participants, needed_copies, copies_of, durable}
use Rattle.properties_judge.specs.Ticks.{EntryProperty, PrefixAgreement, NoDuplicates, Durability, named, asked}
use Rattle.properties.specs.Places.{CommitTest, Holds}

module _ (c : Cluster) (r : ℕ) where
  -- property 1: its three tests
  pub op_exactly : (eqb (plant c r).op (length (plant c r).log) ≡ true) ↔ CommitTest c r 1
  op_exactly = (
    λ e. (λ z. eqb-true _ _ e, λ z. absurd (omega arith), λ z. absurd (omega arith)),
    λ h. eq-eqb _ _ (h.0 refl),
  )

  pub commit_exactly : (leb (plant c r).commit (plant c r).op ≡ true) ↔ CommitTest c r 2
  commit_exactly = (
    λ e. (λ z. absurd (omega arith), λ z. leb-true _ _ e, λ z. absurd (omega arith)),
    λ h. le-leb _ _ (h.1 refl),
  )

  pub last_exactly : (leb (last c r) (plant c r).commit ≡ true) ↔ CommitTest c r 3
  last_exactly = (
    λ e. (λ z. absurd (omega arith), λ z. absurd (omega arith), λ z. leb-true _ _ e),
    λ h. le-leb _ _ (h.2 refl),
  )

  module _ (i : ℕ) where
    agrees_exactly : (agrees c r i ≡ true) ↔ (canonical_entry c i ≡ entry c r i)
    unfolding agrees
    agrees_exactly = (same_entries (canonical_entry c i) (entry c r i), entries_same (canonical_entry c i) (entry c r i))

    unseen_exactly : (unseen c r i ≡ true) ↔ ((j : ℕ) → j < i → id_of c r j ≡ (entry c r i).id → ⊥)
    unfolding unseen
    unseen_exactly = (
      λ e j h. eqb-false (id_of c r j) (entry c r i).id (not-true _ (all_true i differs e j h)),
      λ h. all_of i differs (λ j l. ap not (ne_eqb (id_of c r j) (entry c r i).id (h j l))),
    )
      where
        differs : ℕ → Bool
        differs j = not (eqb (id_of c r j) (entry c r i).id)

    durable_exactly : (durable c r i ≡ true) ↔ (needed_copies c.size (participants c) ≤ copies_of c r i)
    unfolding durable
    durable_exactly =
        let needed = needed_copies c.size (participants c) in
        (leb-true needed (copies_of c r i), le-leb needed (copies_of c r i))

    -- a property of entries
    pub asked_exactly : (p : EntryProperty) → (asked p c r i ≡ true) ↔ Holds c (named p) r i 1
    asked_exactly PrefixAgreement = agrees_exactly
    asked_exactly NoDuplicates = unseen_exactly
    asked_exactly Durability = durable_exactly

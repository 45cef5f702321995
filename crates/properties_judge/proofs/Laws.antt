-- What a property of entries that passes has shown, and what lets it pass. Assumes nothing.
use native.Mathlib.Omega.{arith}
use mathlib.Core.Bool.{true}
use mathlib.Core.Path.{◌≡◌}
use Prim.Native.Nat.{ℕ, ◌-◌, ◌≤◌, ◌<◌}
use Rattle.properties_snapshots.specs.Cluster.{Cluster, plant, last}
use Rattle.properties_verdicts.specs.Verdicts.{at_entry, over_committed}
use Rattle.properties_verdicts.proofs.First.{test_holds, first_pass, all_pass}
use Rattle.properties_judge.specs.Ticks.{EntryProperty, named, asked, over_entries}
use Rattle.std.specs.Prelude.{Ok}

-- it holds of each entry from last commit up
pub entry_passed : (p : EntryProperty) (c : Cluster) → over_entries p c ≡ Ok tt
    → (r i : ℕ) → r < c.size → last c r ≤ i → i < (plant c r).commit → asked p c r i ≡ true
unfolding over_entries
entry_passed p c e r i h l g =
    test_holds (named p) r i 1 (asked p c r i)
    (first_pass (λ i. at_entry (named p) r i 1 (asked p c r i)) (last c r) ((plant c r).commit - last c r)
    (first_pass (λ r. over_committed c r (λ i. at_entry (named p) r i 1 (asked p c r i))) 0 c.size e r (omega arith) (omega arith))
    i l (omega arith))

-- and it passes if it holds of each
pub entries_pass : (p : EntryProperty) (c : Cluster)
    → ((r i : ℕ) → r < c.size → last c r ≤ i → i < (plant c r).commit → asked p c r i ≡ true) → over_entries p c ≡ Ok tt
unfolding over_entries
entries_pass p c h =
    all_pass (λ r. over_committed c r (λ i. at_entry (named p) r i 1 (asked p c r i))) 0 c.size (λ r a b.
    all_pass (λ i. at_entry (named p) r i 1 (asked p c r i)) (last c r) ((plant c r).commit - last c r) (λ i d e.
    rw (h r i (omega arith) d (omega arith))))

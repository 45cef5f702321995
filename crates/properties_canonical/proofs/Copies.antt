-- An entry that agrees with the canonical one has its copies, and so is durable if those are enough. Assumes nothing.
use borrow.Author.Tests.{le-leb}
use mathlib.Core.Bool.{true}
use mathlib.Core.Path.{◌≡◌, sym, ap, ◌∙◌}
use Prim.Native.Nat.{ℕ, ◌≤◌}
use lib.Dec.{leb}
use Rattle.properties_snapshots.specs.Below.{count_below}
use Rattle.properties_snapshots.specs.Cluster.{LogEntry, Cluster, entry}
use Rattle.properties_snapshots.proofs.Same.{same_entries}
use Rattle.properties_agreement.specs.Agreement.{canonical_entry, agrees}
use Rattle.properties_durability.specs.Durability.{participants, needed_copies, holds_copy, copies_of, durable}
use Rattle.properties_canonical.specs.Canonical.{canonical_copies}

copies_same : (c : Cluster) (r i : ℕ) → agrees c r i ≡ true → canonical_copies c i ≡ copies_of c r i
unfolding canonical_copies copies_of agrees
copies_same c r i e = ap (λ (x : LogEntry). count_below c.size (holds_copy c i x)) (same_entries (canonical_entry c i) (entry c r i) e)

pub enough : (c : Cluster) (r i : ℕ) → needed_copies c.size (participants c) ≤ canonical_copies c i → agrees c r i ≡ true → durable c r i ≡ true
unfolding durable
enough c r i h e =
    ap (λ (k : ℕ). leb (needed_copies c.size (participants c)) k) (sym (copies_same c r i e))
    ∙ le-leb (needed_copies c.size (participants c)) (canonical_copies c i) h

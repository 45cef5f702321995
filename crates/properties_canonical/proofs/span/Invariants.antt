use Rattle.std.proofs.Common.{◌≤◌, ◌<◌, ℕ, get_or}
use Rattle.properties_snapshots.specs.Layout.{log_entries, commit_at, last_at}
use Rattle.properties_canonical.specs.Canonical.{Moved}
use Rattle.properties_canonical.proofs.span.Given as goal

abbrev pub invariant-loop-r : goal.invariant-loop-r
invariant-loop-r l = (l.high ≤ log_entries)
    × ((k : ℕ) → k < l.r → Moved l.advance.snapshot.plants.now l.advance.tracker.now k
    → (l.low ≤ get_or l.advance.tracker.now (last_at k) 0) × (get_or l.advance.snapshot.plants.now (commit_at k) 0 ≤ l.high))

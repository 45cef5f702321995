use Rattle.std.proofs.Common.{◌≡◌, get_or}
use Rattle.properties_snapshots.specs.Below.{max_below}
use Rattle.properties_snapshots.specs.Layout.{commit_at}
use Rattle.properties_remembering.proofs.length_after.Given as goal

abbrev pub invariant-loop-r : goal.invariant-loop-r
invariant-loop-r l = l.longest ≡ max_below l.r (λ k. get_or l.snapshot.plants.now (commit_at k) 0) l.known

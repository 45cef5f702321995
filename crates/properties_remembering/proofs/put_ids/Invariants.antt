use Rattle.std.proofs.Common.{◌≡◌}
use Rattle.properties_snapshots.specs.Snapshots.{cluster_of}
use Rattle.properties_remembering.specs.Remembering.{with_ids}
use Rattle.properties_remembering.proofs.put_ids.Given as goal

abbrev pub invariant-loop-r : goal.invariant-loop-r
invariant-loop-r l = l.tracker ≡ with_ids (cluster_of l.snapshot l.initial.tracker) l.r l.initial.tracker

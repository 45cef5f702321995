use Rattle.properties_snapshots.specs.Snapshots.{cluster_at}
use Rattle.properties_marks.proofs.Walk.{Walked}
use Rattle.properties_marks.proofs.by_marks.Given as goal

abbrev pub invariant-loop-i : goal.invariant-loop-i
invariant-loop-i l = Walked (cluster_at l.advance) l.r l.i l.seen

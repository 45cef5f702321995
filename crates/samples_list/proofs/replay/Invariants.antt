use Rattle.std.proofs.Common.{◌≤◌, length}
use Rattle.samples_list.proofs.replay.Given as goal

abbrev pub decreases-loop-reached : goal.decreases-loop-reached
decreases-loop-reached g l = length l.ahead.rest.now

abbrev pub invariant-loop-reached : goal.invariant-loop-reached
invariant-loop-reached g l = (length l.reached.rest.now ≤ length l.initial.list.rest.now)
    × (length l.ahead.rest.now ≤ length l.initial.list.rest.now)

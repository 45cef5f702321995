use Rattle.std.proofs.Common.{◌≤◌, length}
use Rattle.samples_list.proofs.List.number.Given as goal

abbrev pub invariant-loop-place : goal.invariant-loop-place
invariant-loop-place l = length l.self.rest.now ≤ length l.initial.self.rest.now

use Rattle.std.proofs.Common.{◌≤◌, length}
use Rattle.samples_list.proofs.List.put.Given as goal

abbrev pub invariant-loop-word : goal.invariant-loop-word
invariant-loop-word l = length l.self.rest.now ≤ length l.initial.self.rest.now

use Rattle.std.proofs.Common.{ℕ, Bool}
use Rattle.script_words.specs.Words.{Stops}
use Rattle.script_words.proofs.Walk.{Walked}
use Rattle.script_words.proofs.first_from.Given as goal

abbrev pub invariant-loop-i : goal.invariant-loop-i
invariant-loop-i g l = (stop : ℕ → Bool) → Stops (goal.F-post g l.stops) stop → Walked stop l.text l.from l.i

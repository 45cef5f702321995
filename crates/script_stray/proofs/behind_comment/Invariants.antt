use Rattle.std.proofs.Common.{◌≡◌, length, drop, eqb}
use Rattle.script_words.specs.Words.{until}
use Rattle.script_stray.proofs.behind_comment.Given as goal

-- No line feed stands before what is left.
abbrev pub invariant-loop-block : goal.invariant-loop-block
invariant-loop-block l = drop (until (eqb 10) l.text) l.text ≡ drop (until (eqb 10) l.rest) l.rest

abbrev pub decreases-loop-block : goal.decreases-loop-block
decreases-loop-block l = length l.rest

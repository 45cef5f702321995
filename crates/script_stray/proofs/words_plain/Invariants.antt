use Rattle.std.proofs.Common.{◌≡◌, false, length}
use Rattle.script_stray.specs.Walk.{words_plain}
use Rattle.script_stray.proofs.words_plain.Given as goal

-- The text's words are plain exactly if those of what is left are.
abbrev pub invariant-loop-byte : goal.invariant-loop-byte
invariant-loop-byte l = words_plain false l.text ≡ words_plain false l.rest

abbrev pub decreases-loop-byte : goal.decreases-loop-byte
decreases-loop-byte l = length l.rest

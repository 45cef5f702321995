use Rattle.numeral.proofs.Stopping.{Reading}
use Rattle.numeral.proofs.read.Given as goal

abbrev pub invariant-loop-byte : goal.invariant-loop-byte
invariant-loop-byte l = Reading l.word l.value l.byte-counter

use Rattle.network_drop.proofs.Keeping.{Moved}
use Rattle.network_drop.proofs.keep_front.Given as goal

abbrev pub invariant-loop-i : goal.invariant-loop-i
invariant-loop-i l = Moved l.initial.w l.w l.last l.m l.i

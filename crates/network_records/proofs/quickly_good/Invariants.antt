use Rattle.network_records.proofs.Gathering.{Gathered}
use Rattle.network_records.proofs.quickly_good.Given as goal

abbrev pub invariant-loop-i : goal.invariant-loop-i
invariant-loop-i l = Gathered l.w l.n l.last l.seen l.met l.sorts l.kinds l.d l.q l.i

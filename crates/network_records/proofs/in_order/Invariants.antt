use Rattle.network_records.proofs.Walking.{Walked}
use Rattle.network_records.proofs.in_order.Given as goal

abbrev pub invariant-loop-i : goal.invariant-loop-i
invariant-loop-i l = Walked l.w l.n l.last l.d l.q l.i

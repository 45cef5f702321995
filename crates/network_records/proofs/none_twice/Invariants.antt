use Rattle.network_records.proofs.Numbers.{Apart}
use Rattle.network_records.proofs.none_twice.Given as goal

abbrev pub invariant-loop-i : goal.invariant-loop-i
invariant-loop-i l = Apart l.w l.n l.marks l.i

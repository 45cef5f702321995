use Rattle.network_records.proofs.Numbers.{Sought}
use Rattle.network_records.proofs.seq_among.Given as goal

abbrev pub invariant-loop-i : goal.invariant-loop-i
invariant-loop-i l = Sought l.w l.from l.n l.seq l.i

use Rattle.journal_undo_take.proofs.PuttingBack.{Putting}
use Rattle.journal_undo_take.proofs.put_back.Given as goal

abbrev pub invariant-loop-i : goal.invariant-loop-i
invariant-loop-i l = Putting l.initial.w l.n l.journal l.b l.t l.w l.i

use Prim.Native.Nat.{◌-◌}
use Rattle.journal_undo.proofs.Undoing.{Undoing}
use Rattle.journal_undo.proofs.undo_all.Given as goal

abbrev pub invariant-loop : goal.invariant-loop
invariant-loop l = Undoing l.k l.journal l.end l.initial.undone l.initial.w l.undone l.w (l.k - l.counter)

use mathlib.Core.List.{[], ◌∷◌}
use Rattle.network_records.proofs.Zeros.{Gathered}
use Rattle.network_records.proofs.zero_from.Given as goal

abbrev pub invariant-loop-i : goal.invariant-loop-i
invariant-loop-i l = Gathered l.w l.n (l.a ∷ l.b ∷ l.c ∷ l.d ∷ []) l.i

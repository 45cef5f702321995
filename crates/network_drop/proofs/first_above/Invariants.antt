use mathlib.Core.Path.{◌≡◌}
use Rattle.nights.specs.Record.{recs}
use Rattle.network_drop.proofs.Keeping.{kept}
use Rattle.network_drop.proofs.first_above.Given as goal

abbrev pub invariant-loop-i : goal.invariant-loop-i
invariant-loop-i l = kept l.w l.last l.i ≡ recs l.w 0 l.i

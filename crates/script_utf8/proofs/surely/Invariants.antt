use mathlib.Core.Bool.{false}
use mathlib.Core.Path.{◌≡◌}
use Rattle.script_utf8.proofs.Sure.{Read}
use Rattle.script_utf8.proofs.surely.Given as goal

abbrev pub invariant-loop-i : goal.invariant-loop-i
invariant-loop-i l = l.bad ≡ false → Read l.text l.i

use Prim.Native.Nat.{◌+◌, ◌≤◌}
use mathlib.Core.Path.{◌≡◌}
use lib.ListN.{drop}
use Rattle.plants_liveness.specs.Choice.{newly_set}
use Rattle.plants_liveness.proofs.risen.Given as goal

abbrev pub invariant-loop-i : goal.invariant-loop-i
invariant-loop-i l = (l.count ≤ l.i) × (newly_set l.before l.after ≡ l.count + newly_set (drop l.i l.before) (drop l.i l.after))

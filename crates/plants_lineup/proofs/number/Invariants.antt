use Rattle.std.proofs.Common.{◌≡◌, ◌++◌, drop}
use Rattle.plants_lineup.specs.Core.{ids_from}
use Rattle.plants_lineup.proofs.number.Given as goal

-- The first i plants stand at the front.
abbrev pub invariant-loop-i : goal.invariant-loop-i
invariant-loop-i l = l.ids ≡ ids_from 0 l.i ++ drop l.i l.initial.ids

use Rattle.plants_lineup.specs.Core.{ids_from, those}
use Rattle.plants_liveness.specs.Choice.{is_set}
use Rattle.plants_lineup.proofs.Walks.{Written}
use Rattle.plants_liveness.proofs.rising.Given as goal

-- Those of the first plants that are set stand at the front.
abbrev pub invariant-loop-id : goal.invariant-loop-id
invariant-loop-id l = Written (those (is_set l.flags) (ids_from 0 l.id)) l.initial.ids l.count l.ids

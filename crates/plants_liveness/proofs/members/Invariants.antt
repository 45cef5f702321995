use Rattle.std.proofs.Common.{◌≡◌, take}
use Rattle.plants_liveness.specs.Choice.{in_core}
use Rattle.plants_liveness.proofs.members.Given as goal

-- The flags are those of the plants passed.
abbrev pub invariant-loop-id : goal.invariant-loop-id
invariant-loop-id l = l.flags ≡ in_core (take l.id-index l.ids) 0 15

-- `plants_liveness::members` meets its contract: each id has its flag, and sets it. Assumes nothing.
use Rattle.std.proofs.Common.{ap, ◌∙◌, true, get_or}
use Rattle.std.proofs.Math.ListN.{set}
use Rattle.plants_lineup.proofs.Tallies.{all_below}
use Rattle.plants_liveness.proofs.Marking.{no_flags, mark_next}
use Rattle.plants_liveness.proofs.members.Goals as goal

pub loop-id-init : goal.loop-id-init
loop-id-init c = no_flags 0 15

pub bounds-flags-id : goal.bounds-flags-id
bounds-flags-id c = all_below 15 c.args.ids.now c.requires c.loop-id.id-index c.loop-id-test.true

pub loop-id-preserved : goal.loop-id-preserved
loop-id-preserved c =
    let ids = c.args.ids.now in
    let i = c.loop-id.id-index in
    ap (λ x. set x (get_or ids i 0) true) c.loop-id.invariant
    ∙ mark_next ids i 15 c.loop-id-test.true (all_below 15 ids c.requires i c.loop-id-test.true)

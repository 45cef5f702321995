-- `plants_liveness::rising` meets its contract. Assumes nothing.
use Rattle.std.proofs.Common.{◌≡◌, refl, sym, ap, ◌∙◌, true, false, ◌++◌, ◌+◌, ◌-◌, arith}
use Rattle.std.proofs.Math.ListN.{replicate}
use Rattle.plants_lineup.specs.Core.{ids_from, those}
use Rattle.plants_liveness.specs.Choice.{is_set}
use Rattle.plants_lineup.proofs.Ids.{length_ids, those_next}
use Rattle.plants_lineup.proofs.Walks.{Written, written_more, written_same, drop_zeros}
use Rattle.plants_lineup.proofs.Tallies.{tally_le}
use Rattle.plants_liveness.proofs.rising.Goals as goal
use Rattle.plants_liveness.proofs.rising.Goals.{then-flag, else-flag}

pub loop-id-init : goal.loop-id-init
unfolding ids_from those
loop-id-init c = (refl, refl)

-- no more are found than were passed
pub offset_bounds-ids-count : goal.offset_bounds-ids-count
offset_bounds-ids-count c = let l = c.loop-id in
    omega (arith, l.invariant.0, tally_le (is_set c.args.flags.now) (ids_from 0 l.id), length_ids 0 l.id)

pub bounds-ids-count : goal.bounds-ids-count
bounds-ids-count c = let l = c.loop-id in
    omega (arith, l.invariant.0, tally_le (is_set c.args.flags.now) (ids_from 0 l.id), length_ids 0 l.id)

pub overflow_add-count : goal.overflow_add-count
overflow_add-count c = let l = c.loop-id in
    omega (arith, l.invariant.0, tally_le (is_set c.args.flags.now) (ids_from 0 l.id), length_ids 0 l.id)

pub loop-id-preserved : goal.loop-id-preserved
loop-id-preserved c =
    let l = c.loop-id in
    let test = is_set c.args.flags.now in
    let i = l.id in
    let front = those test (ids_from 0 i) in
    let next = those test (ids_from 0 (i + 1)) in
    elim c.if-flag.branch [
      | then-flag w ↦ rw (w.ids-is, w.count-is)
          (written_more front next (replicate 15 0) l.ids l.count i (omega (arith, l.invariant.0, tally_le test (ids_from 0 i), length_ids 0 i))
          (those_next test i true w.if-flag.true) l.invariant)
      | else-flag w ↦ rw (w.ids-is, w.count-is)
          (written_same front next (replicate 15 0) l.ids l.count (those_next test i false w.if-flag.false) l.invariant)
    ]

pub returns : goal.returns
returns c =
    let l = c.loop-id in
    let test = is_set c.args.flags.now in
    let z : l.id ≡ 15 = omega arith in
    let w : Written (those test (ids_from 0 15)) (replicate 15 0) l.count l.ids = rw z at l.invariant in
    w.1 ∙ ap (λ x. those test (ids_from 0 15) ++ x) (drop_zeros l.count 15 ∙ ap (λ k. replicate (15 - k) 0) (sym w.0))

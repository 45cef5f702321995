-- `plants_lineup::append` meets its contract: those found so far stand behind the front, and what was there behind them. Assumes nothing.
use Rattle.std.proofs.Common.{refl, sym, ap, ◌∙◌, true, false, ◌++◌, ◌+◌, length, take, drop, get_or, arith}
use mathlib.Core.List.{append-nil}
use Rattle.std.proofs.Math.ListN.{length-set, take-append-drop}
use Rattle.std.proofs.Math.Seq.{length-take-le}
use borrow.Author.Tests.{eq-eqb, ne_eqb}
use Rattle.plants_lineup.specs.Core.{those, has_flag}
use Rattle.plants_lineup.proofs.Tallies.{all_below}
use Rattle.plants_lineup.proofs.Walks.{written_more, written_same, has_room, one_found, all_found}
use Rattle.plants_lineup.proofs.append.Goals as goal
use Rattle.plants_lineup.proofs.append.Goals.{then-flags-id, else-flags-id}

pub loop-id-init : goal.loop-id-init
unfolding those
loop-id-init c =
    let a = c.args in
    let n = append-nil (take a.at a.line.now) in (
      refl,
      (
        ap length n ∙ length-take-le a.at a.line.now (omega arith),
        sym (ap (λ x. x ++ drop a.at a.line.now) n ∙ take-append-drop a.at a.line.now),
      ),
    )

-- each id has its flag
pub offset_bounds-flags-id : goal.offset_bounds-flags-id
offset_bounds-flags-id c = omega (arith, all_below (length c.args.flags.now) c.args.ids.now c.requires.ids_value c.loop-id.id-index c.loop-id-test.true)

pub bounds-flags-id : goal.bounds-flags-id
bounds-flags-id c = all_below (length c.args.flags.now) c.args.ids.now c.requires.ids_value c.loop-id.id-index c.loop-id-test.true

-- there is room for one that is found
pub bounds-line-count : goal.bounds-line-count
bounds-line-count c =
    let a = c.args in
    let l = c.loop-id in
    omega (
      arith,
      has_room (has_flag a.flags.now a.flag) a.ids.now a.line.now a.at c.requires.ids_in_bounds l.id-index l.count c.loop-id-test.true
          (eq-eqb _ _ c.if-flags-id.true) l.invariant.1.0,
    )

pub loop-id-preserved : goal.loop-id-preserved
loop-id-preserved c =
    let a = c.args in
    let l = c.loop-id in
    let line = a.line.now in
    let ids = a.ids.now in
    let test = has_flag a.flags.now a.flag in
    let i = l.id-index in
    let front = take a.at line ++ those test (take i ids) in
    let next = take a.at line ++ those test (take (i + 1) ids) in
    let found = one_found test ids line a.at c.requires.ids_in_bounds i in
    elim c.if-flags-id.branch [
      | then-flags-id w ↦
          let room = has_room test ids line a.at c.requires.ids_in_bounds i l.count c.loop-id-test.true (eq-eqb _ _ w.if-flags-id.true) l.invariant.1.0 in
          rw (w.line-is, w.count-is) (
            simp length-set (omega arith),
            written_more front next line l.line l.count (get_or ids i 0) (omega (arith, room))
                (found true (omega arith) (eq-eqb _ _ w.if-flags-id.true)) l.invariant.1,
          )
      | else-flags-id w ↦
          rw (w.line-is, w.count-is) (
            omega arith,
            written_same front next line l.line l.count (found false (omega arith) (ne_eqb _ _ w.if-flags-id.false)) l.invariant.1,
          )
    ]

pub returns : goal.returns
returns c =
    let a = c.args in
    let l = c.loop-id in
    let all = all_found (has_flag a.flags.now a.flag) a.ids.now a.line.now a.at c.requires.ids_in_bounds l.line l.id-index l.count (omega arith) l.invariant.1 in
    record { count = all.0; line = all.1 }

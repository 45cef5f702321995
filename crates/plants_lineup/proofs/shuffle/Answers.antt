-- `plants_lineup::shuffle` meets its contract: a pick names a place of the list, and one swap is one step of the shuffle. Assumes nothing.
use Rattle.std.proofs.Common.{◌≡◌, ◌-◌, ◌∙◌, sym, length, arith}
use lib.ListN.{length-set}
use Rattle.plants_lineup.specs.Shuffle.{shuffled_from}
use Rattle.plants_lineup.proofs.Walks.{shuffle_step}
use Rattle.plants_lineup.proofs.shuffle.Goals as goal

-- a pick names a place of the list
pub offset_bounds-list-j : goal.offset_bounds-list-j
offset_bounds-list-j c =
    let l = c.loop-at in
    omega (arith, (shuffle_step c.args.picks.now l.list (length c.args.list.now - 1) l.at (omega arith) (omega arith) l.invariant.0).0)

pub bounds-list-j : goal.bounds-list-j
bounds-list-j c =
    let l = c.loop-at in
    omega (arith, (shuffle_step c.args.picks.now l.list (length c.args.list.now - 1) l.at (omega arith) (omega arith) l.invariant.0).0)

pub offset_bounds-list-j-in-loop-at : goal.offset_bounds-list-j-in-loop-at
offset_bounds-list-j-in-loop-at c =
    let l = c.loop-at in
    omega (arith, (shuffle_step c.args.picks.now l.list (length c.args.list.now - 1) l.at (omega arith) (omega arith) l.invariant.0).0)

pub bounds-list-j-in-loop-at : goal.bounds-list-j-in-loop-at
bounds-list-j-in-loop-at c =
    let l = c.loop-at in
    simp length-set (omega (arith, (shuffle_step c.args.picks.now l.list (length c.args.list.now - 1) l.at (omega arith) (omega arith) l.invariant.0).0))

pub loop-at-preserved : goal.loop-at-preserved
loop-at-preserved c =
    let l = c.loop-at in
    let s = shuffle_step c.args.picks.now l.list (length c.args.list.now - 1) l.at (omega arith) (omega arith) l.invariant.0 in
    (s.1.0, sym s.1.1 ∙ l.invariant.1)

pub returns : goal.returns
unfolding shuffled_from
returns c =
    let l = c.loop-at in
    let z : length c.args.list.now - 1 - l.at ≡ 0 = omega arith in
    rw z at l.invariant.1

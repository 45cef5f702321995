-- `journal_undo_send::undo` meets its contract. Assumes nothing.
use Prim.Native.Nat.{◌-◌, ◌≤◌}
use mathlib.Core.Path.{◌≡◌, ◌∙◌}
use native.Mathlib.Omega.{arith}
use lib.ListN.{length}
use Rattle.network_queue.specs.Packed.{array_size}
use Rattle.journal_tests.proofs.Rows.{row_length, row_at, row_first}
use Rattle.journal_undo_send.proofs.Sends.{send_fits, send_leaves}
use Rattle.journal_undo_send.proofs.undo.Goals as goal

pub returns : goal.returns
returns c =
    let a = c.args in
    let p = c.requires in
    let words = row_length a.journal.now a.start a.end p.2 p.3 in
    let size : a.end - a.start ≡ 6 = omega arith in
    let low : 8 ≤ a.end = omega arith in
    let d = c.drop_above.ensures in
    let long : length a.w.now ≡ array_size = omega arith in
    let left = send_leaves a.head a.w.now p.0 long _ _ _ _ _ _ d.count d.words a.start _ c.counts_good-fits.ensures in
    let at = row_at a.journal.now a.start a.end p.2 p.3 in
    record {
      undone =
          rw c.then_some.ensures
          (left.0
          ∙ send_fits _ _ _ _ _ size low c.if-head-eq0.false _ _ _ _ (row_first a.journal.now a.start a.end p.2 p.3 (omega arith))
          (at 1 (omega arith))
          (at 2 (omega arith))
          (at 3 (omega arith)));
      formed = rw c.then_some.ensures left.1;
    }

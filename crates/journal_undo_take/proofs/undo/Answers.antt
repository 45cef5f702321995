-- `journal_undo_take::undo` meets its contract. Assumes nothing.
use Prim.Native.Nat.{ℕ, ◌+◌, ◌-◌, ◌/◌, ◌≤◌}
use mathlib.Core.Path.{◌≡◌, refl, ◌∙◌}
use native.Mathlib.Omega.{arith}
use lib.ListN.{length}
use Rattle.nights.specs.Net.{capacity}
use Rattle.network_queue.specs.Packed.{array_size}
use Rattle.network_queue.proofs.Inserting.{length-recs}
use Rattle.journal_undo_take.proofs.Takes.{take_fits, take_leaves}
use Rattle.journal_undo_take.proofs.undo.Goals as goal

pub returns : goal.returns
returns c =
    let a = c.args in
    let h = a.head in
    let v = a.w.now in
    let p = c.requires in
    let t : ℕ = (a.end - a.start - 2) / 8 in
    let room : h.pending + t ≤ capacity = omega arith in
    let few : t ≤ h.delivered = omega arith in
    let long : length v ≡ array_size = omega arith in
    let left =
    take_leaves h v p.0 long _ _ _ (length-recs a.journal.now a.start t) few room c.put_back.ensures a.start _
    c.records_rise-fits.ensures in
    record {
      undone =
          rw c.then_some.ensures
          (left.0
          ∙ take_fits _ _ _ _ _ t refl (omega arith) (omega arith) few (omega (arith, room, length-recs v 0 h.pending)));
      formed = rw c.then_some.ensures left.1;
    }

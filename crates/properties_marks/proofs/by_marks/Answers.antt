-- `properties_marks::by_marks` meets its contract. The loop's invariant: property 4 holds of what was passed, and its ids are marked. Assumes nothing.
use native.Mathlib.Omega.{arith}
use mathlib.Core.Bool.{true, false}
use mathlib.Core.Path.{◌≡◌, sym, subst, ◌∙◌}
use Prim.Native.Nat.{ℕ, ◌+◌, ◌<◌}
use lib.ListN.{get_or, set}
use Rattle.properties_snapshots.specs.Layout.{commit_at, seen_at}
use Rattle.properties_snapshots.specs.Snapshots.{cluster_at}
use Rattle.properties_marks.specs.Marks.{Marked}
use Rattle.properties_marks.proofs.Walk.{Walked, taken, passed_all, start, unmarked, on}
use Rattle.properties_marks.proofs.by_marks.Goals.{else-seen-mark-via-then-seen-mark+else-not-unseen, else-seen-mark-via-else-seen-mark}
use Rattle.properties_marks.proofs.by_marks.Goals as goal

pub loop-i-init : goal.loop-i-init
loop-i-init c =
    let a = c.args.advance.now in
    let s = a.snapshot in
    let m = c.marks_of-seen.ensures in
    let last = c.last_of-last.ensures.last in
    start s.n s.plants.now s.logs.now a.tracker.now s.fits a.forward c.args.r c.requires _ last _ m.whole (λ j g.
    let z = taken a.tracker.now c.seen_at-at.result c.last_of-last.result _ j (seen_at s.n c.args.r j) g (omega arith)
    (omega (arith, a.tracked.words, a.tracked.lasts c.args.r c.requires, a.tracked.canonical)) (omega arith) in
    subst (Marked c.marks_of-seen.result) z.1 (m.marked j z.0))

pub loop-i-preserved : goal.loop-i-preserved
loop-i-preserved c =
    let a = c.args.advance.now in
    let s = a.snapshot in
    let loop = c.loop-i in
    let id = c.logged_id in
    let h : loop.i < get_or s.plants.now (commit_at c.args.r) 0 = omega (arith, c.commit_of-i-end.ensures.commit) in
    subst (λ (k : ℕ). Walked (cluster_at a) c.args.r (loop.i + 1) (set loop.seen k true)) (sym c.mark_of-mark.ensures)
    (on s.n s.plants.now s.logs.now a.tracker.now s.fits a.forward c.args.r c.requires loop.i loop.seen loop.invariant h id.result id.ensures
    (elim c.else-seen-mark.branch [
      | else-seen-mark-via-then-seen-mark+else-not-unseen w ↦ sym w.unseen.ensures ∙ w.if-not-unseen.false
      | else-seen-mark-via-else-seen-mark w ↦
          unmarked s.n s.plants.now s.logs.now a.tracker.now s.fits a.forward c.args.r c.requires loop.i loop.seen loop.invariant h id.result id.ensures
          (subst (λ (k : ℕ). get_or loop.seen k false ≡ false) c.mark_of-mark.ensures w.if-seen-mark.false)
    ]))

pub returns : goal.returns
returns c = λ e.
    let a = c.args.advance.now in
    let s = a.snapshot in
    passed_all s.n s.plants.now s.logs.now a.tracker.now s.fits a.forward c.args.r c.requires c.loop-i.i (omega (arith, c.commit_of-i-end.ensures.commit)) c.loop-i.invariant.passed

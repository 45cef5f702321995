-- `journal_undo::undo_all` meets its contract: the walk of `Undoing`. Assumes nothing.
use Prim.Native.Nat.{ℕ, ◌+◌, ◌-◌}
use mathlib.Core.Path.{◌≡◌}
use native.Mathlib.Omega.{arith}
use Rattle.std.specs.Prelude.{None}
use Rattle.std.proofs.lemmas.Grind.{common_steps}
use Rattle.journal_undo.proofs.Undoing.{stops, goes_on_with}
use Rattle.journal_undo.proofs.undo_all.Goals as goal

pub returns-in_err-undone-clause-undone : goal.returns-in_err-undone-clause-undone
returns-in_err-undone-clause-undone c =
    let u = c.undo_one in
    let more : ℕ = c.args.k - (c.loop.counter + 1) in
    let none : u.result ≡ None = grind (arith, common_steps) in
    let s = stops _ _ _ _ _ _ _ _ c.loop.invariant more (omega arith) u.result u.new.w u.ensures.undone none in
    rw c.from_residual.ensures (rw none at s)

pub loop-preserved : goal.loop-preserved
loop-preserved c =
    let u = c.undo_one in
    goes_on_with _ _ _ _ _ _ _ _ c.loop.invariant (c.args.k - (c.loop.counter + 1)) (omega arith) u.result u.new.w u.ensures.undone c.in_ok-undone.undone
    (grind (arith, common_steps)) u.ensures.formed

-- `properties_remembering::put_plant_ids` meets its contract. The loop's invariant: the ids of the entries passed are laid. Assumes nothing.
use native.Mathlib.Omega.{arith}
use mathlib.Core.List.{List}
use mathlib.Core.Path.{◌≡◌, ap, ◌∙◌}
use Prim.Native.Nat.{ℕ, ◌+◌, ◌-◌, ◌≤◌}
use lib.ListN.{get_or, set}
use Rattle.properties_snapshots.specs.Below.{numbered}
use Rattle.basis.specs.Basis.{laid}
use Rattle.properties_snapshots.specs.Layout.{id_at, entry_at, seen_at}
use Rattle.properties_snapshots.proofs.Laid.{laid-numbered, laid_start}
use Rattle.properties_remembering.proofs.put_plant_ids.Invariants.{ids}
use Rattle.properties_remembering.proofs.put_plant_ids.Goals as goal

-- the id of the entry at i is the one of its place behind the first
same : (l : List ℕ) (r from i : ℕ) → from ≤ i → get_or l (id_at (entry_at r i)) 0 ≡ ids l r from (i - from)
same l r from i h = let z : i ≡ from + (i - from) = omega arith in ap (λ (j : ℕ). get_or l (id_at (entry_at r j)) 0) z

pub loop-i-init : goal.loop-i-init
loop-i-init c =
    let a = c.args in
    let s = a.snapshot.now in
    laid_start a.tracker.now (seen_at s.n a.r a.last) (ids s.logs.now a.r a.last) (a.last - a.last) (omega arith)

pub loop-i-preserved : goal.loop-i-preserved
loop-i-preserved c =
    let a = c.args in
    let s = a.snapshot.now in
    let loop = c.loop-i in
    let place = c.seen_at in
    let id = c.logged_id in
    let f = ids s.logs.now a.r a.last in
    let z : loop.i - a.last + 1 ≡ loop.i + 1 - a.last = omega arith in
    ap (λ (x : List ℕ). set x place.result id.result) loop.invariant
    ∙ (laid-numbered a.tracker.now (seen_at s.n a.r a.last) f (loop.i - a.last) place.result id.result
    (omega (arith, place.ensures)) (omega (arith, place.ensures, s.fits.few)) (id.ensures ∙ same s.logs.now a.r a.last loop.i (omega arith))
    ∙ ap (λ (k : ℕ). laid a.tracker.now (seen_at s.n a.r a.last) (numbered k f)) z)

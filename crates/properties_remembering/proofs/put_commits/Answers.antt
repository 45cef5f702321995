-- `properties_remembering::put_commits` meets its contract. The loop's invariant: behind the length, the commits of the plants passed are laid. Assumes
-- nothing.
use native.Mathlib.Omega.{arith}
use mathlib.Core.List.{List}
use mathlib.Core.Path.{◌≡◌, refl, ap, ◌∙◌}
use Prim.Native.Nat.{ℕ}
use lib.ListN.{set, length-set}
use Rattle.properties_snapshots.specs.Below.{numbered}
use Rattle.basis.specs.Basis.{laid}
use Rattle.properties_snapshots.specs.Layout.{length_at, lasts_at}
use Rattle.properties_snapshots.proofs.Laid.{laid-numbered, laid_start, laid_first}
use Rattle.properties_remembering.proofs.put_commits.Invariants.{commits}
use Rattle.properties_remembering.proofs.put_commits.Goals as goal

pub loop-r-init : goal.loop-r-init
loop-r-init c = laid_start _ lasts_at (commits c.args.snapshot.now.plants.now) 0 refl

pub loop-r-preserved : goal.loop-r-preserved
loop-r-preserved c =
    let a = c.args in
    let loop = c.loop-r in
    let at = c.last_at in
    let commit = c.commit_of in
    ap (λ (x : List ℕ). set x at.result commit.result) loop.invariant
    ∙ laid-numbered (set a.tracker.now length_at a.longest) lasts_at (commits a.snapshot.now.plants.now) loop.r at.result commit.result at.ensures
    (omega (arith, at.ensures, length-set a.tracker.now length_at a.longest)) commit.ensures

pub returns : goal.returns
returns c =
    let a = c.args in
    let loop = c.loop-r in
    let s = a.snapshot.now in
    let z : loop.r ≡ s.n = omega arith in
    loop.invariant
    ∙ (ap (λ (k : ℕ). laid (set a.tracker.now length_at a.longest) lasts_at (numbered k (commits s.plants.now))) z
    ∙ laid_first a.tracker.now length_at a.longest (numbered s.n (commits s.plants.now)) (omega arith))

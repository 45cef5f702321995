-- `properties_remembering::length_after` meets its contract. The loop's invariant: the greatest so far. Assumes nothing.
use native.Mathlib.Omega.{arith}
use mathlib.Core.Path.{sym}
use lib.ListN.{get_or}
use Rattle.properties_snapshots.specs.Layout.{commit_at}
use Rattle.properties_snapshots.proofs.Below.{max_none, max_more}
use Rattle.properties_remembering.proofs.length_after.Goals as goal

pub loop-r-init : goal.loop-r-init
loop-r-init c = sym (max_none (λ k. get_or c.args.snapshot.now.plants.now (commit_at k) 0) c.args.known)

pub loop-r-preserved : goal.loop-r-preserved
loop-r-preserved c =
    omega (
      arith,
      max_more c.loop-r.r (λ k. get_or c.args.snapshot.now.plants.now (commit_at k) 0) c.args.known,
      c.loop-r.invariant,
      c.commit_of.ensures,
      c.max-longest.ensures,
    )

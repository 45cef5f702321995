-- `properties_canonical::durable_at` meets its contract: an entry that agrees with the canonical one has its copies. Assumes nothing.
use borrow.Author.Tests.{leb-true}
use native.Mathlib.Omega.{arith}
use Rattle.properties_snapshots.proofs.Held.{commit_held}
use Rattle.properties_snapshots.specs.Snapshots.{cluster_at}
use Rattle.properties_canonical.proofs.Copies.{enough}
use Rattle.properties_canonical.proofs.durable_at.Goals as goal

pub returns : goal.returns
returns c = λ e r h m.
    let a = c.args.advance.now in
    let s = a.snapshot in
    enough (cluster_at a) r c.args.i
    (omega (arith, c.requires.1, leb-true _ _ e, c.canonical_copies.ensures r h (omega (arith, m, commit_held s.n s.plants.now s.logs.now a.tracker.now r h))))

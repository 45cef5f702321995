use mathlib.Core.List.{List}
use mathlib.Core.Path.{◌≡◌}
use Prim.Native.Nat.{ℕ}
use Rattle.properties_snapshots.specs.Snapshots.{cluster_of}
use Rattle.properties_convergence.specs.Convergence.{converged}
use Rattle.properties_convergence.proofs.Passing.{answer_from}
use Rattle.properties_convergence.proofs.convergence.Given as goal

-- what the core plants from here on answer is what all answer
abbrev pub invariant-loop-id : goal.invariant-loop-id
invariant-loop-id l = (t : List ℕ) → converged (cluster_of l.snapshot t) l.values l.core ≡ answer_from (cluster_of l.snapshot t) l.values l.core l.id-index

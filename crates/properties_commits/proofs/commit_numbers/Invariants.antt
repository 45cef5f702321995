use mathlib.Core.List.{List}
use mathlib.Core.Path.{◌≡◌}
use Prim.Native.Nat.{ℕ, ◌-◌}
use lib.ListN.{length}
use Rattle.std.specs.Prelude.{⊤, Result}
use Rattle.properties_snapshots.specs.Cluster.{plant, last, cluster_in}
use Rattle.properties_verdicts.specs.Verdicts.{first_answer}
use Rattle.properties_verdicts.specs.declared.Break.{Break}
use Rattle.properties_commits.specs.Commits.{commit_tests}
use Rattle.properties_commits.proofs.commit_numbers.Given as goal

-- property 1 of a plant, and in words
abbrev pub tests : ℕ → List ℕ → List ℕ → List ℕ → ℕ → Result ⊤ Break
tests n p l t r =
    commit_tests r (plant (cluster_in n p l t) r).commit (plant (cluster_in n p l t) r).op (length (plant (cluster_in n p l t) r).log)
    (last (cluster_in n p l t) r)

-- what the plants from r on answer is what all answer
abbrev pub invariant-loop-r : goal.invariant-loop-r
invariant-loop-r l = (g : List ℕ) → first_answer (tests l.n l.plants g l.tracker) 0 l.n ≡ first_answer (tests l.n l.plants g l.tracker) l.r (l.n - l.r)

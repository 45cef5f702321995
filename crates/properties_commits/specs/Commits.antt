-- Property 1, commit-number-monotonic (RULES, "Properties"). Assumes nothing.
use Rattle.std.specs.Prelude.{[], ◌∷◌, ℕ, leb, eqb, length, ⊤, Result}
use Rattle.properties_snapshots.specs.Cluster.{Cluster, plant, last}
use Rattle.properties_verdicts.specs.Verdicts.{first_failed, over_plants}
use Rattle.properties_verdicts.specs.declared.Break.{Break}
use Rattle.properties_verdicts.specs.declared.Property.TheVariants.{CommitNumber}

-- the tests of a plant: op = length; commit ≤ op; commit ≥ last
unfoldable pub commit_tests : ℕ → ℕ → ℕ → ℕ → ℕ → Result ⊤ Break
commit_tests r commit op size last_commit =
    first_failed CommitNumber r 1 (eqb op size ∷ leb commit op ∷ leb last_commit commit ∷ [])

unfoldable pub commit_numbers : Cluster → Result ⊤ Break
commit_numbers c =
    over_plants c (λ r. commit_tests r (plant c r).commit (plant c r).op (length (plant c r).log) (last c r))

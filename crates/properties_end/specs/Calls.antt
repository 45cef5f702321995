-- What an end call answers, refusals too (RULES, "Properties", "Refusal numbers" 40, 60, 61). Each is total. Assumes nothing.
use Rattle.std.specs.Prelude.{◌&&◌, List, ℕ, eqb, ℤ, length, ⊤, Result}
use Rattle.basis.specs.Basis.{plant_count}
use Rattle.properties_snapshots.specs.Cluster.{cluster_in}
use Rattle.properties_snapshots.specs.Fits.{snapshot_fits, tracker_fits}
use Rattle.properties_verdicts.specs.Verdicts.{and_then, unless, judged, refused}
use Rattle.properties_convergence.specs.Convergence.{converged}
use Rattle.properties_convergence.specs.Core.{core_fits}
use Rattle.properties_verdicts.specs.declared.Failure.{Failure}
use Rattle.properties_verdicts.specs.declared.Refusal.{Refusal}
use Rattle.properties_verdicts.specs.declared.Refusal.TheVariants.{PlantCount, BadSnapshot, BadTracker}

-- 40, 60 and 61; then property 7 alone
unfoldable pub end_refusal : ℕ → List ℕ → List ℕ → List ℤ → List ℕ → List ℕ → Result ⊤ Refusal
end_refusal n p l values core t =
    and_then (unless PlantCount (plant_count n))
    (and_then
    (unless BadSnapshot (snapshot_fits n p l && eqb (length values) n && core_fits n core))
    (unless BadTracker (tracker_fits n t)))

unfoldable pub end_answer : ℕ → List ℕ → List ℕ → List ℤ → List ℕ → List ℕ → Result ⊤ Failure
end_answer n p l values core t =
    and_then (refused (end_refusal n p l values core t)) (judged (converged (cluster_in n p l t) values core))

-- What a tick call answers and what the tracker's words are after it, refusals too (RULES, "Properties", "Refusal numbers" 40, 60, 61).
-- Each is total. Assumes nothing.
use Rattle.std.specs.Prelude.{List, ℕ, ⊤, Result}
use Rattle.basis.specs.Basis.{plant_count}
use Rattle.properties_snapshots.specs.Cluster.{cluster_in}
use Rattle.properties_snapshots.specs.Fits.{snapshot_fits, tracker_fits}
use Rattle.properties_verdicts.specs.Verdicts.{and_then, unless, judged, refused, on_pass}
use Rattle.properties_remembering.specs.Remembering.{remembered}
use Rattle.properties_judge.specs.Ticks.{tick_judged}
use Rattle.properties_verdicts.specs.declared.Failure.{Failure}
use Rattle.properties_verdicts.specs.declared.Refusal.{Refusal}
use Rattle.properties_verdicts.specs.declared.Refusal.TheVariants.{PlantCount, BadSnapshot, BadTracker}

-- 40, 60 and 61
unfoldable pub tick_refusal : ℕ → List ℕ → List ℕ → List ℕ → Result ⊤ Refusal
tick_refusal n p l t =
    and_then (unless PlantCount (plant_count n))
    (and_then (unless BadSnapshot (snapshot_fits n p l)) (unless BadTracker (tracker_fits n t)))

unfoldable pub tick_answer : ℕ → List ℕ → List ℕ → List ℕ → Result ⊤ Failure
tick_answer n p l t = and_then (refused (tick_refusal n p l t)) (judged (tick_judged (cluster_in n p l t)))

unfoldable pub tick_words : ℕ → List ℕ → List ℕ → List ℕ → List ℕ
tick_words n p l t = on_pass (tick_answer n p l t) (remembered (cluster_in n p l t) t) t

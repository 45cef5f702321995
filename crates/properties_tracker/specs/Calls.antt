-- What a fresh tracker and a reboot answer, and what the tracker's words are after it, refusals too (RULES, "Properties", "Refusal
-- numbers" 40, 41, 61). Each is total. Assumes nothing.
use Rattle.std.specs.Prelude.{List, ◌∷◌, ℕ, ◌-◌, ltb, eqb, length, set, replicate, ⊤, Result}
use Rattle.basis.specs.Basis.{plant_count}
use Rattle.properties_snapshots.specs.Fits.{tracker_fits}
use Rattle.properties_snapshots.specs.Layout.{last_at, tracker_words}
use Rattle.properties_verdicts.specs.Verdicts.{and_then, unless, refused, on_pass}
use Rattle.properties_verdicts.specs.declared.Failure.{Failure}
use Rattle.properties_verdicts.specs.declared.Refusal.TheVariants.{PlantCount, NoSuchPlant, BadTracker}

-- a fresh tracker: n and zeros
unfoldable pub fresh_answer : ℕ → ℕ → Result ⊤ Failure
fresh_answer n lent =
    refused (and_then (unless PlantCount (plant_count n)) (unless BadTracker (eqb lent (tracker_words n))))

unfoldable pub fresh_words : ℕ → List ℕ → List ℕ
fresh_words n t = on_pass (fresh_answer n (length t)) (n ∷ replicate (tracker_words n - 1) 0) t

-- a reboot: that last commit is 0
unfoldable pub reboot_answer : ℕ → ℕ → List ℕ → Result ⊤ Failure
reboot_answer n id t =
    refused (and_then (unless PlantCount (plant_count n))
    (and_then (unless NoSuchPlant (ltb id n)) (unless BadTracker (tracker_fits n t))))

unfoldable pub reboot_words : ℕ → ℕ → List ℕ → List ℕ
reboot_words n id t = on_pass (reboot_answer n id t) (set t (last_at id) 0) t

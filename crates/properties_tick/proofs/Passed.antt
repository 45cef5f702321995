-- What a tick call that passes leaves known of the words; and words that fit are judged. Assumes nothing.
use mathlib.Core.Bool.{true}
use mathlib.Core.List.{List}
use mathlib.Core.Path.{◌≡◌}
use Prim.Native.Nat.{ℕ}
use Rattle.properties_snapshots.specs.Cluster.{cluster_in}
use Rattle.basis.specs.Basis.{plant_count}
use Rattle.properties_snapshots.specs.Fits.{snapshot_fits, tracker_fits}
use Rattle.properties_snapshots.specs.Shape.{Snapshot, Tracked, Forward}
use Rattle.properties_snapshots.proofs.Known.{snapshot_known, tracker_known}
use Rattle.std.specs.Prelude.{Ok}
use Rattle.properties_verdicts.specs.Verdicts.{and_then, unless, judged, refused}
use Rattle.properties_verdicts.proofs.First.{then_pass, unless_known, judged_pass, refused_pass}
use Rattle.properties_commits.specs.Commits.{commit_numbers}
use Rattle.properties_commits.proofs.Forwards.{forward_known}
use Rattle.properties_tick.specs.Calls.{tick_refusal, tick_answer}
use Rattle.properties_judge.specs.Ticks.{judged_entries, tick_judged}
use Rattle.properties_verdicts.specs.declared.Refusal.TheVariants.{PlantCount, BadSnapshot, BadTracker}

-- a call that is not refused and judged passes
pub passed_both : (n : ℕ) (p l t : List ℕ) → tick_answer n p l t ≡ Ok tt → (tick_refusal n p l t ≡ Ok tt) × (tick_judged (cluster_in n p l t) ≡ Ok tt)
unfolding tick_answer
passed_both n p l t e =
    let c = cluster_in n p l t in
    let a = then_pass (refused (tick_refusal n p l t)) (judged (tick_judged c)) e in
    (refused_pass (tick_refusal n p l t) a.0, judged_pass (tick_judged c) a.1)

-- property 1 has passed where all have
pub judged_forward : (n : ℕ) (p l t : List ℕ) → tick_judged (cluster_in n p l t) ≡ Ok tt → Forward n p t
unfolding tick_judged
judged_forward n p l t e =
    let c = cluster_in n p l t in
    forward_known n p l t (then_pass (commit_numbers c) (judged_entries c) e).0

-- all of it, of a tick call that passes
pub tick_known : (n : ℕ) (p l t : List ℕ) → tick_answer n p l t ≡ Ok tt → Snapshot n p l × Tracked n t × Forward n p t
unfolding tick_refusal
tick_known n p l t e =
    let a = passed_both n p l t e in
    let b = then_pass (unless PlantCount (plant_count n)) (and_then (unless BadSnapshot (snapshot_fits n p l)) (unless BadTracker (tracker_fits n t))) a.0 in
    let d = then_pass (unless BadSnapshot (snapshot_fits n p l)) (unless BadTracker (tracker_fits n t)) b.1 in (
      snapshot_known n p l (unless_known PlantCount (plant_count n) b.0) (unless_known BadSnapshot (snapshot_fits n p l) d.0),
      tracker_known n t (unless_known BadTracker (tracker_fits n t) d.1),
      judged_forward n p l t a.1,
    )

-- words that fit are judged
pub taken : (n : ℕ) (p l t : List ℕ) → plant_count n ≡ true → snapshot_fits n p l ≡ true → tracker_fits n t ≡ true
    → judged (tick_judged (cluster_in n p l t)) ≡ tick_answer n p l t
unfolding tick_answer tick_refusal
taken n p l t e f g = rw (e, f, g)

-- Tests in an order, taken apart: what a test that passed says, and what a state that passed its tests is. Assumes nothing.
use mathlib.Core.Bool.{Bool, true, false, not, ◌&&◌}
use mathlib.Core.Path.{◌≡◌, refl, ap}
use mathlib.Core.List.{List, [], ◌∷◌}
use Rattle.std.specs.List.{list_all}
use Prim.Native.Nat.{ℕ, ◌≤◌}
use borrow.Author.Tests.{leb-true}
use lib.Dec.{leb}
use lib.ListN.{drop}
use Rattle.plants.specs.Refusals.{must, ◌then◌}
use Rattle.basis.specs.Basis.{fewest, most, plant_count}
use Rattle.basis.proofs.Laws.{both, between}
use Rattle.plants.specs.State.{limit, none_set, counts_fit, plants_formed, tested}
use Rattle.plants.specs.declared.Plants.{Plants}
use Rattle.plants.specs.declared.refusal.Refusal.{Refusal}
use Rattle.plants.specs.declared.refusal.Refusal.TheVariants.{PlantCount, IllFormed, NoNonce}
use Rattle.plants.specs.Faults.{has_nonce, answered}
use Rattle.script.specs.declared.fault.Fault.{Fault}
use Rattle.script.specs.declared.fault.Fault.TheVariants.{Crash, Restart, Reboot, Partition, Heal, HealAll}
use Rattle.std.specs.Prelude.{Option, Result, Ok, Err}

-- both of two tests in order pass if the whole does
pub both_pass : (t u : Result Unit Refusal) → (t then u) ≡ Ok tt → (t ≡ Ok tt) × (u ≡ Ok tt)
both_pass (Ok x) u e = (refl, e)
both_pass (Err r) u e = cc

pub holds : (b : Bool) (r : Refusal) → must b r ≡ Ok tt → b ≡ true
holds true r e = refl
holds false r e = cc

-- ---- no flag is set
pub none_by_all : (flags : List Bool) → list_all not flags ≡ none_set flags
unfolding none_set
none_by_all [] = refl
none_by_all (x ∷ xs) = ap (λ r. not x && r) (none_by_all xs)

-- ---- a state that passed its tests
module _ (s : Plants) (e : tested s ≡ Ok tt) where
  parts : (must (plant_count s.n) PlantCount ≡ Ok tt) × (must (plants_formed s) IllFormed ≡ Ok tt)
  unfolding tested
  parts = both_pass (must (plant_count s.n) PlantCount) (must (plants_formed s) IllFormed) e

  pub count_holds : plant_count s.n ≡ true
  count_holds = holds (plant_count s.n) PlantCount parts.0

  pub form_holds : plants_formed s ≡ true
  form_holds = holds (plants_formed s) IllFormed parts.1

  pub bounds : (fewest ≤ s.n) × (s.n ≤ most)
  bounds = between s.n count_holds

  pub counts : (s.crashes ≤ limit) × (s.restarts ≤ limit) × (s.reboots ≤ limit)
  unfolding plants_formed counts_fit
  counts =
      let h = (both (none_set (drop s.n s.up) && none_set (drop s.n s.partitioned)) (leb s.crashes limit && leb s.restarts limit && leb s.reboots limit) form_holds).1 in
      let k = both (leb s.crashes limit && leb s.restarts limit) _ h in
      let j = both (leb s.crashes limit) _ k.0 in
      (leb-true _ _ j.0, leb-true _ _ j.1, leb-true _ _ k.1)

-- ---- a fault's answer is a refusal exactly where a nonce is missing
pub nonce_drawn : (fault : Fault) (draws : List ℕ) (drawn : Option ℕ) → answered fault draws ≡ Ok drawn → has_nonce fault draws ≡ true
nonce_drawn (Crash i) draws drawn e = refl
nonce_drawn (Restart i) draws drawn e = refl
nonce_drawn (Reboot i) [] drawn e = cc
nonce_drawn (Reboot i) (d ∷ ds) drawn e = refl
nonce_drawn (Partition i) draws drawn e = refl
nonce_drawn (Heal i) draws drawn e = refl
nonce_drawn HealAll draws drawn e = refl

pub nonce_missing : (fault : Fault) (draws : List ℕ) (r : Refusal) → answered fault draws ≡ Err r → (has_nonce fault draws ≡ false) × (r ≡ NoNonce)
nonce_missing (Crash i) draws r e = cc
nonce_missing (Restart i) draws r e = cc
nonce_missing (Reboot i) [] r e = (refl, cc)
nonce_missing (Reboot i) (d ∷ ds) r e = cc
nonce_missing (Partition i) draws r e = cc
nonce_missing (Heal i) draws r e = cc
nonce_missing HealAll draws r e = cc

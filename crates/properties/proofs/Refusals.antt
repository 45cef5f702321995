-- The refusals of a tick call by its three tests: each is the answer exactly where its test is the first that fails, and none is a broken
-- place. Assumes nothing.
use native.Mathlib.Omega.{arith}
use mathlib.Core.Bool.{Bool, true, false, true≢false, false≢true}
use mathlib.Core.Logic.{◌↔◌}
use mathlib.Core.Path.{◌≡◌, refl, ap}
use Rattle.std.specs.Prelude.{⊤, Result, Ok, Err}
use Rattle.properties_verdicts.specs.Verdicts.{properties_refusal, and_then, unless, judged, refused}
use Rattle.properties_verdicts.proofs.First.{no_pass}
use Rattle.properties_verdicts.specs.declared.Break.{Break}
use Rattle.properties_verdicts.specs.declared.Failure.{Failure}
use Rattle.properties_verdicts.specs.declared.Failure.TheVariants.{Broken, Refused}
use Rattle.properties_verdicts.specs.declared.Refusal.{Refusal}
use Rattle.properties_verdicts.specs.declared.Refusal.TheVariants.{PlantCount, BadSnapshot, BadTracker}

-- two refusals of other numbers, and a refusal and a broken place, differ
abbrev refusal : Refusal → Result ⊤ Failure
refusal e = Err (Refused e)

abbrev break : Break → Result ⊤ Failure
break b = Err (Broken b)

apart : (e f : Refusal) → (properties_refusal e ≡ properties_refusal f → ⊥) → refusal e ≡ refusal f → ⊥
apart e f d q = d (cc)

clash : (e : Refusal) (b : Break) → refusal e ≡ break b → ⊥
clash e b q = cc

unlike : (b c : Break) → break b ≡ break c → ◌≡◌ {A = Result ⊤ Break} (Err b) (Err c)
unlike b c q = let e : b ≡ c = cc in ap (λ (x : Break). Err x) e

abbrev pub refusing : Bool → Bool → Bool → Result ⊤ Refusal
refusing a b d = and_then (unless PlantCount a) (and_then (unless BadSnapshot b) (unless BadTracker d))

-- what is answered of words that are not refused is no refusal, and tells a break exactly if it was one
never : (y : Result ⊤ Break) (e : Refusal) → judged y ≡ refusal e → ⊥
never (Ok x) e q = cc
never (Err b) e q = cc

told : (y : Result ⊤ Break) (b : Break) → (judged y ≡ break b) ↔ (y ≡ Err b)
told (Ok x) b = (λ q. absurd (no_broken q), λ q. absurd (no_error q))
  where
    no_broken : ◌≡◌ {A = Result ⊤ Failure} (Ok tt) (break b) → ⊥
    no_broken q = cc

    no_error : ◌≡◌ {A = Result ⊤ Break} (Ok x) (Err b) → ⊥
    no_error q = cc
told (Err c) b = (unlike c b, ap judged)

-- before what is judged
module _ (y : Result ⊤ Break) where
  abbrev answer : Bool → Bool → Bool → Result ⊤ Failure
  answer a b d = and_then (refused (refusing a b d)) (judged y)

  pub count_refused : (a b d : Bool) → (answer a b d ≡ refusal PlantCount) ↔ (a ≡ false)
  unfolding properties_refusal
  count_refused false b d = (λ e. refl, λ e. refl)
  count_refused true false d = (λ e. absurd (apart BadSnapshot PlantCount (omega arith) e), λ e. absurd (true≢false e))
  count_refused true true false = (λ e. absurd (apart BadTracker PlantCount (omega arith) e), λ e. absurd (true≢false e))
  count_refused true true true = (λ e. absurd (never y PlantCount e), λ e. absurd (true≢false e))

  pub snapshot_refused : (a b d : Bool) → (answer a b d ≡ refusal BadSnapshot) ↔ ((a ≡ true) × (b ≡ false))
  unfolding properties_refusal
  snapshot_refused false b d = (λ e. absurd (apart PlantCount BadSnapshot (omega arith) e), λ e. absurd (false≢true e.0))
  snapshot_refused true false d = (λ e. (refl, refl), λ e. refl)
  snapshot_refused true true false = (λ e. absurd (apart BadTracker BadSnapshot (omega arith) e), λ e. absurd (true≢false e.1))
  snapshot_refused true true true = (λ e. absurd (never y BadSnapshot e), λ e. absurd (true≢false e.1))

  pub tracker_refused : (a b d : Bool) → (answer a b d ≡ refusal BadTracker) ↔ ((a ≡ true) × (b ≡ true) × (d ≡ false))
  unfolding properties_refusal
  tracker_refused false b d = (λ e. absurd (apart PlantCount BadTracker (omega arith) e), λ e. absurd (false≢true e.0))
  tracker_refused true false d = (λ e. absurd (apart BadSnapshot BadTracker (omega arith) e), λ e. absurd (false≢true e.1))
  tracker_refused true true false = (λ e. (refl, refl, refl), λ e. refl)
  tracker_refused true true true = (λ e. absurd (never y BadTracker e), λ e. absurd (true≢false e.2))

  pub then_broken : (a b d : Bool) (x : Break) → (answer a b d ≡ break x) ↔ ((refusing a b d ≡ Ok tt) × (y ≡ Err x))
  then_broken false b d x = (λ e. absurd (clash PlantCount x e), λ e. absurd (no_pass PlantCount e.0))
  then_broken true false d x = (λ e. absurd (clash BadSnapshot x e), λ e. absurd (no_pass BadSnapshot e.0))
  then_broken true true false x = (λ e. absurd (clash BadTracker x e), λ e. absurd (no_pass BadTracker e.0))
  then_broken true true true x = (λ e. (refl, (told y x).0 e), λ e. (told y x).1 e.1)

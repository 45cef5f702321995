-- A tracker fits from its making on: no call leaves words that the next one refuses by 61. Assumes nothing.
use native.Mathlib.Omega.{arith}
use native.Mathlib.Decide.{ℕ_discrete}
use mathlib.Core.Bool.{true}
use mathlib.Core.List.{List, ◌∷◌}
use mathlib.Core.Path.{◌≡◌, refl, ap, ◌∙◌}
use Prim.Native.Nat.{ℕ, suc, ◌-◌, ◌<◌}
use lib.ListN.{length, get_or, set, replicate, length-set, length-replicate, get_or-replicate}
use lib.Seq.{get_or-set_same, get_or-set_other}
use Rattle.properties_snapshots.specs.Cluster.{cluster_in}
use Rattle.properties_snapshots.specs.Fits.{tracker_fits}
use Rattle.properties_snapshots.specs.Layout.{count_at, length_at, last_at, tracker_words}
use Rattle.properties_snapshots.specs.Shape.{Tracked}
use Rattle.properties_snapshots.proofs.Known.{tracker_known, tracker_fits_lem}
use Rattle.properties_verdicts.specs.Verdicts.{on_pass}
use Rattle.properties_remembering.specs.Remembering.{remembered}
use Rattle.properties_remembering.proofs.After.{after_tracked}
use Rattle.properties_tracker.specs.Calls.{fresh_answer, fresh_words, reboot_answer, reboot_words}
use Rattle.properties_tick.specs.Calls.{tick_answer, tick_words}
use Rattle.properties_tick.proofs.Passed.{tick_known}
use Rattle.std.specs.Prelude.{⊤, Result, Ok, Err}

-- the words that only a pass changes
pub either : {E : Type 0} (a : Result ⊤ E) (after before : List ℕ) (P : List ℕ → Type 0) → (a ≡ Ok tt → P after) → P before → P (on_pass a after before)
either (Ok x) after before P h b = h refl
either (Err x) after before P h b = b

-- the words of a fresh tracker
abbrev blank : ℕ → List ℕ
blank n = replicate (tracker_words n - 1) 0

pub fresh_fits : (n : ℕ) (t : List ℕ) → fresh_answer n (length t) ≡ Ok tt → tracker_fits n (fresh_words n t) ≡ true
unfolding fresh_words
fresh_fits n t e = rw e (tracker_fits_lem n (n ∷ blank n) made)
  where
    zero_at : (j : ℕ) → j < tracker_words n - 1 → get_or (blank n) j 0 ≡ 0
    zero_at j h = get_or-replicate (tracker_words n - 1) j 0 0 h

    as_suc : (r : ℕ) → last_at r ≡ suc (suc r)
    as_suc r = omega arith

    made : Tracked n (n ∷ blank n)
    made =
        let first = zero_at 0 (omega arith) in
        let long : length (blank n) ≡ tracker_words n - 1 = length-replicate (tracker_words n - 1) 0 in
        record {
          words = omega (arith, long);
          count = refl;
          canonical = omega (arith, first);
          lasts = λ r h. omega (arith, zero_at (suc r) (omega arith), ap (λ (j : ℕ). get_or (n ∷ blank n) j 0) (as_suc r));
        }

pub reboot_fits : (n id : ℕ) (t : List ℕ) → tracker_fits n t ≡ true → tracker_fits n (reboot_words n id t) ≡ true
unfolding reboot_words
reboot_fits n id t h =
    either (reboot_answer n id t) (set t (last_at id) 0) t (λ w. tracker_fits n w ≡ true) (λ e. tracker_fits_lem n (set t (last_at id) 0) (restarted e)) h
  where
    restarted : reboot_answer n id t ≡ Ok tt → Tracked n (set t (last_at id) 0)
    restarted e =
        let k = tracker_known n t h in
        let one = get_or-set_other t (last_at id) length_at 0 0 (omega arith) in
        record {
          words = length-set t (last_at id) 0 ∙ k.words;
          count = get_or-set_other t (last_at id) count_at 0 0 (omega arith) ∙ k.count;
          canonical = omega (arith, one, k.canonical);
          lasts = λ r g.
              elim (ℕ_discrete r id) [
                | yes z ↦ omega (arith, ap (λ (j : ℕ). get_or (set t (last_at id) 0) (last_at j) 0) z, get_or-set_same t (last_at id) 0 0 (omega (arith, k.words)))
                | no z ↦ omega (arith, one, get_or-set_other t (last_at id) (last_at r) 0 0 (λ q. z (omega arith)), k.lasts r g)
              ];
        }

pub tick_fits : (n : ℕ) (p l t : List ℕ) → tracker_fits n t ≡ true → tracker_fits n (tick_words n p l t) ≡ true
unfolding tick_words
tick_fits n p l t h =
    either (tick_answer n p l t) (remembered (cluster_in n p l t) t) t (λ w. tracker_fits n w ≡ true)
    (λ e. let k = tick_known n p l t e in tracker_fits_lem n (remembered (cluster_in n p l t) t) (after_tracked n p l t k.0 k.1 k.2)) h

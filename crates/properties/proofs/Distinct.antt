-- Property 4 over a whole night: no two ids that a plant committed since it last rebooted are equal. A fresh tracker remembers none, a reboot
-- forgets the plant's, a pass adds only such as differ from all before, and no other answer writes. Assumes nothing.
use borrow.Author.Tests.{ltb-true, lt-ltb, le-ltb}
use native.Mathlib.Omega.{arith}
use native.Mathlib.Decide.{dec_lt, ℕ_discrete}
use mathlib.Core.List.{List, [], ◌∷◌}
use mathlib.Core.Path.{◌≡◌, refl, sym, ap, ◌∙◌, subst}
use Prim.Native.Nat.{ℕ, ◌-◌, ◌≤◌, ◌<◌}
use lib.Dec.{ltb}
use lib.ListN.{length, get_or, set, get_or-replicate}
use lib.Seq.{get_or-set_same, get_or-set_other}
use Rattle.basis.specs.Basis.{plant_count}
use Rattle.properties_snapshots.specs.Cluster.{Cluster, plant, entry, last, cluster_in}
use Rattle.properties_snapshots.specs.Fits.{tracker_fits}
use Rattle.properties_snapshots.specs.Layout.{length_at, last_at, seen_at, tracker_words}
use Rattle.properties_snapshots.proofs.Held.{last_held, seen_held}
use Rattle.properties_snapshots.proofs.Known.{tracker_known}
use Rattle.properties_verdicts.specs.Verdicts.{and_then, unless}
use Rattle.properties_verdicts.proofs.First.{then_pass, unless_known, refused_pass}
use Rattle.properties_duplicates.specs.Duplicates.{id_of}
use Rattle.properties_remembering.specs.Remembering.{remembered}
use Rattle.properties_tracker.specs.Calls.{fresh_answer, fresh_words, reboot_answer, reboot_words}
use Rattle.properties_tick.specs.Calls.{tick_answer, tick_words}
use Rattle.properties_tick.proofs.Passed.{tick_known}
use Rattle.properties_tick.proofs.Laws.{written, ids_remembered}
use Rattle.properties.specs.Nights.{TrackerCall, tick, reboot, tracker_after, NoTwoEqual}
use Rattle.properties.proofs.Exactly.{tick_pass_exactly}
use Rattle.properties.proofs.Fitting.{either, fresh_fits}
use Rattle.properties.proofs.Words.{pass_writes}
use Rattle.std.specs.Prelude.{Ok}
use Rattle.properties_verdicts.specs.declared.Property.TheVariants.{NoDuplicates}
use Rattle.properties_verdicts.specs.declared.Refusal.TheVariants.{PlantCount, NoSuchPlant, BadTracker}

-- a fresh tracker has no last commit over 0
fresh_distinct : (n : ℕ) (t : List ℕ) → fresh_answer n (length t) ≡ Ok tt → NoTwoEqual n (fresh_words n t)
unfolding fresh_words
fresh_distinct n t e r i j h l m q =
    let k = tracker_known n (fresh_words n t) (fresh_fits n t e) in
    let z : get_or (fresh_words n t) length_at 0 ≡ 0 = rw e (get_or-replicate (tracker_words n - 1) 0 0 0 (omega arith)) in
    omega (arith, k.lasts r h)

-- a reboot
reboot_distinct : (n id : ℕ) (t : List ℕ) → NoTwoEqual n t → NoTwoEqual n (reboot_words n id t)
unfolding reboot_words reboot_answer
reboot_distinct n id t d = either (reboot_answer n id t) (set t (last_at id) 0) t (NoTwoEqual n) rebooted d
  where
    rebooted : reboot_answer n id t ≡ Ok tt → NoTwoEqual n (set t (last_at id) 0)
    rebooted e r i j h l m q =
        let a = then_pass (unless PlantCount (plant_count n)) (and_then (unless NoSuchPlant (ltb id n)) (unless BadTracker (tracker_fits n t)))
        (refused_pass (and_then (unless PlantCount (plant_count n)) (and_then (unless NoSuchPlant (ltb id n)) (unless BadTracker (tracker_fits n t)))) e) in
        let b = then_pass (unless NoSuchPlant (ltb id n)) (unless BadTracker (tracker_fits n t)) a.1 in
        let below = ltb-true id n (unless_known NoSuchPlant (ltb id n) b.0) in
        let k = tracker_known n t (unless_known BadTracker (tracker_fits n t) b.1) in
        elim (ℕ_discrete r id) [
          | yes z ↦
              let none = get_or-set_same t (last_at id) 0 0 (omega (arith, k.words)) in
              absurd (omega (arith, m, ap (λ (x : ℕ). get_or (set t (last_at id) 0) (last_at x) 0) z))
          | no z ↦
              let seen : (x : ℕ) → get_or (set t (last_at id) 0) (seen_at n r x) 0 ≡ get_or t (seen_at n r x) 0 =
              λ x. get_or-set_other t (last_at id) (seen_at n r x) 0 0 (omega arith) in
              d r i j h l (omega (arith, m, get_or-set_other t (last_at id) (last_at r) 0 0 (λ y. z (omega arith)))) (sym (seen i) ∙ (q ∙ seen j))
        ]

-- a tick call that passes: an id newly committed differs from all before it by property 4, and those remembered differ already
module _ (n : ℕ) (p l t : List ℕ) (pass : tick_answer n p l t ≡ Ok tt) (d : NoTwoEqual n t) where
  abbrev c : Cluster
  c = cluster_in n p l t

  id_known : (r i : ℕ) → r < n → i < last c r → id_of c r i ≡ get_or t (seen_at n r i) 0
  unfolding id_of
  id_known r i h g =
      let k = (tick_known n p l t pass).1 in
      rw (lt-ltb i (last c r) g) (seen_held n p l t r h i (omega (arith, last_held n p l t r h, k.lasts r h, k.canonical)))

  id_new : (r i : ℕ) → last c r ≤ i → id_of c r i ≡ (entry c r i).id
  unfolding id_of
  id_new r i g = rw (le-ltb i (last c r) g)

  pub committed_ids_differ : (r i j : ℕ) → r < n → i < j → j < (plant c r).commit → id_of c r i ≡ id_of c r j → ⊥
  committed_ids_differ r i j h b m q =
      elim (dec_lt j (last c r)) [
        | yes g ↦
            d r i j h b (omega (arith, last_held n p l t r h)) (sym (id_known r i h (omega arith)) ∙ (q ∙ id_known r j h g))
        | no g ↦
            ((tick_pass_exactly n p l t).0 pass).1 (record { property = NoDuplicates; plant = r; index = j; test = 1 }) ((h, omega arith, m), refl)
            i b (q ∙ id_new r j (omega arith))
      ]

  passed_distinct : NoTwoEqual n (tick_words n p l t)
  passed_distinct r i j h b m q =
      let g : j < (plant c r).commit = omega (arith, m, (pass_writes n p l t pass).lasts r h) in
      committed_ids_differ r i j h b g
      (sym (ids_remembered n p l t pass r i h (omega arith)) ∙ (q ∙ ids_remembered n p l t pass r j h g))

tick_distinct : (n : ℕ) (p l t : List ℕ) → NoTwoEqual n t → NoTwoEqual n (tick_words n p l t)
unfolding tick_words
tick_distinct n p l t d =
    either (tick_answer n p l t) (remembered (cluster_in n p l t) t) t (NoTwoEqual n)
    (λ e. subst (NoTwoEqual n) (written n p l t e) (passed_distinct n p l t e d)) d

-- ---- the night
keeps_distinct : (n : ℕ) (calls : List TrackerCall) (t : List ℕ) → NoTwoEqual n t → NoTwoEqual n (tracker_after n t calls)
unfolding tracker_after
keeps_distinct n [] t d = d
keeps_distinct n (tick p l ∷ more) t d = keeps_distinct n more (tick_words n p l t) (tick_distinct n p l t d)
keeps_distinct n (reboot id ∷ more) t d = keeps_distinct n more (reboot_words n id t) (reboot_distinct n id t d)

pub no_two_equal : (n : ℕ) (t : List ℕ) → fresh_answer n (length t) ≡ Ok tt → (calls : List TrackerCall)
    → NoTwoEqual n (tracker_after n (fresh_words n t) calls)
no_two_equal n t e calls = keeps_distinct n calls (fresh_words n t) (fresh_distinct n t e)

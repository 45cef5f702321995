-- A tick call answers exactly what the rules say: the first broken place, a pass if none is broken, or the first refusal; and so does each of
-- its properties by itself. Assumes nothing.
use native.Mathlib.Omega.{arith}
use mathlib.Core.Bool.{Bool, true, false, cond}
use mathlib.Core.List.{List}
use mathlib.Core.Logic.Iff
use mathlib.Core.Logic.{◌↔◌}
use mathlib.Core.Path.{◌≡◌, refl, sym, ap, ◌∙◌, subst}
use Prim.Native.Nat.{ℕ, ◌-◌, ◌≤◌, ◌<◌}
use lib.Dec.{leb, eqb}
use lib.ListN.{length}
use Rattle.basis.specs.Basis.{plant_count}
use Rattle.properties_snapshots.specs.Cluster.{Cluster, plant, last, cluster_in}
use Rattle.properties_snapshots.specs.Fits.{snapshot_fits, tracker_fits}
use Rattle.std.specs.Prelude.{⊤, Result, Ok, Err}
use Rattle.properties_verdicts.specs.Verdicts.{property_number, and_then, broken}
use Rattle.properties_tick.proofs.Passed.{passed_both}
use Rattle.properties_commits.specs.Commits.{commit_tests, commit_numbers}
use Rattle.properties_judge.specs.Ticks.{EntryProperty, named, asked, over_entries, judged_entries, tick_judged}
use Rattle.properties_judge.specs.Ticks as of-entries
use Rattle.properties_tick.specs.Calls.{tick_refusal, tick_answer}
use Rattle.properties.specs.Places.{Newly, Asked, Place, Before, AskedAt, HoldsAt, First, FirstOf}
use Rattle.properties.proofs.Judged.{number, same_number, same_place, before_number, before_plant, before_index, before_test, broken_at, Judged, broken_is, pass_is, one_judged, same_judged, then_judged, first_judged}
use Rattle.properties.proofs.Refusals.{count_refused, snapshot_refused, tracker_refused, then_broken}
use Rattle.properties.proofs.Tests.{op_exactly, commit_exactly, last_exactly, asked_exactly}
use Rattle.properties_verdicts.specs.declared.Break.{Break}
use Rattle.properties_verdicts.specs.declared.Failure.TheVariants.{Broken, Refused}
use Rattle.properties_verdicts.specs.declared.Property.{Property}
use Rattle.properties_verdicts.specs.declared.Property.TheVariants.{CommitNumber, PrefixAgreement, NoDuplicates, Durability, Convergence}
use Rattle.properties_verdicts.specs.declared.Refusal.TheVariants.{PlantCount, BadSnapshot, BadTracker}

module _ (c : Cluster) where
  -- the places of one property
  abbrev Of : Property → Place → Type 0
  Of p d = (d.property ≡ p) × AskedAt c d

  of_asked : (p : Property) (d : Place) → Of p d → Asked c p d.plant d.index d.test
  of_asked p d m = subst (λ (q : Property). Asked c q d.plant d.index d.test) m.0 m.1

  same_property : (p : Property) (a b : Place) → Of p a → Of p b → number a ≡ number b
  same_property p a b m o = ap property_number (m.0 ∙ sym o.0)

  plants_rise : (p : Property) (a b : Place) → Of p a → Of p b → Before a b → a.plant ≤ b.plant
  plants_rise p a b m o h = before_plant a b h (same_property p a b m o)

  -- ---- property 1: the tests of a plant, and all plants
  module _ (r : ℕ) (h : r < c.size) where
    abbrev Tested : Place → Type 0
    Tested d = Of CommitNumber d × (d.plant ≡ r)

    abbrev test : ℕ → Place
    test t = record { property = CommitNumber; plant = r; index = 0; test = t }

    tests_rise : (a b : Place) → Tested a → Tested b → Before a b → a.test ≤ b.test
    tests_rise a b m o g =
        let x = of_asked CommitNumber a m.0 in
        let y = of_asked CommitNumber b o.0 in
        omega (arith, before_test a b g (same_property CommitNumber a b m.0 o.0) (m.1 ∙ sym o.1) (x.1 ∙ sym y.1))

    only_test : (t : ℕ) (d : Place) → Tested d → d.test ≡ t → d ≡ test t
    only_test t d m e = same_place d (test t) m.0.0 m.1 (of_asked CommitNumber d m.0).1 e

    in_order : (a b d : Bool) → cond a (cond b (cond d (Ok tt) (broken_at (test 3))) (broken_at (test 2))) (broken_at (test 1))
        ≡ and_then (cond a (Ok tt) (broken_at (test 1))) (and_then (cond b (Ok tt) (broken_at (test 2))) (cond d (Ok tt) (broken_at (test 3))))
    in_order true true d = refl
    in_order true false d = refl
    in_order false b d = refl

    plant_judged : Judged c Tested (commit_tests r (plant c r).commit (plant c r).op (length (plant c r).log) (last c r))
    unfolding commit_tests
    plant_judged =
        let first = eqb (plant c r).op (length (plant c r).log) in
        let second = leb (plant c r).commit (plant c r).op in
        let third = leb (last c r) (plant c r).commit in
        rw (in_order first second third)
        (then_judged c Tested (λ d. d.test) tests_rise 1 _ _
        (one_judged c (λ d. Tested d × (d.test ≤ 1)) (test 1) first
        (((refl, (h, refl, omega arith, omega arith)), refl), omega arith)
        (λ d m. only_test 1 d m.0 (omega (arith, m.1, (of_asked CommitNumber d m.0.0).2)))
        (op_exactly c r))
        (then_judged c (λ d. Tested d × (1 < d.test)) (λ d. d.test) (λ a b m o. tests_rise a b m.0 o.0) 2 _ _
        (one_judged c (λ d. (Tested d × (1 < d.test)) × (d.test ≤ 2)) (test 2) second
        ((((refl, (h, refl, omega arith, omega arith)), refl), omega arith), omega arith)
        (λ d m. only_test 2 d m.0.0 (omega (arith, m.0.1, m.1)))
        (commit_exactly c r))
        (one_judged c (λ d. (Tested d × (1 < d.test)) × (2 < d.test)) (test 3) third
        ((((refl, (h, refl, omega arith, omega arith)), refl), omega arith), omega arith)
        (λ d m. only_test 3 d m.0.0 (omega (arith, m.1, (of_asked CommitNumber d m.0.0.0).3)))
        (last_exactly c r))))

  commits_judged : Judged c (Of CommitNumber) (commit_numbers c)
  unfolding commit_numbers
  commits_judged =
      first_judged c (Of CommitNumber) (λ d. d.plant) (plants_rise CommitNumber) _ 0 c.size
      (λ d m. (omega arith, omega (arith, (of_asked CommitNumber d m).0)))
      (λ r l h. plant_judged r (omega arith))

  -- ---- a property of entries: the entries of a plant, and all plants
  entry_asked : (p : EntryProperty) (r i t : ℕ) → Asked c (named p) r i t ↔ (Newly c r i × (t ≡ 1))
  entry_asked of-entries.PrefixAgreement r i t = Iff.rfl
  entry_asked of-entries.NoDuplicates r i t = Iff.rfl
  entry_asked of-entries.Durability r i t = Iff.rfl

  module _ (p : EntryProperty) where
    newly : (d : Place) → Of (named p) d → Newly c d.plant d.index × (d.test ≡ 1)
    newly d m = (entry_asked p d.plant d.index d.test).0 (of_asked (named p) d m)

    entries_judged : Judged c (Of (named p)) (over_entries p c)
    unfolding over_entries
    entries_judged =
        first_judged c (Of (named p)) (λ d. d.plant) (plants_rise (named p)) _ 0 c.size
        (λ d m. (omega arith, omega (arith, (newly d m).0)))
        (λ r l h. first_judged c (λ d. Of (named p) d × (d.plant ≡ r)) (λ d. d.index)
        (λ a b m o g. before_index a b g (same_property (named p) a b m.0 o.0) (m.1 ∙ sym o.1))
        _ (last c r) ((plant c r).commit - last c r)
        (λ d m.
        let w = (newly d m.0).0 in
        let z = ap (last c) m.1 in
        let y = ap (λ (q : ℕ). (plant c q).commit) m.1 in
        (omega (arith, w.1), omega (arith, w.2)))
        (λ i g k. one_judged c (λ d. (Of (named p) d × (d.plant ≡ r)) × (d.index ≡ i))
        (record { property = named p; plant = r; index = i; test = 1 }) (asked p c r i)
        (((refl, (entry_asked p r i 1).1 ((omega arith, g, omega arith), refl)), refl), refl)
        (λ d m. same_place d _ m.0.0.0 m.0.1 m.1 (newly d m.0.0).1)
        (asked_exactly c r i p)))

  -- ---- the properties in their order: 1, 3, 4 and 6
  abbrev Known : ℕ → Type 0
  Known k = (0 < k) × (k ≡ 2 → ⊥) × (k ≡ 5 → ⊥) × (k < 7)

  asked-number : (p : Property) (r i t : ℕ) → Asked c p r i t → Known (property_number p)
  unfolding property_number
  asked-number CommitNumber r i t h = omega arith
  asked-number PrefixAgreement r i t h = omega arith
  asked-number NoDuplicates r i t h = omega arith
  asked-number Durability r i t h = omega arith
  asked-number Convergence r i t h = absurd h

  -- the places of the properties over a number; then the first of these properties, and those over its number
  abbrev Over : ℕ → Place → Type 0
  Over k d = AskedAt c d × (k < number d)

  next_judged : (p : Property) (k : ℕ) (x y : Result ⊤ Break) → k < property_number p → ((d : Place) → Over k d → property_number p ≤ number d)
      → Judged c (Of p) x → Judged c (Over (property_number p)) y → Judged c (Over k) (and_then x y)
  next_judged p k x y h least first more =
      let bound = property_number p in
      then_judged c (Over k) number (λ a b m o. before_number a b) bound x y
      (same_judged c (Of p) (λ d. Over k d × (number d ≤ bound)) x
      (λ d. (
        λ m. let e = ap property_number m.0 in ((m.1, omega arith), omega arith),
        λ m. (same_number d.property p (omega (arith, least d m.0, m.1)), m.0.0),
      ))
      first)
      (same_judged c (Over bound) (λ d. Over k d × (bound < number d)) y (λ d. (λ m. ((m.0, omega arith), m.1), λ m. (m.0.0, m.1))) more)

  tick_judged_lem : Judged c (AskedAt c) (tick_judged c)
  unfolding tick_judged judged_entries property_number
  tick_judged_lem =
      let known : (d : Place) → AskedAt c d → Known (number d) = λ d. asked-number d.property d.plant d.index d.test in
      same_judged c (Over 0) (AskedAt c) (tick_judged c) (λ d. (λ m. m.0, λ m. (m, (known d m).0)))
      (next_judged CommitNumber 0 _ _ (omega arith) (λ d m. m.1) commits_judged
      (next_judged PrefixAgreement 1 _ _ (omega arith) (λ d m. omega (arith, known d m.0, m.1))
      (entries_judged of-entries.PrefixAgreement)
      (next_judged NoDuplicates 3 _ _ (omega arith) (λ d m. m.1) (entries_judged of-entries.NoDuplicates)
      (same_judged c (Of Durability) (Over 4) _
      (λ d. (
        λ m. let e = ap property_number m.0 in (m.1, omega arith),
        λ m. (same_number d.property Durability (omega (arith, known d m.0, m.1)), m.0),
      ))
      (entries_judged of-entries.Durability)))))

  -- ---- what each answers, exactly
  module _ (p : Property) (x : Result ⊤ Break) (judged : Judged c (Of p) x) where
    of_broken : (a : Place) → (x ≡ broken_at a) ↔ FirstOf p c a
    of_broken a =
        Iff.trans (broken_is c (Of p) x judged a) (
          λ f. record { of = f.asked.0; asked = f.asked.1; fails = f.fails; before = λ b e m. f.before b (e, m) },
          λ f. record { asked = (f.of, f.asked); fails = f.fails; before = λ b m. f.before b m.0 m.1 },
        )

    of_pass : (x ≡ Ok tt) ↔ ((a : Place) → a.property ≡ p → AskedAt c a → HoldsAt c a)
    of_pass = Iff.trans (pass_is c (Of p) x judged) (λ h a e m. h a (e, m), λ h a m. h a m.0 m.1)

  pub commit_broken_exactly : (a : Place)
      → (commit_numbers c ≡ Err (broken a.property a.plant a.index a.test)) ↔ FirstOf CommitNumber c a
  commit_broken_exactly = of_broken CommitNumber (commit_numbers c) commits_judged

  pub commit_pass_exactly : (commit_numbers c ≡ Ok tt) ↔ ((a : Place) → a.property ≡ CommitNumber → AskedAt c a → HoldsAt c a)
  commit_pass_exactly = of_pass CommitNumber (commit_numbers c) commits_judged

  pub entries_broken_exactly : (p : EntryProperty) (a : Place)
      → (over_entries p c ≡ Err (broken a.property a.plant a.index a.test)) ↔ FirstOf (named p) c a
  entries_broken_exactly p = of_broken (named p) (over_entries p c) (entries_judged p)

  pub entries_pass_exactly : (p : EntryProperty)
      → (over_entries p c ≡ Ok tt) ↔ ((a : Place) → a.property ≡ named p → AskedAt c a → HoldsAt c a)
  entries_pass_exactly p = of_pass (named p) (over_entries p c) (entries_judged p)

  pub broken_exactly : (a : Place) → (tick_judged c ≡ Err (broken a.property a.plant a.index a.test)) ↔ First c a
  broken_exactly a =
      Iff.trans (broken_is c (AskedAt c) (tick_judged c) tick_judged_lem a) (
        λ f. record { asked = f.asked; fails = f.fails; before = f.before },
        λ f. record { asked = f.asked; fails = f.fails; before = f.before },
      )

  pub pass_exactly : (tick_judged c ≡ Ok tt) ↔ ((a : Place) → AskedAt c a → HoldsAt c a)
  pass_exactly = pass_is c (AskedAt c) (tick_judged c) tick_judged_lem

-- ---- the call: its refusals come first
module _ (n : ℕ) (p l t : List ℕ) where
  abbrev c : Cluster
  c = cluster_in n p l t

  pub tick_broken_exactly : (a : Place)
      → (tick_answer n p l t ≡ Err (Broken (broken a.property a.plant a.index a.test))) ↔ ((tick_refusal n p l t ≡ Ok tt) × First c a)
  unfolding tick_answer tick_refusal
  tick_broken_exactly a =
      Iff.trans (then_broken (tick_judged c) (plant_count n) (snapshot_fits n p l) (tracker_fits n t) (broken a.property a.plant a.index a.test))
      (λ e. (e.0, (broken_exactly c a).0 e.1), λ e. (e.0, (broken_exactly c a).1 e.1))

  pub tick_pass_exactly : (tick_answer n p l t ≡ Ok tt) ↔ ((tick_refusal n p l t ≡ Ok tt) × ((a : Place) → AskedAt c a → HoldsAt c a))
  unfolding tick_answer
  tick_pass_exactly = (
    λ e. let w = passed_both n p l t e in (w.0, (pass_exactly c).0 w.1),
    λ e. rw (e.0, (pass_exactly c).1 e.1),
  )

  pub tick_refused_exactly : ((tick_answer n p l t ≡ Err (Refused PlantCount)) ↔ (plant_count n ≡ false))
      × ((tick_answer n p l t ≡ Err (Refused BadSnapshot)) ↔ ((plant_count n ≡ true) × (snapshot_fits n p l ≡ false)))
      × ((tick_answer n p l t ≡ Err (Refused BadTracker))
      ↔ ((plant_count n ≡ true) × (snapshot_fits n p l ≡ true) × (tracker_fits n t ≡ false)))
  unfolding tick_answer tick_refusal
  tick_refused_exactly = (
    count_refused (tick_judged c) (plant_count n) (snapshot_fits n p l) (tracker_fits n t),
    snapshot_refused (tick_judged c) (plant_count n) (snapshot_fits n p l) (tracker_fits n t),
    tracker_refused (tick_judged c) (plant_count n) (snapshot_fits n p l) (tracker_fits n t),
  )

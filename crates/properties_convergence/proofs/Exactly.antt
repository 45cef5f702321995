-- An end call's property 7 passes exactly if all core plants hold equal logs, fully committed, and equal values. Assumes nothing.
use borrow.Author.Tests.{eqb-true, eq-eqb}
use native.Mathlib.Omega.{arith}
use mathlib.Core.Bool.{Bool, true, false}
use mathlib.Core.List.{List, [], ◌∷◌}
use mathlib.Core.Logic.{◌↔◌}
use mathlib.Core.Path.{◌≡◌, refl, ap}
use Prim.Native.Nat.{ℕ, suc, ◌<◌}
use lib.Dec.{eqb}
use lib.IntN.{ℤ, pos, ℤ_discrete}
use lib.ListN.{length, get_or}
use lib.Seq.{ext_get_or}
use Rattle.properties_snapshots.specs.Cluster.{LogEntry, Cluster, same_entry, no_entry, plant, entry}
use Rattle.properties_snapshots.proofs.Same.{same_entries, entries_same}
use Rattle.std.specs.Prelude.{⊤, Result, Ok}
use Rattle.properties_verdicts.specs.Verdicts.{first_answer, first_failed, at_entry, broken}
use Rattle.properties_verdicts.proofs.First.{no_pass, then_pass, test_holds, first_pass, all_pass}
use Rattle.properties_convergence.specs.Convergence.{same_value, converged_with, converged}
use Rattle.properties_convergence.proofs.Values.{told_same, same_told}
use Rattle.properties_verdicts.specs.declared.Break.{Break}
use Rattle.properties_verdicts.specs.declared.Property.{Property}
use Rattle.properties_verdicts.specs.declared.Property.TheVariants.{Convergence}

-- a core plant and the first one
pub record Alike (c : Cluster) (values : List ℤ) (reference id : ℕ) : Type 0 where
  pub log : (plant c id).log ≡ (plant c reference).log
  pub committed : (plant c id).commit ≡ length (plant c id).log
  pub value : get_or values id (pos 0) ≡ get_or values reference (pos 0)

-- the first of several tests that pass
first_holds : (p : Property) (r t : ℕ) (b : Bool) (bs : List Bool) → first_failed p r t (b ∷ bs) ≡ Ok tt → (b ≡ true) × (first_failed p r (suc t) bs ≡ Ok tt)
first_holds p r t true bs e = (refl, e)
first_holds p r t false bs e = absurd (no_pass (broken p r 0 t) e)

module _ (c : Cluster) (values : List ℤ) (reference id : ℕ) where
  abbrev compared : ℕ → Result ⊤ Break
  compared i = at_entry Convergence id i 2 (same_entry (entry c id i) (entry c reference i))

  alike : converged_with c values reference id ≡ Ok tt → Alike c values reference id
  unfolding converged_with same_value entry
  alike e =
      let a = then_pass (first_failed Convergence id 1 (eqb (length (plant c id).log) (length (plant c reference).log) ∷ [])) _ e in
      let b = then_pass (first_answer compared 0 (length (plant c id).log)) _ a.1 in
      let long = eqb-true (length (plant c id).log) (length (plant c reference).log) (first_holds Convergence id 1 _ [] a.0).0 in
      let d = first_holds Convergence id 3 (eqb (plant c id).commit (length (plant c id).log))
      (same_value (get_or values id (pos 0)) (get_or values reference (pos 0)) ∷ []) b.1 in
      record {
        log = ext_get_or no_entry (plant c id).log (plant c reference).log long
            (λ i h. same_entries _ _ (test_holds Convergence id i 2 _ (first_pass compared 0 (length (plant c id).log) b.0 i (omega arith) (omega arith))));
        committed = eqb-true (plant c id).commit (length (plant c id).log) d.0;
        value = same_told (ℤ_discrete (get_or values id (pos 0)) (get_or values reference (pos 0))) (first_holds Convergence id 4 _ [] d.1).0;
      }

  passes : Alike c values reference id → converged_with c values reference id ≡ Ok tt
  unfolding converged_with same_value entry
  passes a =
      rw (
        eq-eqb (length (plant c id).log) (length (plant c reference).log) (ap length a.log),
        all_pass compared 0 (length (plant c id).log)
            (λ i b d. rw (entries_same (get_or (plant c id).log i no_entry) (get_or (plant c reference).log i no_entry)
            (ap (λ (l : List LogEntry). get_or l i no_entry) a.log))),
        eq-eqb (plant c id).commit (length (plant c id).log) a.committed,
        told_same (ℤ_discrete (get_or values id (pos 0)) (get_or values reference (pos 0))) a.value,
      )

-- all of the core
pub exactly : (c : Cluster) (values : List ℤ) (core : List ℕ)
    → (converged c values core ≡ Ok tt) ↔ ((k : ℕ) → k < length core → Alike c values (get_or core 0 0) (get_or core k 0))
unfolding converged
exactly c values core = (
  λ e k h. alike c values (get_or core 0 0) (get_or core k 0) (first_pass (λ k. converged_with c values (get_or core 0 0) (get_or core k 0)) 0 (length core) e
      k (omega arith) (omega arith)),
  λ a. all_pass (λ k. converged_with c values (get_or core 0 0) (get_or core k 0)) 0 (length core)
      (λ k l h. passes c values (get_or core 0 0) (get_or core k 0) (a k (omega arith))),
)

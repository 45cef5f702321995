-- Property 7, convergence, at the end only (RULES, "Properties"). Assumes nothing.
use Rattle.std.specs.Prelude.{Bool, true, false, List, [], ◌∷◌, ℕ, eqb, ℤ, pos, length, get_or, ⊤, Result}
use Rattle.std.proofs.Math.IntN.{ℤ_discrete}
use Rattle.properties_snapshots.specs.Cluster.{Cluster, same_entry, plant, entry}
use Rattle.properties_verdicts.specs.Verdicts.{and_then, first_answer, first_failed, at_entry}
use Rattle.properties_verdicts.specs.declared.Break.{Break}
use Rattle.properties_verdicts.specs.declared.Property.TheVariants.{Convergence}

-- two values are equal
abbrev pub is_yes : {A : Type 0} → Dec A → Bool
is_yes (yes e) = true
is_yes (no e) = false

unfoldable pub same_value : ℤ → ℤ → Bool
same_value a b = is_yes (ℤ_discrete a b)

-- the tests of the plant `id` against the first of the core: length, entries, commit = length, value
unfoldable pub converged_with : Cluster → List ℤ → ℕ → ℕ → Result ⊤ Break
converged_with c values reference id =
    and_then (first_failed Convergence id 1 (eqb (length (plant c id).log) (length (plant c reference).log) ∷ []))
    (and_then
    (first_answer (λ i. at_entry Convergence id i 2 (same_entry (entry c id i) (entry c reference i))) 0 (length (plant c id).log))
    (first_failed Convergence id 3
    (eqb (plant c id).commit (length (plant c id).log)
    ∷ same_value (get_or values id (pos 0)) (get_or values reference (pos 0))
    ∷ [])))

-- core plant by core plant, the first of them too
unfoldable pub converged : Cluster → List ℤ → List ℕ → Result ⊤ Break
converged c values core =
    first_answer (λ k. converged_with c values (get_or core 0 0) (get_or core k 0)) 0 (length core)

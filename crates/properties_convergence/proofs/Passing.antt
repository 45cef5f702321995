-- What is left of the core plants' answers at a place, as a loop passes them. Assumes nothing.
use native.Mathlib.Omega.{arith}
use mathlib.Core.List.{List}
use mathlib.Core.Path.{◌≡◌, sym}
use Prim.Native.Nat.{ℕ, ◌+◌, ◌-◌, ◌≤◌, ◌<◌}
use lib.IntN.{ℤ}
use lib.ListN.{length, get_or}
use Rattle.std.specs.Prelude.{⊤, Result, Ok, Err}
use Rattle.properties_snapshots.specs.Cluster.{Cluster}
use Rattle.properties_verdicts.specs.Verdicts.{first_answer}
use Rattle.properties_verdicts.specs.declared.Break.{Break}
use Rattle.properties_verdicts.proofs.First.{first_on, first_stop, first_end}
use Rattle.properties_convergence.specs.Convergence.{converged_with, converged}

-- what the core plants from k on answer
unfoldable pub answer_from : Cluster → List ℤ → List ℕ → ℕ → Result ⊤ Break
answer_from c values core k = first_answer (λ k. converged_with c values (get_or core 0 0) (get_or core k 0)) k (length core - k)

module _ (c : Cluster) (values : List ℤ) (core : List ℕ) where
  pub from_the_first : answer_from c values core 0 ≡ converged c values core
  unfolding answer_from converged
  from_the_first = let z : length core - 0 ≡ length core = omega arith in rw z

  pub passes_one : (k : ℕ) → k < length core → converged_with c values (get_or core 0 0) (get_or core k 0) ≡ Ok tt
      → answer_from c values core (k + 1) ≡ answer_from c values core k
  unfolding answer_from
  passes_one k h e = sym (first_on (λ k. converged_with c values (get_or core 0 0) (get_or core k 0)) k (length core) h e)

  pub stops_there : (k : ℕ) (x : Break) → k < length core → converged_with c values (get_or core 0 0) (get_or core k 0) ≡ Err x
      → answer_from c values core k ≡ Err x
  unfolding answer_from
  stops_there k x h e = first_stop (λ k. converged_with c values (get_or core 0 0) (get_or core k 0)) k (length core) x h e

  pub none_left : (k : ℕ) → length core ≤ k → answer_from c values core k ≡ Ok tt
  unfolding answer_from
  none_left k h = first_end (λ k. converged_with c values (get_or core 0 0) (get_or core k 0)) k (length core) h

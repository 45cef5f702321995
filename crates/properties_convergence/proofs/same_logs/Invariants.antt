use mathlib.Core.List.{List}
use mathlib.Core.Path.{◌≡◌}
use Prim.Native.Nat.{ℕ, ◌-◌}
use Rattle.std.specs.Prelude.{⊤, Result}
use Rattle.properties_snapshots.specs.Cluster.{same_entry, entry_in}
use Rattle.properties_snapshots.specs.Layout.{entry_at}
use Rattle.properties_verdicts.specs.Verdicts.{first_answer, at_entry}
use Rattle.properties_verdicts.specs.declared.Break.{Break}
use Rattle.properties_verdicts.specs.declared.Property.TheVariants.{Convergence}
use Rattle.properties_convergence.proofs.same_logs.Given as goal

-- an entry against the reference's
abbrev pub compared : List ℕ → ℕ → ℕ → ℕ → Result ⊤ Break
compared l reference id i = at_entry Convergence id i 2 (same_entry (entry_in l (entry_at id i)) (entry_in l (entry_at reference i)))

-- what the entries from i on answer is what all answer
abbrev pub invariant-loop-i : goal.invariant-loop-i
invariant-loop-i l = first_answer (compared l.snapshot.logs.now l.reference l.id) 0 l.size ≡ first_answer (compared l.snapshot.logs.now l.reference l.id) l.i (l.size - l.i)

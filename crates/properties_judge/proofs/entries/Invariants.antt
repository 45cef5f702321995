use mathlib.Core.Bool.{Bool}
use mathlib.Core.Path.{◌≡◌}
use Prim.Native.Nat.{ℕ, ◌-◌, ◌<◌}
use lib.ListN.{get_or}
use Rattle.std.specs.Prelude.{⊤, Result, None}
use Rattle.properties_snapshots.specs.Cluster.{Cluster}
use Rattle.properties_snapshots.specs.Layout.{commit_at}
use Rattle.properties_snapshots.specs.Snapshots.{cluster_at}
use Rattle.properties_verdicts.specs.Verdicts.{first_answer, at_entry, over_committed}
use Rattle.properties_verdicts.specs.declared.Break.{Break}
use Rattle.properties_verdicts.specs.declared.Property.{Property}
use Rattle.properties_judge.specs.Ticks.{over_each}
use Rattle.properties_judge.proofs.entries.Given as goal

-- an entry's answer, and a plant's
abbrev pub at : Property → (ℕ → ℕ → Bool) → ℕ → ℕ → Result ⊤ Break
at property f r i = at_entry property r i 1 (f r i)

abbrev pub of_plant : Property → (ℕ → ℕ → Bool) → Cluster → ℕ → Result ⊤ Break
of_plant property f c r = over_committed c r (at property f r)

-- nothing broken so far, and what the entries from i on answer is what all of the plant's newly committed ones answer
abbrev pub invariant-loop-i : goal.invariant-loop-i
invariant-loop-i g l = (l.broken ≡ None)
    × ((f : ℕ → ℕ → Bool)
    → ((r i : ℕ) (b : Bool) → r < l.advance.snapshot.n → i < get_or l.advance.snapshot.plants.now (commit_at r) 0 → goal.F-post g l.holds r i b → b ≡ f r i)
    → of_plant l.property f (cluster_at l.advance) l.r ≡ first_answer (at l.property f l.r) l.i (l.commit - l.i))

-- and what the plants from r on answer is what all answer
abbrev pub invariant-plants : goal.invariant-plants
invariant-plants g l = (l.broken ≡ None)
    × ((f : ℕ → ℕ → Bool)
    → ((r i : ℕ) (b : Bool) → r < l.advance.snapshot.n → i < get_or l.advance.snapshot.plants.now (commit_at r) 0 → goal.F-post g l.holds r i b → b ≡ f r i)
    → over_each l.property f (cluster_at l.advance) ≡ first_answer (of_plant l.property f (cluster_at l.advance)) l.r (l.advance.snapshot.n - l.r))

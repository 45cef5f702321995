-- What property 1 leaves known of the words. Assumes nothing.
use borrow.Author.Tests.{leb-true, eqb-true}
use native.Mathlib.Omega.{arith}
use mathlib.Core.Bool.{Bool, true, false, cond}
use mathlib.Core.List.{List}
use mathlib.Core.Path.{◌≡◌, refl}
use Prim.Native.Nat.{ℕ, ◌≤◌, ◌<◌}
use lib.Dec.{leb, eqb}
use lib.ListN.{length, get_or}
use Rattle.std.specs.Prelude.{Ok, Err}
use Rattle.properties_snapshots.specs.Cluster.{plant, last, cluster_in}
use Rattle.properties_snapshots.specs.Layout.{commit_at, op_at, size_at, last_at}
use Rattle.properties_snapshots.specs.Shape.{Forward}
use Rattle.properties_snapshots.proofs.Held.{commit_held, op_held, size_held, last_held}
use Rattle.properties_verdicts.proofs.First.{no_pass, first_pass}
use Rattle.properties_verdicts.specs.Verdicts.{broken}
use Rattle.properties_verdicts.specs.declared.Property.TheVariants.{CommitNumber}
use Rattle.properties_commits.specs.Commits.{commit_tests, commit_numbers}

abbrev pass : Unit {0}
pass = tt

-- property 1 of a plant that passes
passed : (r commit op size was : ℕ) → commit_tests r commit op size was ≡ Ok tt → (op ≡ size) × (commit ≤ op) × (was ≤ commit)
unfolding commit_tests
passed r commit op size was e = go (eqb op size) (leb commit op) (leb was commit) refl refl refl e
  where
    go : (a b c : Bool) → eqb op size ≡ a → leb commit op ≡ b → leb was commit ≡ c
        → cond a (cond b (cond c (Ok pass) (Err (broken CommitNumber r 0 3))) (Err (broken CommitNumber r 0 2))) (Err (broken CommitNumber r 0 1)) ≡ Ok pass
        → (op ≡ size) × (commit ≤ op) × (was ≤ commit)
    go true true true x y z e = (eqb-true op size x, leb-true commit op y, leb-true was commit z)
    go true true false x y z e = absurd (no_pass (broken CommitNumber r 0 3) e)
    go true false c x y z e = absurd (no_pass (broken CommitNumber r 0 2) e)
    go false b c x y z e = absurd (no_pass (broken CommitNumber r 0 1) e)

pub forward_known : (n : ℕ) (p l t : List ℕ) → commit_numbers (cluster_in n p l t) ≡ Ok tt → Forward n p t
unfolding commit_numbers
forward_known n p l t e =
    record { within = λ r h. omega (arith, known r h); onward = λ r h. (known r h).2 }
  where
    known : (r : ℕ) → r < n
        → (get_or p (op_at r) 0 ≡ get_or p (size_at r) 0) × (get_or p (commit_at r) 0 ≤ get_or p (op_at r) 0) × (get_or t (last_at r) 0 ≤ get_or p (commit_at r) 0)
    known r h =
        passed r (get_or p (commit_at r) 0) (get_or p (op_at r) 0) (get_or p (size_at r) 0) (get_or t (last_at r) 0)
        (rw (← commit_held n p l t r h, ← op_held n p l t r h, ← size_held n p l t r h, ← last_held n p l t r h)
        (first_pass (λ r. commit_tests r (plant (cluster_in n p l t) r).commit (plant (cluster_in n p l t) r).op
        (length (plant (cluster_in n p l t) r).log) (last (cluster_in n p l t) r))
        0 n e r (omega arith) (omega arith)))

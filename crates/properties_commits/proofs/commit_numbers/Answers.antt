-- `properties_commits::commit_numbers` meets its contract. The loop's invariant: what the plants from r on answer is what all answer. Assumes nothing.
use mathlib.Core.List.{List}
use mathlib.Core.Path.{◌≡◌, sym, ◌∙◌}
use Prim.Native.Nat.{ℕ, ◌-◌, ◌≤◌, ◌<◌}
use lib.ListN.{get_or}
use Rattle.std.specs.Prelude.{Ok, Err}
use Rattle.std.proofs.lemmas.Result.{err_from_is_err_and}
use Rattle.properties_snapshots.specs.Cluster.{cluster_in}
use Rattle.properties_snapshots.specs.Layout.{commit_at, op_at, size_at, last_at}
use Rattle.properties_snapshots.proofs.Held.{commit_held, op_held, size_held, last_held}
use Rattle.properties_verdicts.specs.declared.Break.{Break}
use Rattle.properties_verdicts.specs.Verdicts.{first_answer}
use Rattle.properties_verdicts.proofs.First.{first_on, first_stop, first_end}
use Rattle.properties_commits.specs.Commits.{commit_tests, commit_numbers}
use Rattle.properties_commits.proofs.commit_numbers.Invariants.{tests}
use Rattle.properties_commits.proofs.commit_numbers.Goals as goal

module _ (n : ℕ) (p l t : List ℕ) (r : ℕ) (h : r < n) where
  in_words : (commit op size was : ℕ) → commit ≡ get_or p (commit_at r) 0 → op ≡ get_or p (op_at r) 0 → size ≡ get_or p (size_at r) 0
      → was ≡ get_or t (last_at r) 0 → tests n p l t r ≡ commit_tests r commit op size was
  in_words commit op size was c o s w =
      rw (commit_held n p l t r h, op_held n p l t r h, size_held n p l t r h, last_held n p l t r h, c, o, s, w)

-- what the plants from r on answer, when the loop leaves
stopped : (n : ℕ) (p l t : List ℕ) (r : ℕ) (x : Break) → r < n → tests n p l t r ≡ Err x
    → first_answer (tests n p l t) 0 n ≡ first_answer (tests n p l t) r (n - r) → Err x ≡ commit_numbers (cluster_in n p l t)
unfolding commit_numbers
stopped n p l t r x h e i = sym (i ∙ first_stop (tests n p l t) r n x h e)

passed : (n : ℕ) (p l t : List ℕ) (r : ℕ) → n ≤ r → first_answer (tests n p l t) 0 n ≡ first_answer (tests n p l t) r (n - r)
    → Ok tt ≡ commit_numbers (cluster_in n p l t)
unfolding commit_numbers
passed n p l t r h i = sym (i ∙ first_end (tests n p l t) r n h)

pub returns-in_err-commit_number : goal.returns-in_err-commit_number
returns-in_err-commit_number c = λ l.
    let a = c.args in
    let i = c.loop-r in
    let p = err_from_is_err_and c.from_residual.result c.from_residual.ensures.1 in
    rw (p.1, p.2)
    (stopped a.n a.plants.now l a.tracker.now i.r c.in_err-commit_number.field-0.0 c.loop-r-test.true
    (in_words a.n a.plants.now l a.tracker.now i.r c.loop-r-test.true _ _ _ _ c.commit_of-commit.ensures c.op_of-op.ensures
    c.size_of-size.ensures c.last_of-last.ensures
    ∙ sym c.in_err-commit_number.ensures)
    (i.invariant l))

pub loop-r-preserved : goal.loop-r-preserved
loop-r-preserved c = λ l.
    let a = c.args in
    let i = c.loop-r in
    i.invariant l
    ∙ first_on (tests a.n a.plants.now l a.tracker.now) i.r a.n c.loop-r-test.true
    (in_words a.n a.plants.now l a.tracker.now i.r c.loop-r-test.true _ _ _ _ c.commit_of-commit.ensures c.op_of-op.ensures
    c.size_of-size.ensures c.last_of-last.ensures
    ∙ sym c.in_ok-commit_number.ensures)

pub returns : goal.returns
returns c = λ l. passed c.args.n c.args.plants.now l c.args.tracker.now c.loop-r.r c.loop-r-test.false (c.loop-r.invariant l)

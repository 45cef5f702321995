-- `properties_convergence::converged_with` meets its contract: each answer is a test of the definition, in its order. Assumes nothing.
use borrow.Author.Rules.{rules}
use borrow.Author.Tests.{eq-eqb, ne_eqb}
use native.Mathlib.Omega.{arith}
use mathlib.Core.Bool.{Bool, true, false}
use mathlib.Core.List.{List, [], ◌∷◌}
use mathlib.Core.Path.{◌≡◌, sym, ap, ◌∙◌}
use Prim.Native.Nat.{ℕ, ◌<◌}
use lib.Dec.{eqb}
use mir.Facts.{to_z-of_z}
use mir.Syntax.{w64}
use mir.Val.{SFits, to_z, of_z}
use lib.IntN.{ℤ, pos}
use lib.ListN.{get_or}
use Rattle.properties_snapshots.specs.Cluster.{same_entry, entry, entry_in, cluster_in}
use Rattle.properties_snapshots.specs.Layout.{commit_at, size_at, entry_at}
use Rattle.properties_snapshots.proofs.Held.{commit_held, size_held, entry_held}
use Rattle.std.specs.Prelude.{⊤, Result, Ok, Err}
use Rattle.std.proofs.lemmas.Result.{err_from_is_err_and}
use Rattle.properties_verdicts.specs.Verdicts.{broken, first_answer, first_failed, at_entry}
use Rattle.properties_verdicts.proofs.First.{first_same}
use Rattle.properties_convergence.specs.Convergence.{same_value, converged_with}
use Rattle.properties_verdicts.specs.declared.Break.{Break}
use Rattle.properties_verdicts.specs.declared.Property.TheVariants.{Convergence}
use Rattle.properties_convergence.proofs.converged_with.Goals as goal

-- a value that was read and handed on is the value
as_read : (v w : ℤ) (b : Bool) → SFits w64 v → SFits w64 w → b ≡ same_value (to_z w64 (of_z w64 v)) (to_z w64 (of_z w64 w)) → same_value v w ≡ b
as_read v w b f g e = sym (e ∙ rw (to_z-of_z f, to_z-of_z g))

-- the comparison of the entries, in words
abbrev in_words : List ℕ → ℕ → ℕ → ℕ → Result ⊤ Break
in_words l reference id i = at_entry Convergence id i 2 (same_entry (entry_in l (entry_at id i)) (entry_in l (entry_at reference i)))

module _ (n : ℕ) (p l t : List ℕ) (values : List ℤ) (reference id : ℕ) (f : reference < n) (h : id < n) where
  abbrev answer : Result ⊤ Break
  answer = converged_with (cluster_in n p l t) values reference id

  other_length : (get_or p (size_at id) 0 ≡ get_or p (size_at reference) 0 → ⊥) → Err (broken Convergence id 0 1) ≡ answer
  unfolding converged_with
  other_length e = rw (size_held n p l t id h, size_held n p l t reference f, ne_eqb (get_or p (size_at id) 0) (get_or p (size_at reference) 0) e)

  module _ (e : get_or p (size_at id) 0 ≡ get_or p (size_at reference) 0) where
    entries_held : first_answer (λ i. at_entry Convergence id i 2 (same_entry (entry (cluster_in n p l t) id i) (entry (cluster_in n p l t) reference i))) 0
        (get_or p (size_at id) 0)
        ≡ first_answer (in_words l reference id) 0 (get_or p (size_at id) 0)
    entries_held =
        first_same (λ i. at_entry Convergence id i 2 (same_entry (entry (cluster_in n p l t) id i) (entry (cluster_in n p l t) reference i)))
        (in_words l reference id) 0 (get_or p (size_at id) 0)
        (λ i a b. rw (entry_held n p l t id h i (omega arith), entry_held n p l t reference f i (omega arith)))

    other_entry : (x : Break) → first_answer (in_words l reference id) 0 (get_or p (size_at id) 0) ≡ Err x → Err x ≡ answer
    unfolding converged_with
    other_entry x g =
        rw (size_held n p l t id h, size_held n p l t reference f, eq-eqb (get_or p (size_at id) 0) (get_or p (size_at reference) 0) e, entries_held, g)

    the_rest : first_answer (in_words l reference id) 0 (get_or p (size_at id) 0) ≡ Ok tt
        → first_failed Convergence id 3 (eqb (get_or p (commit_at id) 0) (get_or p (size_at id) 0) ∷ same_value (get_or values id (pos 0))
        (get_or values reference (pos 0)) ∷ []) ≡ answer
    unfolding converged_with
    the_rest g =
        rw (
          size_held n p l t id h,
          size_held n p l t reference f,
          eq-eqb (get_or p (size_at id) 0) (get_or p (size_at reference) 0) e,
          entries_held,
          g,
          commit_held n p l t id h,
        )

    module _ (g : first_answer (in_words l reference id) 0 (get_or p (size_at id) 0) ≡ Ok tt) where
      uncommitted : (get_or p (commit_at id) 0 ≡ get_or p (size_at id) 0 → ⊥) → Err (broken Convergence id 0 3) ≡ answer
      uncommitted k = rw (ne_eqb (get_or p (commit_at id) 0) (get_or p (size_at id) 0) k) at (the_rest g)

      module _ (k : get_or p (commit_at id) 0 ≡ get_or p (size_at id) 0) where
        other_value : same_value (get_or values id (pos 0)) (get_or values reference (pos 0)) ≡ false → Err (broken Convergence id 0 4) ≡ answer
        other_value v = rw (eq-eqb (get_or p (commit_at id) 0) (get_or p (size_at id) 0) k, v) at (the_rest g)

        all_equal : same_value (get_or values id (pos 0)) (get_or values reference (pos 0)) ≡ true → Ok tt ≡ answer
        all_equal v = rw (eq-eqb (get_or p (commit_at id) 0) (get_or p (size_at id) 0) k, v) at (the_rest g)

pub returns-then-size-size_of : goal.returns-then-size-size_of
returns-then-size-size_of c = let a = c.args in
    let s = a.snapshot.now in
    let pre = c.requires in
    λ t. ap Err c.broken.ensures ∙ other_length s.n s.plants.now s.logs.now t a.values.now a.reference a.id pre.1
    pre.2 (λ e. c.if-size-size_of.true (c.size_of-size.ensures.length ∙ (e ∙ sym c.size_of.ensures.length)))

pub returns-in_err-same_logs : goal.returns-in_err-same_logs
returns-in_err-same_logs c = let a = c.args in
    let s = a.snapshot.now in
    let pre = c.requires in
    let size = c.size_of-size.ensures.length in
    let p = err_from_is_err_and c.from_residual.result c.from_residual.ensures.1 in
    λ t. rw (p.1, p.2) (other_entry s.n s.plants.now s.logs.now t a.values.now a.reference a.id pre.1 pre.2
    (sym size ∙ (c.if-size-size_of.false ∙ c.size_of.ensures.length)) c.in_err-same_logs.field-0.0
    (sym (c.in_err-same_logs.ensures ∙ ap (first_answer (in_words s.logs.now a.reference a.id) 0) size)))

pub returns-then-commit_of-size : goal.returns-then-commit_of-size
returns-then-commit_of-size c = let a = c.args in
    let s = a.snapshot.now in
    let pre = c.requires in
    let size = c.size_of-size.ensures.length in
    λ t. ap Err c.broken-then-commit_of-size.ensures ∙ uncommitted s.n s.plants.now s.logs.now t a.values.now a.reference a.id pre.1
    pre.2 (sym size ∙ (c.if-size-size_of.false ∙ c.size_of.ensures.length))
    (sym (c.in_ok-same_logs.ensures ∙ ap (first_answer (in_words s.logs.now a.reference a.id) 0) size))
    (λ e. c.if-commit_of-size.true (c.commit_of.ensures ∙ (e ∙ sym size)))

pub returns-then-not-same_value : goal.returns-then-not-same_value
returns-then-not-same_value c = let a = c.args in
    let s = a.snapshot.now in
    let pre = c.requires in
    let size = c.size_of-size.ensures.length in
    λ t. ap Err c.broken-then-not-same_value.ensures ∙ other_value s.n s.plants.now s.logs.now t a.values.now a.reference a.id pre.1
    pre.2 (sym size ∙ (c.if-size-size_of.false ∙ c.size_of.ensures.length))
    (sym (c.in_ok-same_logs.ensures ∙ ap (first_answer (in_words s.logs.now a.reference a.id) 0) size))
    (sym c.commit_of.ensures ∙ (c.if-commit_of-size.false ∙ size))
    (as_read (get_or a.values.now a.id (pos 0)) (get_or a.values.now a.reference (pos 0)) c.same_value.result
    (search rules) (search rules) c.same_value.ensures ∙ c.if-not-same_value.true)

pub returns : goal.returns
returns c = let a = c.args in
    let s = a.snapshot.now in
    let pre = c.requires in
    let size = c.size_of-size.ensures.length in
    λ t. all_equal s.n s.plants.now s.logs.now t a.values.now a.reference a.id pre.1
    pre.2 (sym size ∙ (c.if-size-size_of.false ∙ c.size_of.ensures.length))
    (sym (c.in_ok-same_logs.ensures ∙ ap (first_answer (in_words s.logs.now a.reference a.id) 0) size))
    (sym c.commit_of.ensures ∙ (c.if-commit_of-size.false ∙ size))
    (as_read (get_or a.values.now a.id (pos 0)) (get_or a.values.now a.reference (pos 0)) c.same_value.result
    (search rules) (search rules) c.same_value.ensures ∙ c.if-not-same_value.false)

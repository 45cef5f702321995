-- `network_form::Head::counts_good` meets its contract: what a failed clause says is none of what the counters of a good head say, and a
-- sum is taken only when its parts are known to be small. Assumes nothing.
use mathlib.Core.Path.{◌≡◌, refl, sym, ◌∙◌}
use mathlib.Core.Bool.{Bool, true, false}
use Prim.Native.Nat.{◌+◌}
use native.Mathlib.Omega.{arith}
use borrow.Author.Tests.{eq-eqb, ne_eqb, eqb-true}
use Rattle.nights.proofs.Kept.{Counts, counts}
use Rattle.network_form.specs.declared.Head.{Head}
use Rattle.network_form.specs.Forms.{counts_good}
use Rattle.network_form.proofs.Clauses.{delays_told}
use Rattle.network_form.proofs.Head.counts_good.Goals as goal
use Rattle.network_form.proofs.Head.counts_good.Goals.{then-made-self-2, else-made-self-2}

abbrev Good : Head → Type 0
Good h = Counts h.pending h.seq h.sent h.delivered h.lost h.replayed h.delayed

good : (h : Head) → counts_good h ≡ true → Good h
good h e = counts h.pending h.seq h.sent h.delivered h.lost h.replayed h.delayed e

refuted : (h : Head) → (Good h → ⊥) → false ≡ counts_good h
refuted h f = go (counts_good h) (λ e. f (good h e))
  where
    go : (b : Bool) → (b ≡ true → ⊥) → false ≡ b
    go false g = refl
    go true g = absurd (g refl)

pub returns-then-self-gt-CAPACITY : goal.returns-then-self-gt-CAPACITY
returns-then-self-gt-CAPACITY c = refuted c.args.self (λ n. omega (arith, n.small, n.few, c.then-self-gt-CAPACITY.either))

pub returns-then-self : goal.returns-then-self
returns-then-self c = refuted c.args.self (λ n. omega (arith, n.lost, n.replayed, c.then-self.either))

pub returns-then-made-self : goal.returns-then-made-self
returns-then-made-self c = refuted c.args.self (λ n. omega (arith, n.even, c.if-made-self.true))

pub returns-then-self-held : goal.returns-then-self-held
returns-then-self-held c =
    let a = c.args.self in
    elim c.if-made-self-2.branch [
      | then-made-self-2 w ↦
          delays_told a.pending a.seq a.sent a.delivered a.lost a.replayed a.delayed (omega arith) (omega arith) (omega arith) (omega arith) w.if-made-self-2.true
          (eqb-true a.seq (a.delivered + a.pending) (sym w.value-is ∙ c.if-self-held.true))
      | else-made-self-2 w ↦ let z : false ≡ true = sym (ne_eqb _ _ w.if-made-self-2.false) ∙ (sym w.value-is ∙ c.if-self-held.true) in absurd cc
    ]

pub returns-else-self-held : goal.returns-else-self-held
returns-else-self-held c =
    let a = c.args.self in
    c.if-self-held.false ∙ elim c.if-made-self-2.branch [
      | then-made-self-2 w ↦ refuted a (λ n.
          let z : true ≡ false = sym (eq-eqb a.seq (a.delivered + a.pending) n.numbered) ∙ (sym w.value-is ∙ c.if-self-held.false) in
          absurd cc)
      | else-made-self-2 w ↦ refuted a (λ n. omega (arith, n.even, w.if-made-self-2.false))
    ]

-- `properties_convergence::same_logs` meets its contract. The loop's invariant: what the entries from i on answer is what all answer. Assumes nothing.
use mathlib.Core.Path.{sym, ap, ◌∙◌}
use Rattle.properties_verdicts.proofs.First.{first_on, first_stop, first_end}
use Rattle.properties_verdicts.specs.Verdicts.{broken}
use Rattle.properties_verdicts.specs.declared.Property.TheVariants.{Convergence}
use Rattle.properties_convergence.proofs.same_logs.Invariants.{compared}
use Rattle.std.specs.Prelude.{Err}
use Rattle.properties_convergence.proofs.same_logs.Goals as goal

pub returns-then-not-same_logged : goal.returns-then-not-same_logged
returns-then-not-same_logged c = let a = c.args in
    let l = c.loop-i in
    ap Err c.broken.ensures
    ∙ sym (l.invariant ∙ first_stop (compared a.snapshot.now.logs.now a.reference a.id) l.i a.size (broken Convergence a.id l.i 2)
    c.loop-i-test.true
    (rw (sym c.same_logged.ensures ∙ c.if-not-same_logged.true)))

pub loop-i-preserved : goal.loop-i-preserved
loop-i-preserved c = let a = c.args in
    let l = c.loop-i in
    l.invariant ∙ first_on (compared a.snapshot.now.logs.now a.reference a.id) l.i a.size c.loop-i-test.true
    (rw (sym c.same_logged.ensures ∙ c.if-not-same_logged.false))

pub returns : goal.returns
returns c = let a = c.args in
    let l = c.loop-i in
    sym (l.invariant ∙ first_end (compared a.snapshot.now.logs.now a.reference a.id) l.i a.size c.loop-i-test.false)

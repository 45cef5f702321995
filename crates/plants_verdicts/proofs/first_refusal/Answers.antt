-- `plants_verdicts::first_refusal` meets its contract: a record that is passed was not refused, so what is left decides. Assumes nothing.
use Rattle.std.proofs.Common.{◌≡◌, sym, ap, ◌∙◌, Err, rules}
use Rattle.plants_verdicts.specs.Calls.{answer_on, refused_number}
use Rattle.plants_verdicts.proofs.Each.{goes_on, stops, none_left}
use Rattle.plants_verdicts.proofs.States.{refused, same_number}
use Rattle.plants_verdicts.proofs.first_refusal.Goals as goal

pub returns-in_err-answer_on : goal.returns-in_err-answer_on
returns-in_err-answer_on c =
    let a = c.args in
    let l = c.loop-i in
    let r = c.in_err-answer_on.field-0.0 in
    let e : c.from_residual.result ≡ Err r = search rules in
    let f = c.answer_on.ensures in
    ap refused_number (e ∙ sym c.in_err-answer_on.was)
    ∙ (f
    ∙ sym
    (l.invariant
    ∙ stops (answer_on a.words.now) a.records.now a.count _ l.i c.loop-i-test.true (λ z. refused r (sym (ap refused_number c.in_err-answer_on.was) ∙ (f ∙ z)))))

pub loop-i-preserved : goal.loop-i-preserved
loop-i-preserved c =
    let a = c.args in
    let l = c.loop-i in
    l.invariant
    ∙ goes_on (answer_on a.words.now) a.records.now a.count _ l.i c.loop-i-test.true (sym c.answer_on.ensures ∙ ap refused_number c.in_ok-answer_on.was)

pub returns : goal.returns
returns c =
    let a = c.args in
    let l = c.loop-i in
    same_number a.state c.map_err.result (λ r k. search rules) (λ k. search rules)
    ∙ (c.requires.0 ∙ sym (l.invariant ∙ none_left (answer_on a.words.now) a.records.now a.count _ l.i c.loop-i-test.false))

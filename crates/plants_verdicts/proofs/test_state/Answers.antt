-- `plants_verdicts::test_state` meets its contract: the words' shape, and then the form of their state. Assumes nothing.
use Rattle.std.proofs.Common.{◌≡◌, sym, ap, ◌∙◌, get_or, Err, rules}
use Rattle.basis.proofs.Laws.{between}
use Rattle.plants.specs.Refusals.{answer_number}
use Rattle.plants_layout.specs.Layout.{shaped}
use Rattle.plants_words.proofs.Answering.{refuses}
use Rattle.plants_verdicts.specs.Calls.{state_answer}
use Rattle.plants_verdicts.proofs.States.{counted, ill_formed, well_formed_lem}
use Rattle.plants_verdicts.proofs.test_state.Goals as goal

pub returns-in_err-shape : goal.returns-in_err-shape
unfolding state_answer
returns-in_err-shape c =
    let r = c.in_err-shape.field-0.0 in
    let e : c.from_residual.result ≡ Err r = search rules in
    refuses c.from_residual.result r e (shaped c.args.words.now) _ (ap answer_number (e ∙ sym c.in_err-shape.was) ∙ c.shape.ensures.number)

pub is_formed-requires : goal.is_formed-requires
is_formed-requires c =
    let w = c.args.words.now in
    (between (get_or w 0 0) (counted w (sym c.shape.ensures.number ∙ ap answer_number c.in_ok-shape.was))).1

pub returns-then-not-is_formed : goal.returns-then-not-is_formed
returns-then-not-is_formed c =
    ill_formed c.args.words.now (sym c.shape.ensures.number ∙ ap answer_number c.in_ok-shape.was) (sym c.is_formed.ensures ∙ c.if-not-is_formed.true)

pub returns : goal.returns
returns c =
    well_formed_lem c.args.words.now (sym c.shape.ensures.number ∙ ap answer_number c.in_ok-shape.was) (sym c.is_formed.ensures ∙ c.if-not-is_formed.false)

-- `plants_words::verdict_known` meets its contract: the words' shape first, and then the verdict. Assumes nothing.
use Rattle.std.proofs.Common.{◌≡◌, sym, ap, ◌∙◌, refl, [], ◌∷◌, Err, rules}
use Rattle.plants.specs.Refusals.{answer_number}
use Rattle.plants.specs.Verdicts.{verdict_given}
use Rattle.plants_layout.specs.Layout.{shaped}
use Rattle.plants_words.specs.Calls.{judged_number, judged_word}
use Rattle.plants_words.proofs.Answering.{changed, refuses, stays, follows}
use Rattle.plants_words.proofs.verdict_known.Goals as goal

pub returns-in_err-shape-clause-answer : goal.returns-in_err-shape-clause-answer
returns-in_err-shape-clause-answer c =
    let r = c.in_err-shape.field-0.0 in
    let e : c.from_residual.result ≡ Err r = search rules in
    refuses c.from_residual.result r e (shaped c.args.words.now) _ (ap answer_number (e ∙ sym c.in_err-shape.was) ∙ c.shape.ensures.number)

pub returns-in_err-shape-clause-told : goal.returns-in_err-shape-clause-told
returns-in_err-shape-clause-told c = stays c.from_residual.result c.in_err-shape.field-0.0 (search rules) _ _

pub returns-in_err-verdict-clause-answer : goal.returns-in_err-verdict-clause-answer
returns-in_err-verdict-clause-answer c =
    let r = c.in_err-verdict.field-0.0 in
    let e : c.from_residual-in_err-verdict.result ≡ Err r = search rules in
    follows (shaped c.args.words.now) _ _ (sym (ap answer_number c.in_ok-shape.was) ∙ c.shape.ensures.number)
    (ap answer_number e ∙ ap judged_number (sym c.in_err-verdict.was ∙ (c.verdict.ensures ∙ ap (λ s. verdict_given s c.args.from c.args.to) c.load.ensures)))

pub returns-in_err-verdict-clause-told : goal.returns-in_err-verdict-clause-told
returns-in_err-verdict-clause-told c = stays c.from_residual-in_err-verdict.result c.in_err-verdict.field-0.0 (search rules) _ _

pub returns-clause-answer : goal.returns-clause-answer
returns-clause-answer c =
    follows (shaped c.args.words.now) _ _ (sym (ap answer_number c.in_ok-shape.was) ∙ c.shape.ensures.number)
    (ap judged_number (sym c.in_ok-verdict.was ∙ (c.verdict.ensures ∙ ap (λ s. verdict_given s c.args.from c.args.to) c.load.ensures)))

pub returns-clause-told : goal.returns-clause-told
returns-clause-told c =
    ap (λ k. k ∷ []) c.number.ensures
    ∙ ap (λ x. judged_word x c.args.told.now) (sym c.in_ok-verdict.was ∙ (c.verdict.ensures ∙ ap (λ s. verdict_given s c.args.from c.args.to) c.load.ensures))
    ∙ changed 0 _ c.args.told.now refl

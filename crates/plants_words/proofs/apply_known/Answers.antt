-- `plants_words::apply_known` meets its contract: the words' shape first, and then the fault. Assumes nothing.
use Rattle.std.proofs.Common.{◌≡◌, refl, sym, ap, ◌∙◌, Ok, Err, rules}
use Rattle.plants.specs.Refusals.{answer_number}
use Rattle.plants.specs.State.{Next}
use Rattle.plants.specs.Faults.{applied}
use Rattle.plants_layout.specs.Layout.{state_words, shaped}
use Rattle.plants_words.specs.Calls.{outcome_number, drawn}
use Rattle.plants_words.proofs.Answering.{changed, refuses, stays, follows, none_is}
use Rattle.plants_words.proofs.apply_known.Goals as goal

pub returns-in_err-shape-clause-answer : goal.returns-in_err-shape-clause-answer
returns-in_err-shape-clause-answer c =
    let r = c.in_err-shape.field-0.0 in
    let e : c.from_residual.result ≡ Err r = search rules in
    refuses c.from_residual.result r e (shaped c.args.words.now) _ (ap answer_number (e ∙ sym c.in_err-shape.was) ∙ c.shape.ensures.number)

pub returns-in_err-shape-clause-words : goal.returns-in_err-shape-clause-words
returns-in_err-shape-clause-words c = stays c.from_residual.result c.in_err-shape.field-0.0 (search rules) _ _

pub returns-in_err-shape-clause-nonce : goal.returns-in_err-shape-clause-nonce
returns-in_err-shape-clause-nonce c = stays c.from_residual.result c.in_err-shape.field-0.0 (search rules) _ _

pub returns-in_err-drawn-clause-answer : goal.returns-in_err-drawn-clause-answer
returns-in_err-drawn-clause-answer c =
    let a = c.args in
    let e : c.from_residual-in_err-drawn.result ≡ Err c.in_err-drawn.field-0.0 = search rules in
    follows (shaped a.words.now) _ _ (sym (ap answer_number c.in_ok-shape.was) ∙ c.shape.ensures.number)
    (ap answer_number e ∙ (ap outcome_number (sym c.in_err-drawn.was) ∙ ap (λ (x : Next). outcome_number x.answer) (c.apply-next.ensures ∙ ap (λ s. applied s a.tick a.fault a.draws.now) c.load.ensures)))

pub returns-in_err-drawn-clause-words : goal.returns-in_err-drawn-clause-words
returns-in_err-drawn-clause-words c = stays c.from_residual-in_err-drawn.result c.in_err-drawn.field-0.0 (search rules) _ _

pub returns-in_err-drawn-clause-nonce : goal.returns-in_err-drawn-clause-nonce
returns-in_err-drawn-clause-nonce c = stays c.from_residual-in_err-drawn.result c.in_err-drawn.field-0.0 (search rules) _ _

pub returns-in-Some-clause-answer : goal.returns-in-Some-clause-answer
returns-in-Some-clause-answer c =
    let a = c.args in
    follows (shaped a.words.now) _ _ (sym (ap answer_number c.in_ok-shape.was) ∙ c.shape.ensures.number)
    (ap outcome_number (sym c.in_ok-drawn.was) ∙ ap (λ (x : Next). outcome_number x.answer) (c.apply-next.ensures ∙ ap (λ s. applied s a.tick a.fault a.draws.now) c.load.ensures))

pub returns-in-Some-clause-words : goal.returns-in-Some-clause-words
returns-in-Some-clause-words c =
    let a = c.args in
    c.store.ensures
    ∙ (ap (λ (x : Next). state_words x.state) (c.apply-next.ensures ∙ ap (λ s. applied s a.tick a.fault a.draws.now) c.load.ensures) ∙ changed 0 _ a.words.now refl)

pub returns-in-Some-clause-nonce : goal.returns-in-Some-clause-nonce
returns-in-Some-clause-nonce c =
    let a = c.args in
    ap (λ x. drawn x a.nonce.now) (sym (c.in_ok-drawn.was ∙ ap Ok (c.in-Some.is)))
    ∙ (ap (λ (x : Next). drawn x.answer a.nonce.now) (c.apply-next.ensures ∙ ap (λ s. applied s a.tick a.fault a.draws.now) c.load.ensures) ∙ changed 0 _ a.nonce.now refl)

pub returns-in_default-clause-answer : goal.returns-in_default-clause-answer
returns-in_default-clause-answer c =
    let a = c.args in
    follows (shaped a.words.now) _ _ (sym (ap answer_number c.in_ok-shape.was) ∙ c.shape.ensures.number)
    (ap outcome_number (sym c.in_ok-drawn.was) ∙ ap (λ (x : Next). outcome_number x.answer) (c.apply-next.ensures ∙ ap (λ s. applied s a.tick a.fault a.draws.now) c.load.ensures))

pub returns-in_default-clause-words : goal.returns-in_default-clause-words
returns-in_default-clause-words c =
    let a = c.args in
    c.store.ensures
    ∙ (ap (λ (x : Next). state_words x.state) (c.apply-next.ensures ∙ ap (λ s. applied s a.tick a.fault a.draws.now) c.load.ensures) ∙ changed 0 _ a.words.now refl)

pub returns-in_default-clause-nonce : goal.returns-in_default-clause-nonce
returns-in_default-clause-nonce c =
    let a = c.args in
    ap (λ x. drawn x a.nonce.now) (sym (c.in_ok-drawn.was ∙ ap Ok (none_is c.in_ok-drawn.drawn c.in_default.not-Some)))
    ∙ (ap (λ (x : Next). drawn x.answer a.nonce.now) (c.apply-next.ensures ∙ ap (λ s. applied s a.tick a.fault a.draws.now) c.load.ensures) ∙ changed 0 _ a.nonce.now refl)

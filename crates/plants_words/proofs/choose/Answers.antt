-- `plants_words::choose` meets its contract: the words' shape first, and then the choice. Assumes nothing.
use Rattle.std.proofs.Common.{◌≡◌, sym, ap, ◌∙◌, not, eqb, List, ℕ, Err, Result, rules}
use Rattle.plants.specs.Refusals.{answer_number}
use Rattle.plants.specs.declared.refusal.Refusal.{Refusal}
use Rattle.plants.specs.declared.Plants.{Plants}
use Rattle.plants_liveness.specs.Choice.{Chosen, chosen}
use Rattle.plants_layout.specs.Layout.{plants_in, state_words, shaped}
use Rattle.plants_words.specs.Calls.{on_zero, choice_number, chosen_of, core_answer, core_told_by}
use Rattle.plants_words.proofs.Answering.{changed, refuses, stays, follows}
use Rattle.plants_words.proofs.choose.Goals as goal

module _ (w recovering picks : List ℕ) (full : ℕ) where
  -- the words' refusal
  misshapen : (x : Result Unit Refusal) (r : Refusal) → x ≡ Err r → answer_number x ≡ shaped w → answer_number x ≡ core_answer w recovering picks full
  unfolding core_answer
  misshapen x r e f = refuses x r e (shaped w) _ f

  -- behind words of a state's shape the choice answers
  answered : (m : ℕ) → 0 ≡ shaped w → m ≡ choice_number (chosen_of w recovering picks full).answer → m ≡ core_answer w recovering picks full
  unfolding core_answer
  answered m e f = follows (shaped w) m _ e f

  -- a refusal changes no word
  untouched : (x : Result Unit Refusal) (r : Refusal) → x ≡ Err r → answer_number x ≡ core_answer w recovering picks full → (after before : List ℕ)
      → before ≡ on_zero (core_answer w recovering picks full) after before
  untouched x r e k after before = stays x r e after before ∙ ap (λ n. on_zero n after before) k

  -- the choice of the state that the words are
  is : (c : Chosen) (s : Plants) → s ≡ plants_in w → c ≡ chosen s recovering picks (not (eqb full 0)) → c ≡ chosen_of w recovering picks full
  is c s e f = f ∙ ap (λ x. chosen x recovering picks (not (eqb full 0))) e

pub returns-in_err-shape-clause-answer : goal.returns-in_err-shape-clause-answer
returns-in_err-shape-clause-answer c =
    let a = c.args in
    let r = c.in_err-shape.field-0.0 in
    let e : c.from_residual.result ≡ Err r = search rules in
    misshapen a.words.now a.recovering.now a.picks.now a.full c.from_residual.result r e (ap answer_number (e ∙ sym c.in_err-shape.was) ∙ c.shape.ensures.number)

pub returns-in_err-shape-clause-words : goal.returns-in_err-shape-clause-words
returns-in_err-shape-clause-words c =
    let a = c.args in
    let r = c.in_err-shape.field-0.0 in
    let e : c.from_residual.result ≡ Err r = search rules in
    untouched a.words.now a.recovering.now a.picks.now a.full c.from_residual.result r e
    (misshapen a.words.now a.recovering.now a.picks.now a.full c.from_residual.result r e (ap answer_number (e ∙ sym c.in_err-shape.was) ∙ c.shape.ensures.number))
    _ a.words.now

pub returns-in_err-shape-clause-told : goal.returns-in_err-shape-clause-told
returns-in_err-shape-clause-told c =
    let a = c.args in
    let r = c.in_err-shape.field-0.0 in
    let e : c.from_residual.result ≡ Err r = search rules in
    untouched a.words.now a.recovering.now a.picks.now a.full c.from_residual.result r e
    (misshapen a.words.now a.recovering.now a.picks.now a.full c.from_residual.result r e (ap answer_number (e ∙ sym c.in_err-shape.was) ∙ c.shape.ensures.number))
    _ a.told.now

pub returns-in_err-core-clause-answer : goal.returns-in_err-core-clause-answer
returns-in_err-core-clause-answer c =
    let a = c.args in
    let r = c.in_err-core.field-0.0 in
    let e : c.from_residual-in_err-core.result ≡ Err r = search rules in
    let q = is a.words.now a.recovering.now a.picks.now a.full c.choose_core-chosen.result c.load-state.result c.load-state.ensures c.choose_core-chosen.ensures in
    answered a.words.now a.recovering.now a.picks.now a.full _ (sym (ap answer_number c.in_ok-shape.was) ∙ c.shape.ensures.number)
    (ap answer_number e ∙ (ap choice_number (sym c.in_err-core.was) ∙ ap (λ (x : Chosen). choice_number x.answer) q))

pub returns-in_err-core-clause-words : goal.returns-in_err-core-clause-words
returns-in_err-core-clause-words c =
    let a = c.args in
    let r = c.in_err-core.field-0.0 in
    let e : c.from_residual-in_err-core.result ≡ Err r = search rules in
    let q = is a.words.now a.recovering.now a.picks.now a.full c.choose_core-chosen.result c.load-state.result c.load-state.ensures c.choose_core-chosen.ensures in
    untouched a.words.now a.recovering.now a.picks.now a.full c.from_residual-in_err-core.result r e
    (answered a.words.now a.recovering.now a.picks.now a.full _ (sym (ap answer_number c.in_ok-shape.was) ∙ c.shape.ensures.number)
    (ap answer_number e ∙ (ap choice_number (sym c.in_err-core.was) ∙ ap (λ (x : Chosen). choice_number x.answer) q)))
    _ a.words.now

pub returns-in_err-core-clause-told : goal.returns-in_err-core-clause-told
returns-in_err-core-clause-told c =
    let a = c.args in
    let r = c.in_err-core.field-0.0 in
    let e : c.from_residual-in_err-core.result ≡ Err r = search rules in
    let q = is a.words.now a.recovering.now a.picks.now a.full c.choose_core-chosen.result c.load-state.result c.load-state.ensures c.choose_core-chosen.ensures in
    untouched a.words.now a.recovering.now a.picks.now a.full c.from_residual-in_err-core.result r e
    (answered a.words.now a.recovering.now a.picks.now a.full _ (sym (ap answer_number c.in_ok-shape.was) ∙ c.shape.ensures.number)
    (ap answer_number e ∙ (ap choice_number (sym c.in_err-core.was) ∙ ap (λ (x : Chosen). choice_number x.answer) q)))
    _ a.told.now

pub returns-clause-answer : goal.returns-clause-answer
returns-clause-answer c =
    let a = c.args in
    let q = is a.words.now a.recovering.now a.picks.now a.full c.choose_core-chosen.result c.load-state.result c.load-state.ensures c.choose_core-chosen.ensures in
    answered a.words.now a.recovering.now a.picks.now a.full 0 (sym (ap answer_number c.in_ok-shape.was) ∙ c.shape.ensures.number)
    (ap choice_number (sym c.in_ok-core.was) ∙ ap (λ (x : Chosen). choice_number x.answer) q)

pub returns-clause-words : goal.returns-clause-words
returns-clause-words c =
    let a = c.args in
    let q = is a.words.now a.recovering.now a.picks.now a.full c.choose_core-chosen.result c.load-state.result c.load-state.ensures c.choose_core-chosen.ensures in
    c.store.ensures ∙ (ap (λ (x : Chosen). state_words x.state) q ∙ changed _ _ a.words.now (sym (answered a.words.now a.recovering.now a.picks.now a.full 0 (sym (ap answer_number c.in_ok-shape.was) ∙ c.shape.ensures.number)
    (ap choice_number (sym c.in_ok-core.was) ∙ ap (λ (x : Chosen). choice_number x.answer) q))))

pub returns-clause-told : goal.returns-clause-told
returns-clause-told c =
    let a = c.args in
    let q = is a.words.now a.recovering.now a.picks.now a.full c.choose_core-chosen.result c.load-state.result c.load-state.ensures c.choose_core-chosen.ensures in
    c.put_core.ensures
    ∙ (ap (λ x. core_told_by a.words.now a.recovering.now a.picks.now a.full x a.told.now) (sym c.in_ok-core.was ∙ ap (λ (x : Chosen). x.answer) q)
    ∙ changed _ _ a.told.now (sym (answered a.words.now a.recovering.now a.picks.now a.full 0 (sym (ap answer_number c.in_ok-shape.was) ∙ c.shape.ensures.number)
    (ap choice_number (sym c.in_ok-core.was) ∙ ap (λ (x : Chosen). choice_number x.answer) q))))

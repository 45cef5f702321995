-- `plants_words::new` meets its contract: the fresh state's words, or nothing. Assumes nothing.
use Rattle.std.proofs.Common.{◌≡◌, sym, ap, ◌∙◌, cond, is_ok, true, false}
use Rattle.plants_layout.specs.Layout.{state_words}
use Rattle.plants_words.specs.Calls.{on_zero, outcome_number, new_words}
use Rattle.plants_words.proofs.Answering.{by_ok}
use Rattle.plants_words.proofs.new.Goals as goal
use Rattle.plants_words.proofs.new.Goals.{then-is_ok, else-is_ok}

pub returns-clause-words : goal.returns-clause-words
returns-clause-words c =
    let w = c.args.words.now in
    let next = c.new-next.result in
    let made : cond (is_ok next.answer) (state_words next.state) w ≡ new_words c.args.n w =
    by_ok next.answer _ w ∙ ap (λ x. on_zero (outcome_number x.answer) (state_words x.state) w) c.new-next.ensures in
    elim c.if-is_ok.branch [
      | then-is_ok b ↦
          let t : is_ok next.answer ≡ true = sym c.is_ok.ensures.value ∙ b.if-is_ok.true in
          b.words-is ∙ (b.store.ensures ∙ (sym (ap (λ x. cond x (state_words next.state) w) t) ∙ made))
      | else-is_ok b ↦
          let t : is_ok next.answer ≡ false = sym c.is_ok.ensures.value ∙ b.if-is_ok.false in
          b.words-is ∙ (sym (ap (λ x. cond x (state_words next.state) w) t) ∙ made)
    ]

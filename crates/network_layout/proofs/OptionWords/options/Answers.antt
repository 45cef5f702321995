-- `network_layout::OptionWords::options` meets its contract: the first test that fails has its number, and words that pass are those of the
-- options. Assumes nothing.
use mathlib.Core.Path.{sym, ◌∙◌}
use Rattle.network_options.proofs.OptionForms.{loss_fails, replay_fails, delay_fails, all_pass}
use Rattle.network_layout.specs.Layout.{options_of}
use Rattle.network_layout.proofs.OptionWords.options.Goals as goal

pub returns-then-not-good_word-clause-answer : goal.returns-then-not-good_word-clause-answer
returns-then-not-good_word-clause-answer c = loss_fails (options_of c.args.self) (sym c.good_word.ensures ∙ c.if-not-good_word.true)

pub returns-then-not-good_word-2-clause-answer : goal.returns-then-not-good_word-2-clause-answer
returns-then-not-good_word-2-clause-answer c =
    replay_fails (options_of c.args.self) (sym c.good_word.ensures ∙ c.if-not-good_word.false) (sym c.good_word-2.ensures ∙ c.if-not-good_word-2.true)

pub returns-then-self-clause-answer : goal.returns-then-self-clause-answer
returns-then-self-clause-answer c =
    delay_fails (options_of c.args.self) (sym c.good_word.ensures ∙ c.if-not-good_word.false) (sym c.good_word-2.ensures ∙ c.if-not-good_word-2.false)
    c.if-self.true

pub returns-clause-answer : goal.returns-clause-answer
returns-clause-answer c =
    all_pass (options_of c.args.self) (sym c.good_word.ensures ∙ c.if-not-good_word.false) (sym c.good_word-2.ensures ∙ c.if-not-good_word-2.false)
    c.if-self.false

pub returns-clause-options : goal.returns-clause-options
returns-clause-options c = rw (c.of_word.ensures.1, c.of_word-2.ensures.1)

-- `network_options::NetworkOptions::validate` meets its contract: each test by comparison is the test of the word. Assumes nothing.
use mathlib.Core.Path.{sym, ◌∙◌}
use Rattle.network_options.specs.Options.{plain_options}
use Rattle.network_options.proofs.OptionForms.{good_word_is, loss_fails, replay_fails, delay_fails, all_pass}
use Rattle.network_options.proofs.NetworkOptions.validate.Goals as goal

pub returns-then-not-good : goal.returns-then-not-good
returns-then-not-good c = loss_fails (plain_options c.args.self) (good_word_is _ ∙ (sym c.good.ensures ∙ c.if-not-good.true))

pub returns-then-not-good-2 : goal.returns-then-not-good-2
returns-then-not-good-2 c =
    replay_fails (plain_options c.args.self) (good_word_is _ ∙ (sym c.good.ensures ∙ c.if-not-good.false))
    (good_word_is _ ∙ (sym c.good-2.ensures ∙ c.if-not-good-2.true))

pub returns-then-self : goal.returns-then-self
returns-then-self c =
    delay_fails (plain_options c.args.self) (good_word_is _ ∙ (sym c.good.ensures ∙ c.if-not-good.false))
    (good_word_is _ ∙ (sym c.good-2.ensures ∙ c.if-not-good-2.false)) c.if-self.true

pub returns : goal.returns
returns c =
    all_pass (plain_options c.args.self) (good_word_is _ ∙ (sym c.good.ensures ∙ c.if-not-good.false))
    (good_word_is _ ∙ (sym c.good-2.ensures ∙ c.if-not-good-2.false)) c.if-self.false

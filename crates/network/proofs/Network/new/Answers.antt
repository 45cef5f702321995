-- `network::Network::new` meets its contract: options that pass their tests are good, and so are the perfect ones. Assumes nothing.
use mathlib.Core.Path.{sym, ap, ◌∙◌}
use Rattle.nights.specs.Net.{fresh}
use Rattle.network_options.specs.declared.NetworkOptions.{NetworkOptions}
use Rattle.network_options.specs.Options.{plain_options}
use Rattle.network_options.proofs.OptionForms.{good_done, perfect_plain, perfect_good}
use Rattle.network.specs.Forms.{struct_of}
use Rattle.network.proofs.Choosing.{passed, failed, first_good, first_perfect}
use Rattle.network.proofs.Network.new.Goals as goal
use Rattle.network.proofs.Network.new.Goals.{then-is_ok, else-is_ok}

pub empty-requires : goal.empty-requires
empty-requires c = elim c.if-is_ok.branch [
  | then-is_ok w ↦
      rw w.first-is
      (good_done (plain_options c.args.options)
      (sym c.validate-answer.ensures ∙ passed c.validate-answer.result (sym c.is_ok.ensures.value ∙ w.if-is_ok.true)))
  | else-is_ok w ↦ rw (w.first-is, w.perfect-first.ensures, perfect_plain) perfect_good
]

pub returns-clause-network : goal.returns-clause-network
returns-clause-network c = c.empty.ensures ∙ elim c.if-is_ok.branch [
  | then-is_ok w ↦
      ap (λ (o : NetworkOptions). struct_of (fresh (plain_options o))) w.first-is
      ∙ first_good (plain_options c.args.options)
      (sym c.validate-answer.ensures ∙ passed c.validate-answer.result (sym c.is_ok.ensures.value ∙ w.if-is_ok.true))
  | else-is_ok w ↦
      ap (λ (o : NetworkOptions). struct_of (fresh (plain_options o))) (w.first-is ∙ w.perfect-first.ensures)
      ∙ first_perfect (plain_options c.args.options) _
      (sym c.validate-answer.ensures ∙ (failed c.validate-answer.result (sym c.is_ok.ensures.value ∙ w.if-is_ok.false)).1)
]

-- `network::Network::set_options` meets its contract: a refused change hands back the very network. Assumes nothing.
use mathlib.Core.Path.{sym, ◌∙◌}
use denote.Floats.{passes}
use Rattle.nights.specs.Net.{choose, effect}
use Rattle.network_options.specs.Options.{plain_options}
use Rattle.network_form.proofs.Laws.{was_formed}
use Rattle.network_form.proofs.Calling.{head_follows}
use Rattle.network.proofs.Choosing.{passed, failed, chosen_head}
use Rattle.network.proofs.Structs.{stays}
use Rattle.network.proofs.Network.set_options.Goals as goal

pub returns-then-is_ok-clause-network : goal.returns-then-is_ok-clause-network
unfolding effect
returns-then-is_ok-clause-network c =
    let s = c.args.self in
    let o = c.args.options in
    let e = sym c.options_in-answer.ensures.answer ∙ passed c.options_in-answer.result (sym c.is_ok.ensures.value ∙ c.if-is_ok.true) in
    let f = was_formed (choose (plain_options o)) s.head s.words e in
    let h = chosen_head s.head s.words o f (record { loss = passes _ c.well_formed.1.0.1.1.0.1; replay = passes _ c.well_formed.1.0.1.1.1.0.1 })
    ∙ head_follows s.head s.words (choose (plain_options o)) e in
    λ i. record { head = h i; words = c.options_in-answer.ensures.records i }

pub returns-else-is_ok-clause-network : goal.returns-else-is_ok-clause-network
returns-else-is_ok-clause-network c =
    stays c.args.self (choose (plain_options c.args.options)) _
    (sym c.options_in-answer.ensures.answer ∙ (failed c.options_in-answer.result (sym c.is_ok.ensures.value ∙ c.if-is_ok.false)).1)

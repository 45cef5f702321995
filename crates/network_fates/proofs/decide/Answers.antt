-- `network_fates::decide` meets its contract: an unfaulted message is due at once, and else the draws decide. Assumes nothing.
use mathlib.Core.Path.{sym, ◌∙◌}
use denote.Floats.{passes}
use Rattle.nights.specs.Draws.{after_loss, decided}
use Rattle.network_options.specs.Options.{plain_options}
use Rattle.network_options.proofs.OptionForms.{Held, good_chances}
use Rattle.network_fates.proofs.Deciding.{loss_drawn, replay_drawn, loss_yes, loss_no}
use Rattle.network_fates.proofs.decide.Goals as goal

pub returns-then-not-faulted : goal.returns-then-not-faulted
unfolding decided
returns-then-not-faulted c = rw (sym c.faulted.ensures ∙ c.if-not-faulted.true)

pub gen_bool_in_send-requires : goal.gen_bool_in_send-requires
gen_bool_in_send-requires c = passes _ (good_chances c.args.options c.requires).0

pub returns-in_default : goal.returns-in_default
unfolding after_loss
returns-in_default c =
    let held : Held c.args.options = record { loss = passes _ c.well_formed.0.1.1.0.1; replay = passes _ c.well_formed.0.1.1.1.0.1 } in
    sym (loss_drawn c.args.options held c.args.now c.args.draws.now c.args.extras.now c.args.kind _ (sym c.faulted.ensures ∙ c.if-not-faulted.false)
    (sym c.gen_bool_in_send.ensures ∙ c.in_default.is))

pub returns-then-draw : goal.returns-then-draw
returns-then-draw c =
    let held : Held c.args.options = record { loss = passes _ c.well_formed.0.1.1.0.1; replay = passes _ c.well_formed.0.1.1.1.0.1 } in
    loss_yes (plain_options c.args.options) c.args.now c.args.extras.now c.in-Some.draw c.args.draws.now c.if-draw.true
    ∙ sym (loss_drawn c.args.options held c.args.now c.args.draws.now c.args.extras.now c.args.kind _ (sym c.faulted.ensures ∙ c.if-not-faulted.false)
    (sym c.gen_bool_in_send.ensures ∙ c.in-Some.is))

pub kept-requires : goal.kept-requires
kept-requires c = passes _ (good_chances c.args.options c.requires).1

pub returns : goal.returns
returns c =
    let held : Held c.args.options = record { loss = passes _ c.well_formed.0.1.1.0.1; replay = passes _ c.well_formed.0.1.1.1.0.1 } in
    replay_drawn c.args.options held c.args.now c.args.draws.now c.args.extras.now _ _ c.kept.ensures
    ∙ (loss_no (plain_options c.args.options) c.args.now c.args.extras.now c.in-Some.draw c.args.draws.now c.if-draw.false
    ∙ sym (loss_drawn c.args.options held c.args.now c.args.draws.now c.args.extras.now c.args.kind _ (sym c.faulted.ensures ∙ c.if-not-faulted.false)
    (sym c.gen_bool_in_send.ensures ∙ c.in-Some.is)))

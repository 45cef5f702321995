-- `network_fates::kept` meets its contract. Assumes nothing.
use mathlib.Core.Path.{sym, ap, ◌∙◌}
use Rattle.std.specs.Prelude.{Option}
use Rattle.chance.specs.declared.Draw.{Draw}
use Rattle.nights.specs.Draws.{after_replay}
use Rattle.network_options.specs.Options.{plain_options}
use Rattle.network_fates.proofs.Deciding.{replay_yes, replay_no}
use Rattle.network_fates.proofs.kept.Goals as goal

pub returns-in_default : goal.returns-in_default
unfolding after_replay
returns-in_default c = ap (λ (d : Option Draw). after_replay (plain_options c.args.options) c.args.now c.args.extras.now d) (sym (sym c.gen_bool_in_send.ensures ∙ c.in_default.is))

pub returns-then-draw : goal.returns-then-draw
returns-then-draw c = c.twice.ensures
    ∙ (replay_yes (plain_options c.args.options) c.args.now c.args.extras.now c.in-Some.draw c.if-draw.true
    ∙ ap (λ (d : Option Draw). after_replay (plain_options c.args.options) c.args.now c.args.extras.now d) (sym (sym c.gen_bool_in_send.ensures ∙ c.in-Some.is)))

pub returns : goal.returns
returns c = c.once.ensures
    ∙ (replay_no (plain_options c.args.options) c.args.now c.args.extras.now c.in-Some.draw c.if-draw.false
    ∙ ap (λ (d : Option Draw). after_replay (plain_options c.args.options) c.args.now c.args.extras.now d) (sym (sym c.gen_bool_in_send.ensures ∙ c.in-Some.is)))

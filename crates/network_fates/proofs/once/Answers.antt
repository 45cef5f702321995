-- `network_fates::once` meets its contract. Assumes nothing.
use mathlib.Core.Path.{sym, ap, ◌∙◌}
use native.Mathlib.Omega.{arith}
use Rattle.network_options.specs.Options.{plain_options}
use Rattle.network_fates.specs.Answers.{tick_of}
use Rattle.network_fates.proofs.Deciding.{one_short, one_late, one_told}
use Rattle.network_fates.proofs.once.Goals as goal

pub returns-then-extras-used : goal.returns-then-extras-used
returns-then-extras-used c = one_short (plain_options c.args.options) c.args.now c.args.extras.now c.args.draws (omega (arith, c.extras_for-used.ensures, c.if-extras-used.true))

pub extra_at-extra-requires : goal.extra_at-extra-requires
extra_at-extra-requires c = omega (arith, c.extras_for-used.ensures, c.if-extras-used.false)

pub returns-in_default : goal.returns-in_default
returns-in_default c = let e = c.extra_at-extra.ensures in
    let s = c.extras_for-used.ensures in
    one_late (plain_options c.args.options) c.args.now c.args.extras.now c.args.draws (omega (arith, s, c.if-extras-used.false))
    (rw e at (sym c.due_tick.ensures ∙ ap tick_of c.in_default.is))

pub returns : goal.returns
returns c = let e = c.extra_at-extra.ensures in
    let s = c.extras_for-used.ensures in
    rw (e, s)
    (one_told (plain_options c.args.options) c.args.now c.args.extras.now c.args.draws (omega (arith, s, c.if-extras-used.false)) c.in-Some.due
    (rw e at (sym c.due_tick.ensures ∙ ap tick_of c.in-Some.is)))

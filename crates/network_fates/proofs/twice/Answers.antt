-- `network_fates::twice` meets its contract. Assumes nothing.
use mathlib.Core.Path.{sym, ap, ◌∙◌}
use native.Mathlib.Omega.{arith}
use Rattle.network_options.specs.Options.{plain_options}
use Rattle.network_fates.specs.Answers.{tick_of}
use Rattle.network_fates.proofs.Deciding.{two_short, copy_late, original_late, two_told, one_of_two}
use Rattle.network_fates.proofs.twice.Goals as goal

pub returns-then-extras-used : goal.returns-then-extras-used
returns-then-extras-used c = two_short (plain_options c.args.options) c.args.now c.args.extras.now c.args.draws (omega (arith, c.extras_for-used.ensures, c.if-extras-used.true))

pub extra_at-copy_extra-requires : goal.extra_at-copy_extra-requires
extra_at-copy_extra-requires c = one_of_two (plain_options c.args.options) _ (omega (arith, c.extras_for-used.ensures, c.if-extras-used.false))

pub extra_at-extra-requires : goal.extra_at-extra-requires
extra_at-extra-requires c = omega (arith, c.extras_for-used.ensures, c.if-extras-used.false)

pub returns-in_default : goal.returns-in_default
returns-in_default c = let e = c.extra_at-copy_extra.ensures in
    copy_late (plain_options c.args.options) c.args.now c.args.extras.now c.args.draws (omega (arith, c.extras_for-used.ensures, c.if-extras-used.false))
    (rw e at (sym c.due_tick.ensures ∙ ap tick_of c.in_default.is))

pub returns-in_default-due_tick : goal.returns-in_default-due_tick
returns-in_default-due_tick c = let e = c.extra_at-extra.ensures in
    original_late (plain_options c.args.options) c.args.now c.args.extras.now c.args.draws (omega (arith, c.extras_for-used.ensures, c.if-extras-used.false))
    (rw e at (sym c.due_tick-2.ensures ∙ ap tick_of c.in_default-due_tick.is))

pub returns : goal.returns
returns c = let e = c.extra_at-copy_extra.ensures in
    let f = c.extra_at-extra.ensures in
    let s = c.extras_for-used.ensures in
    rw (e, f, s)
    (two_told (plain_options c.args.options) c.args.now c.args.extras.now c.args.draws (omega (arith, s, c.if-extras-used.false)) c.in-Some.copy c.in-Some-due_tick.original
    (rw e at (sym c.due_tick.ensures ∙ ap tick_of c.in-Some.is))
    (rw f at (sym c.due_tick-2.ensures ∙ ap tick_of c.in-Some-due_tick.is)))

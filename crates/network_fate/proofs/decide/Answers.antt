-- `network_fate::decide` meets its contract: the tests come in the definition's order. Assumes nothing.
use mathlib.Core.Path.{sym}
use Rattle.std.proofs.lemmas.Result.{err_from_is_err_and}
use Rattle.network_options.proofs.OptionForms.{good_done}
use Rattle.network_layout.specs.Layout.{options_of}
use Rattle.network_fate.proofs.Telling.{bad_options, bad_kind, decides}
use Rattle.network_fate.proofs.decide.Goals as goal

pub returns-in_err-options : goal.returns-in_err-options
returns-in_err-options c =
    let a = c.args in
    let p = err_from_is_err_and c.from_residual.result c.from_residual.ensures.1 in
    rw (p.1, p.2) (bad_options (options_of a.options) a.now a.kind a.draws.now a.extras.now _ c.in_err-options.ensures.answer)

pub returns-then-kind-gt-LAST_KIND : goal.returns-then-kind-gt-LAST_KIND
returns-then-kind-gt-LAST_KIND c =
    let a = c.args in
    bad_kind (options_of a.options) a.now a.kind a.draws.now a.extras.now (sym c.in_ok-options.ensures.answer) c.if-kind-gt-LAST_KIND.true

pub decide-requires : goal.decide-requires
decide-requires c = rw c.in_ok-options.ensures.options (good_done (options_of c.args.options) (sym c.in_ok-options.ensures.answer))

pub returns : goal.returns
returns c =
    let a = c.args in
    decides (options_of a.options) a.now a.kind a.draws.now a.extras.now (sym c.in_ok-options.ensures.answer) c.if-kind-gt-LAST_KIND.false c.decide.result
    (rw c.in_ok-options.ensures.options at c.decide.ensures)

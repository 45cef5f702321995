-- `network_form::formed` meets its contract: the tests of its parts are the parts of the test. Assumes nothing.
use mathlib.Core.Path.{◌≡◌, sym, ◌∙◌}
use mathlib.Core.Bool.{true, false}
use Rattle.nights.proofs.Kept.{counts}
use Rattle.network_form.proofs.WholeForm.{options_fail, counts_fail, all_told}
use Rattle.network_form.proofs.formed.Goals as goal
use Rattle.network_form.proofs.formed.Goals.{then-good, else-good}

pub records_good-requires : goal.records_good-requires
records_good-requires c =
    let h = c.args.head in
    elim c.if-good.branch [
      | then-good w ↦ (counts h.pending h.seq h.sent h.delivered h.lost h.replayed h.delayed (sym w.counts_good.ensures ∙ (sym w.value-is ∙ c.if-counts_good.true))).small
      | else-good w ↦ let z : false ≡ true = sym w.if-good.false ∙ (sym w.value-is ∙ c.if-counts_good.true) in absurd cc
    ]

pub returns-then-counts_good : goal.returns-then-counts_good
returns-then-counts_good c =
    let a = c.args in
    elim c.if-good.branch [
      | then-good w ↦ all_told a.head a.w.now (sym c.good.ensures ∙ w.if-good.true) (sym w.counts_good.ensures ∙ (sym w.value-is ∙ c.if-counts_good.true)) c.records_good.ensures
      | else-good w ↦ let z : false ≡ true = sym w.if-good.false ∙ (sym w.value-is ∙ c.if-counts_good.true) in absurd cc
    ]

pub returns-else-counts_good : goal.returns-else-counts_good
returns-else-counts_good c =
    let a = c.args in
    c.if-counts_good.false ∙ elim c.if-good.branch [
      | then-good w ↦ counts_fail a.head a.w.now (sym c.good.ensures ∙ w.if-good.true) (sym w.counts_good.ensures ∙ (sym w.value-is ∙ c.if-counts_good.false))
      | else-good w ↦ options_fail a.head a.w.now (sym c.good.ensures ∙ w.if-good.false)
    ]

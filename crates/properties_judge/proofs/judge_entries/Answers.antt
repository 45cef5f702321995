-- `properties_judge::judge_entries` meets its contract: the first answer that is no pass. Assumes nothing.
use mathlib.Core.Path.{sym, ◌∙◌}
use Rattle.std.proofs.lemmas.Result.{err_from_is_err_and}
use Rattle.properties_judge.specs.Ticks.{judged_entries}
use Rattle.properties_judge.proofs.judge_entries.Goals as goal

pub returns-in_err-agreement : goal.returns-in_err-agreement
unfolding judged_entries
returns-in_err-agreement c =
    let p = err_from_is_err_and c.from_residual.result c.from_residual.ensures.1 in
    rw (p.1, p.2, sym c.in_err-agreement.ensures)

pub returns-in_err-duplicates : goal.returns-in_err-duplicates
unfolding judged_entries
returns-in_err-duplicates c =
    let p = err_from_is_err_and c.from_residual-in_err-duplicates.result c.from_residual-in_err-duplicates.ensures.1 in
    rw (p.1, p.2, sym c.in_ok-agreement.ensures, sym c.in_err-duplicates.ensures)

pub returns : goal.returns
unfolding judged_entries
returns c = c.durability.ensures ∙ rw (sym c.in_ok-agreement.ensures, sym c.in_ok-duplicates.ensures)

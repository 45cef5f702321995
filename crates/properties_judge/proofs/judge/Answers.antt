-- `properties_judge::judge` meets its contract: the first answer that is no pass. Assumes nothing.
use mathlib.Core.Path.{sym, ◌∙◌}
use Rattle.std.proofs.lemmas.Result.{err_from_is_err_and}
use Rattle.properties_commits.proofs.Forwards.{forward_known}
use Rattle.properties_judge.specs.Ticks.{tick_judged}
use Rattle.properties_judge.proofs.judge.Goals as goal

pub returns-in_err-commit_numbers : goal.returns-in_err-commit_numbers
unfolding tick_judged
returns-in_err-commit_numbers c =
    let p = err_from_is_err_and c.from_residual.result c.from_residual.ensures.1 in
    rw (p.1, p.2, sym (c.in_err-commit_numbers.ensures c.args.snapshot.now.logs.now))

pub invariant_of-judge_entries : goal.invariant_of-judge_entries
invariant_of-judge_entries c = let a = c.args in
    let s = a.snapshot.now in
    record {
      tracked = c.requires;
      forward = forward_known s.n s.plants.now s.logs.now a.tracker.now (sym (c.in_ok-commit_numbers.ensures s.logs.now));
    }

pub returns : goal.returns
unfolding tick_judged
returns c = c.judge_entries.ensures ∙ rw (sym (c.in_ok-commit_numbers.ensures c.args.snapshot.now.logs.now))

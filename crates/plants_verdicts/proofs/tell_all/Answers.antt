-- `plants_verdicts::tell_all` meets its contract, by where it ends: what follows the first refusal is said by the lemmas that the function
-- names (Telling). Assumes nothing.
use Rattle.std.proofs.Common.{arith}
use Rattle.plants_verdicts.proofs.Each.{uneven}
use Rattle.plants_verdicts.proofs.tell_all.Goals as goal
use Rattle.plants_verdicts.proofs.tell_all.Goals.{then-count-told-via-then-count-told, then-count-told-via-else-count-told+then-count-records}

-- the records are not one for each verdict
pub returns-then-count-told-clause-answer : goal.returns-then-count-told-clause-answer
returns-then-count-told-clause-answer c =
    let a = c.args in
    elim c.then-count-told.branch [
      | then-count-told-via-then-count-told w ↦ (uneven a.words.now a.records.now a.told.now (λ e. w.if-count-told.true (omega arith))).0
      | then-count-told-via-else-count-told+then-count-records w ↦
          (uneven a.words.now a.records.now a.told.now (λ e. w.if-count-records.true (omega arith))).0
    ]

pub returns-then-count-told-clause-told : goal.returns-then-count-told-clause-told
returns-then-count-told-clause-told c =
    let a = c.args in
    elim c.then-count-told.branch [
      | then-count-told-via-then-count-told w ↦ (uneven a.words.now a.records.now a.told.now (λ e. w.if-count-told.true (omega arith))).1
      | then-count-told-via-else-count-told+then-count-records w ↦
          (uneven a.words.now a.records.now a.told.now (λ e. w.if-count-records.true (omega arith))).1
    ]

-- `network_send::decide` meets its contract: each test in turn. Assumes nothing. No answer names the test of the messages sent: an edit of
-- it is refused by the contract.
use mathlib.Core.Path.{sym, ap}
use native.Mathlib.Omega.{arith}
use Rattle.std.proofs.lemmas.Result.{err_from_is_err_and}
use Rattle.nights.specs.Draws.{Decided}
use Rattle.network_fates.specs.Answers.{decided_by}
use Rattle.network_send.specs.Sends.{plain_letter}
use Rattle.network_send.proofs.Testing.{bad_kind, bad_sort, fate_refuses, queue_full, send_well, accepts, few}
use Rattle.network_send.proofs.decide.Goals as goal
use Rattle.network_send.proofs.decide.Goals.{then-letter-gt-LAST_KIND-via-then-letter-gt-LAST_KIND, then-letter-gt-LAST_KIND-via-else-letter-gt-LAST_KIND+then-letter-gt-LAST_SORT}

pub returns-then-letter-gt-LAST_KIND : goal.returns-then-letter-gt-LAST_KIND
returns-then-letter-gt-LAST_KIND c =
    let a = c.args in
    let m = plain_letter a.letter in
    λ w f. elim c.then-letter-gt-LAST_KIND.branch [
      | then-letter-gt-LAST_KIND-via-then-letter-gt-LAST_KIND v ↦ bad_kind a.head w m a.draws.now a.extras.now f v.if-letter-gt-LAST_KIND.true
      | then-letter-gt-LAST_KIND-via-else-letter-gt-LAST_KIND+then-letter-gt-LAST_SORT v ↦ bad_sort a.head w m a.draws.now a.extras.now f v.if-letter-gt-LAST_SORT.true
    ]

pub returns-in_err-decision : goal.returns-in_err-decision
returns-in_err-decision c =
    let a = c.args in
    let m = plain_letter a.letter in
    let p = err_from_is_err_and c.from_residual.result c.from_residual.ensures.1 in
    λ w f. rw (p.1, p.2)
    (fate_refuses a.head w m a.draws.now a.extras.now f c.if-letter-gt-LAST_KIND.false c.if-letter-gt-LAST_SORT.false (omega arith) _
    (sym (ap (λ (x : Decided). x.fate) c.in_err-decision.ensures)))

pub overflow_add-head : goal.overflow_add-head
overflow_add-head c = omega (arith, c.requires.few, (few (decided_by c.in_ok-decision.decision).fate).queued, c.copies.ensures)

pub returns-then-head-copies-gt-CAPACITY : goal.returns-then-head-copies-gt-CAPACITY
returns-then-head-copies-gt-CAPACITY c =
    let a = c.args in
    let m = plain_letter a.letter in
    let d = c.in_ok-decision.decision in
    λ w f. queue_full a.head w m a.draws.now a.extras.now f c.if-letter-gt-LAST_KIND.false c.if-letter-gt-LAST_SORT.false (omega arith)
    (decided_by d).fate (sym (ap (λ (x : Decided). x.fate) c.in_ok-decision.ensures)) (accepts d)
    (omega (arith, c.if-head-copies-gt-CAPACITY.true, c.copies.ensures))

pub returns : goal.returns
returns c =
    let a = c.args in
    let m = plain_letter a.letter in
    let d = c.in_ok-decision.decision in
    λ w f. (
      send_well a.head w m a.draws.now a.extras.now f c.if-letter-gt-LAST_KIND.false c.if-letter-gt-LAST_SORT.false (omega arith)
          (decided_by d).fate (sym (ap (λ (x : Decided). x.fate) c.in_ok-decision.ensures)) (accepts d)
          (omega (arith, c.if-head-copies-gt-CAPACITY.false, c.copies.ensures)),
      c.in_ok-decision.ensures,
      omega (arith, c.if-head-copies-gt-CAPACITY.false, c.copies.ensures),
    )

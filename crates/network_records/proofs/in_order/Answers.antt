-- `network_records::in_order` meets its contract: the walk of `Walking`, which ends at the first record that may not follow. Assumes nothing.
use mathlib.Core.Path.{sym, ◌∙◌}
use native.Mathlib.Nat.{sub-zero}
use native.Mathlib.Omega.{arith}
use Rattle.network_queue.specs.Plain.{plain_record}
use Rattle.network_records.proofs.Walking.{walk_on, walk_fails, walk_ends}
use Rattle.network_records.proofs.in_order.Goals as goal

pub loop-i-init : goal.loop-i-init
loop-i-init c = rw sub-zero

pub returns-then-not-may_follow : goal.returns-then-not-may_follow
returns-then-not-may_follow c = let r = c.record_at-r in
    let l = c.loop-i in
    let a = c.args in
    walk_fails a.w.now a.n a.last l.d l.q l.i l.invariant (plain_record r.result) r.ensures (omega arith)
    (sym c.may_follow.ensures ∙ c.if-not-may_follow.true)

pub loop-i-preserved : goal.loop-i-preserved
loop-i-preserved c = let r = c.record_at-r in
    let l = c.loop-i in
    let a = c.args in
    walk_on a.w.now a.n a.last l.d l.q l.i l.invariant (plain_record r.result) r.ensures (omega arith) (sym c.may_follow.ensures ∙ c.if-not-may_follow.false)

pub returns : goal.returns
returns c = let l = c.loop-i in
    let a = c.args in
    walk_ends a.w.now a.n a.last l.d l.q l.i l.invariant c.loop-i-test.false

-- `network_records::quickly_good` meets its contract: the walk of `Gathering`. Assumes nothing.
use native.Mathlib.Omega.{arith}
use borrow.Author.Tests.{not-true}
use mathlib.Core.Bool.{Bool, false}
use lib.ListN.{length-replicate}
use Rattle.network_queue.specs.Plain.{plain_record}
use Rattle.network_records.proofs.Gathering.{gather_start, gather_on, gather_ends}
use Rattle.network_records.proofs.quickly_good.Goals as goal

pub loop-i-init : goal.loop-i-init
loop-i-init c = gather_start c.args.w.now c.args.n c.args.last _ (length-replicate {A = Bool} 256 false)

pub loop-i-preserved : goal.loop-i-preserved
loop-i-preserved c = let r = c.record_at-r in
    let l = c.loop-i in
    let a = c.args in
    gather_on a.w.now a.n a.last l.seen l.met l.sorts l.kinds l.d l.q l.i l.invariant (omega arith) (plain_record r.result) r.ensures
    c.if-r-eq0.false c.if-last-r.false c.if-r-d.false c.from.result c.from.ensures c.if-r-d-eq0.false

pub returns-then-kinds-le-LAST_KIND : goal.returns-then-kinds-le-LAST_KIND
returns-then-kinds-le-LAST_KIND c e = let a = c.args in
    let l = c.loop-i in
    let t = c.if-kinds-le-LAST_KIND.true in
    gather_ends a.w.now a.n a.last l.seen l.met l.sorts l.kinds l.d l.q l.i l.invariant c.loop-i-test.false t.0 t.1 (not-true _ e)

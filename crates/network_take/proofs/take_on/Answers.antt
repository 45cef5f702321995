-- `network_take::take_on` meets its contract: the test of the room, and then what the plain form's take does. Assumes nothing.
use mathlib.Core.Path.{◌∙◌}
use native.Mathlib.Omega.{arith}
use denote.Floats.{passes}
use lib.ListN.{length}
use Rattle.nights.specs.Net.{collect, effect}
use Rattle.nights.specs.Tests.{if_done}
use Rattle.nights.proofs.Kept.{Counts}
use Rattle.network_queue.proofs.Taking.{due_in}
use Rattle.network_form.proofs.Maps.{small, counts}
use Rattle.network_form.proofs.Calling.{head_follows, records_follow}
use Rattle.network_take.specs.Takes.{counting}
use Rattle.network_take.proofs.Taking.{untaken, take_short, take_well, taken_count, taken_head, taken_words, taken_out}
use Rattle.network_take.proofs.take_on.Goals as goal

pub due_front-k-requires : goal.due_front-k-requires
due_front-k-requires c = small c.args.head c.args.w.now c.requires

pub overflow_mul-k : goal.overflow_mul-k
overflow_mul-k c = let a = c.args in omega (arith, small a.head a.w.now c.requires, due_in a.tick a.w.now a.head.pending, c.due_front-k.ensures)

pub returns-then-out-k : goal.returns-then-out-k
returns-then-out-k c =
    let a = c.args in
    let t = taken_count a.head a.w.now c.requires a.tick _ c.due_front-k.ensures in
    let u = untaken a.head a.w.now a.tick a.out.now 30 (take_short a.head a.w.now c.requires a.tick (length a.out.now) _ t c.if-out-k.true) in
    record { head = u.0; records = u.1.0; answer = u.1.1.0; out = u.1.1.1 }

pub take_from-requires : goal.take_from-requires
take_from-requires c = let a = c.args in (small a.head a.w.now c.requires, c.due_front-k.ensures, c.if-out-k.false)

pub overflow_sub-state : goal.overflow_sub-state
overflow_sub-state c = let a = c.args in omega (arith, due_in a.tick a.w.now a.head.pending, c.due_front-k.ensures)

pub overflow_add-state : goal.overflow_add-state
overflow_add-state c =
    let a = c.args in
    let h = a.head in
    let n : Counts h.pending h.seq h.sent h.delivered h.lost h.replayed h.delayed = counts h a.w.now c.requires in
    omega (arith, due_in a.tick a.w.now a.head.pending, c.due_front-k.ensures, n.small, n.few, n.replayed, n.even)

pub returns : goal.returns
unfolding counting if_done effect
returns c =
    let h = c.args.head in
    let w = c.args.w.now in
    let t = c.args.tick in
    let o = c.args.out.now in
    let p = c.requires in
    let u = c.due_front-k.ensures in
    let told = taken_count h w p t _ u in
    let e = take_well h w p t (length o) _ told c.if-out-k.false in
    record {
      head = taken_head h w p t _ u (record { loss = passes _ c.well_formed.1.0.1.1.0.1.1.0.1; replay = passes _ c.well_formed.1.0.1.1.0.1.1.1.0.1 }) ∙ head_follows h w (collect t (length o)) e;
      records = taken_words h w p t _ u c.told-w _ c.take_from.ensures.w_after ∙ records_follow h w (collect t (length o)) e;
      answer = rw (e, told);
      out = rw e (taken_out h w p t _ u c.told-w _ o c.take_from.ensures.out_after);
    }

-- `network_batch::queue` meets its contract: refused, or all messages sent. Assumes nothing.
use mathlib.Core.Path.{sym}
use Rattle.network_form.proofs.Maps.{good_in}
use Rattle.network_batch.proofs.Ticking.{queue-refused, queue-done}
use Rattle.network_batch.proofs.queue.Goals as goal

pub store-requires : goal.store-requires
store-requires c = good_in _ _ c.in-Ok.ensures.sent.0

pub number-requires : goal.number-requires
number-requires c = c.in-Err.ensures.kept.1

pub returns-in-Ok : goal.returns-in-Ok
returns-in-Ok c =
    let a = c.args in
    let t = queue-done a.head.now a.records.now a.sends.now a.draws.now a.extras.now a.told.now _ _ _ _ (sym c.in-Ok.ensures.ran) _ c.store.ensures in
    record { answer = t.0; head = t.1.0; records = t.1.1.0; told = t.1.1.1 }

pub returns-in-Err : goal.returns-in-Err
returns-in-Err c =
    let a = c.args in
    let t = queue-refused a.head.now a.records.now a.sends.now a.draws.now a.extras.now a.told.now _ _ (sym c.in-Err.ensures.ran) _ c.number.ensures _
    c.in-Err.ensures.kept.0 in
    record { answer = t.0; head = t.1.0; records = t.1.1.0; told = t.1.1.1 }

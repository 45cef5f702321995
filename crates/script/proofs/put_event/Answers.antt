-- `script::put_event` meets its contract. Assumes nothing.
use Rattle.std.proofs.Common.{◌≡◌, ◌+◌, ◌-◌, ◌*◌, arith}
use Rattle.std.proofs.Math.Seq.{drop-drop}
use Rattle.order.specs.Order.{event_words}
use Rattle.script.proofs.put_event.Goals as goal

pub returns : goal.returns
unfolding event_words
returns c =
    let z : 3 * c.args.count + 3 - 3 * c.args.count ≡ 3 = omega arith in
    rw (c.copy_from_slice.ensures.after, c.number.ensures, c.id.ensures, z, drop-drop 3 (3 * c.args.count) c.args.events.now)

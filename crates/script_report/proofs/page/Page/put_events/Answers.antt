-- `script_report::page::Page::put_events` meets its contract. The loop's invariant: the lines of the first i events stand. Assumes nothing.
use native.Mathlib.Omega.{arith}
use mathlib.Core.List.{List, ◌++◌, append-nil, append_assoc}
use Prim.Native.Nat.{ℕ, ◌+◌, ◌*◌, ◌/◌, ◌≤◌}
use lib.ListN.{length, take, length-take, length-append}
use Rattle.order.specs.Order.{events_in}
use Rattle.script_report.specs.Report.{number_line, events_key, events_text}
use Rattle.script_report.proofs.Lengths.{line_most, events_most}
use Rattle.script_report.proofs.Listing.{text_more, text_all}
use Rattle.script_report.proofs.Pages.{added, room_left}
use Rattle.script_report.proofs.page.Page.put_events.Goals as goal

-- the lines that stand
abbrev stand : List ℕ → ℕ → List ℕ
stand events i = number_line events_key (length events / 3) ++ events_text (take i (events_in events))

stand_most : (events : List ℕ) (i : ℕ) → length (stand events i) ≤ 28 + 66 * i
stand_most events i =
    let es = events_in events in
    omega (
      arith,
      length-append (number_line events_key (length events / 3)) (events_text (take i es)),
      line_most events_key (length events / 3),
      events_most (take i es),
      length-take i es,
    )

pub loop-i-init : goal.loop-i-init
unfolding events_text
loop-i-init c = rw append-nil c.put_number_line.ensures

pub put_event-requires : goal.put_event-requires
put_event-requires c =
    let es = c.args.events.now in
    room_left (28 + 66 * (length es / 3)) (28 + 66 * c.loop-i.i) 66 c.requires.room (omega arith) (stand_most es c.loop-i.i) c.loop-i.invariant

pub loop-i-preserved : goal.loop-i-preserved
loop-i-preserved c =
    let es = c.args.events.now in
    let i = c.loop-i.i in
    let a = added (omega (arith, stand_most es i, c.requires.room)) c.loop-i.invariant c.put_event.ensures in
    rw (text_more es (length es / 3) c.requires.whole i (omega arith)) (rw append_assoc at a)

pub returns : goal.returns
returns c =
    let es = c.args.events.now in
    rw (text_all es (length es / 3) c.requires.whole c.loop-i.i (omega arith)) at c.loop-i.invariant

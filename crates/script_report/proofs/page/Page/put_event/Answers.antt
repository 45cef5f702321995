-- `script_report::page::Page::put_event` meets its contract: the lines one behind the other, that of the id only where there is one.
-- Assumes nothing.
use borrow.Author.Tests.{eq-eqb, ne_eqb}
use native.Mathlib.Omega.{arith}
use mathlib.Core.List.{append-nil}
use Rattle.script_report.specs.Report.{tick_key, fault_line, id_line, event_text}
use Rattle.script_report.proofs.Lengths.{line_most, name_most, fault_line_lem}
use Rattle.script_report.proofs.Pages.{added, room_left}
use Rattle.script_report.proofs.page.Page.put_event.Goals as goal

pub put_fault_line-requires : goal.put_fault_line-requires
put_fault_line-requires c = room_left 66 26 16 c.requires (omega arith) (line_most tick_key c.args.tick) c.put_number_line.ensures

pub put_number_line-requires-then-fault-ne-HEAL_ALL : goal.put_number_line-requires-then-fault-ne-HEAL_ALL
put_number_line-requires-then-fault-ne-HEAL_ALL c =
    room_left 40 16 24 (room_left 66 26 40 c.requires (omega arith) (line_most tick_key c.args.tick) c.put_number_line.ensures)
    (omega arith) (omega (arith, fault_line_lem c.args.fault, name_most c.args.fault)) c.put_fault_line.ensures

pub returns-then-fault-ne-HEAL_ALL : goal.returns-then-fault-ne-HEAL_ALL
unfolding event_text id_line
returns-then-fault-ne-HEAL_ALL c =
    let a = c.args in
    let r = room_left 66 26 40 c.requires (omega arith) (line_most tick_key a.tick) c.put_number_line.ensures in
    rw (ne_eqb a.fault 5 c.if-fault-ne-HEAL_ALL.true)
    (added (omega (arith, line_most tick_key a.tick)) c.put_number_line.ensures
    (added (omega (arith, r, fault_line_lem a.fault, name_most a.fault)) c.put_fault_line.ensures c.put_number_line-then-fault-ne-HEAL_ALL.ensures))

pub returns-else-fault-ne-HEAL_ALL : goal.returns-else-fault-ne-HEAL_ALL
unfolding event_text id_line
returns-else-fault-ne-HEAL_ALL c =
    let a = c.args in
    rw (eq-eqb a.fault 5 c.if-fault-ne-HEAL_ALL.false, append-nil (fault_line a.fault))
    (added (omega (arith, line_most tick_key a.tick)) c.put_number_line.ensures c.put_fault_line.ensures)

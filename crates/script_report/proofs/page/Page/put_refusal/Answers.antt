-- `script_report::page::Page::put_refusal` meets its contract. Assumes nothing.
use Rattle.std.proofs.Common.{arith}
use Rattle.script_report.specs.Report.{refusal_key, line_key}
use Rattle.script_report.proofs.Lengths.{line_most}
use Rattle.script_report.proofs.Pages.{added, room_left}
use Rattle.script_report.proofs.page.Page.put_refusal.Goals as goal

pub put_number_line-requires-2 : goal.put_number_line-requires-2
put_number_line-requires-2 c =
    room_left 106 29 26 c.requires (omega arith) (line_most refusal_key c.number.result) c.put_number_line.ensures

pub put_reason-requires : goal.put_reason-requires
put_reason-requires c =
    room_left 77 26 51 (room_left 106 29 77 c.requires (omega arith) (line_most refusal_key c.number.result) c.put_number_line.ensures)
    (omega arith) (line_most line_key c.args.refused.line) c.put_number_line-2.ensures

pub returns : goal.returns
returns c =
    let n = c.number.result in
    let r = room_left 106 29 77 c.requires (omega arith) (line_most refusal_key n) c.put_number_line.ensures in
    rw (← c.number.ensures)
    (added (omega (arith, line_most refusal_key n)) c.put_number_line.ensures
    (added (omega (arith, line_most line_key c.args.refused.line, r)) c.put_number_line-2.ensures c.put_reason.ensures))

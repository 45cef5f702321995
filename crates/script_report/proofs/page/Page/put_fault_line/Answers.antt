-- `script_report::page::Page::put_fault_line` meets its contract. Assumes nothing.
use Rattle.std.proofs.Common.{◌≡◌, arith}
use Rattle.std.proofs.lemmas.Grind.{common_steps}
use Rattle.script_report.specs.Pages.{Adds}
use Rattle.script_report.specs.Report.{name_of, fault_line}
use Rattle.script_report.proofs.Lengths.{name_most}
use Rattle.script_report.proofs.Pages.{added, room_left}
use Rattle.script_report.proofs.page.Page.put_fault_line.Goals as goal
use Rattle.script_report.proofs.page.Page.put_fault_line.Goals.{in-0, in-1, in-2, in-3, in-4, in_default}

pub returns : goal.returns
unfolding fault_line name_of
returns c =
    let e : c.match-fault.name.now ≡ name_of c.args.fault =
    elim c.match-fault.branch
    [ in-0 w ↦ grind (arith, common_steps) | in-1 w ↦ grind (arith, common_steps) | in-2 w ↦ grind (arith, common_steps) | in-3 w ↦ grind (arith, common_steps) | in-4 w ↦ grind (arith, common_steps) | in_default w ↦ grind (arith, common_steps) ] in
    let r = room_left 16 6 10 c.requires (omega arith) (omega arith) c.put_bytes.ensures in
    let f : Adds c.put_bytes.new.self c.put_bytes-2.new.self (name_of c.args.fault) = rw e at c.put_bytes-2.ensures in
    added (omega arith) c.put_bytes.ensures (added (omega (arith, name_most c.args.fault, r)) f c.put_bytes-3.ensures)

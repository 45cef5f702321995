-- `script_report::page::Page::put_number_line` meets its contract. Assumes nothing.
use native.Mathlib.Omega.{arith}
use Prim.Native.Nat.{◌+◌}
use lib.ListN.{length}
use Rattle.script_report.proofs.Lengths.{decimal_most}
use Rattle.script_report.proofs.Pages.{added, room_left}
use Rattle.script_report.proofs.page.Page.put_number_line.Goals as goal

pub put_bytes-requires-2 : goal.put_bytes-requires-2
put_bytes-requires-2 c =
    let k = length c.args.key.now in
    room_left 21 20 1 (room_left (k + 21) k 21 c.requires (omega arith) (omega arith) c.put_bytes.ensures) (omega arith) (decimal_most c.args.n) c.put_number.ensures

pub returns : goal.returns
returns c =
    let k = length c.args.key.now in
    let r = room_left (k + 21) k 21 c.requires (omega arith) (omega arith) c.put_bytes.ensures in
    added (omega arith) c.put_bytes.ensures (added (omega (arith, decimal_most c.args.n, r)) c.put_number.ensures c.put_bytes-2.ensures)

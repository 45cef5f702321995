-- `faults::main` is safe and ends: what is written lies within what the report filled. Assumes nothing.
use Rattle.std.proofs.Common.{sym, length-take-le}
use Rattle.script_report.proofs.Within.{handed}
use Rattle.faults.proofs.main.Goals as goal

pub slice_bounds-out-end : goal.slice_bounds-out-end
slice_bounds-out-end c =
    handed _ _ c.report.new.out c.in-Some.written c.report.result c.report.ensures.answer c.report.ensures.bytes c.in-Some.is

pub slice_bounds-write_all-end : goal.slice_bounds-write_all-end
slice_bounds-write_all-end c =
    sym
    (length-take-le c.in-Some.written c.report.new.out
    (handed _ _ c.report.new.out c.in-Some.written c.report.result c.report.ensures.answer c.report.ensures.bytes c.in-Some.is))

use mathlib.Core.List.{◌++◌}
use Prim.Native.Nat.{◌/◌}
use lib.ListN.{length, take}
use Rattle.order.specs.Order.{events_in}
use Rattle.script_report.specs.Pages.{Adds}
use Rattle.script_report.specs.Report.{number_line, events_key, events_text}
use Rattle.script_report.proofs.page.Page.put_events.Given as goal

abbrev pub invariant-loop-i : goal.invariant-loop-i
invariant-loop-i l = Adds l.fn.self l.self (number_line events_key (length l.events / 3) ++ events_text (take l.i (events_in l.events)))

-- `script_report::page::Page::put_reason` meets its contract. Assumes nothing.
use Rattle.std.proofs.Common.{◌≡◌, arith}
use mathlib.Core.Logic.{◌⊎◌, inl, inr}
use Rattle.numeral.specs.declared.Flaw.{Flaw}
use Rattle.script.specs.declared.line.Refusal.{Refusal}
use Rattle.script.specs.declared.line.Refusal.TheVariants.{BadTick, BadId}
use Rattle.script_report.specs.Report.{why_key, flaw_text, reason_text}
use Rattle.script_report.proofs.Lengths.{line_most}
use Rattle.script_report.proofs.Pages.{added, room_left}
use Rattle.script_report.proofs.page.Page.put_reason.Goals as goal

pub put_number_line-requires-in-BadTick : goal.put_number_line-requires-in-BadTick
put_number_line-requires-in-BadTick c =
    room_left 51 25 26 c.requires (omega arith) (line_most why_key c.number.result) c.put_number_line.ensures

reason_is : (r : Refusal) (flaw : Flaw) → (r ≡ BadTick flaw) ⊎ (r ≡ BadId flaw) → reason_text r ≡ flaw_text flaw
reason_is r flaw (inl e) = rw e
reason_is r flaw (inr e) = rw e

pub returns-in-BadTick : goal.returns-in-BadTick
returns-in-BadTick c =
    rw (reason_is c.args.refusal c.in-BadTick.flaw c.in-BadTick.is, ← c.number.ensures)
    (added (omega (arith, line_most why_key c.number.result)) c.put_number_line.ensures c.put_number_line-in-BadTick.ensures)

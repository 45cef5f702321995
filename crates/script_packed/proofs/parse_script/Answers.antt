-- `script_packed::parse_script` meets its contract: what is told of a text is so small that its parts fit below each other. Assumes
-- nothing.
use mathlib.Core.Path.{sym, ap, ◌∙◌}
use lib.ListN.{length}
use Rattle.script_packed.specs.Packing.{answer_word}
use Rattle.script_packed.proofs.Parts.{below_factor}
use Rattle.script_packed.proofs.parse_script.Goals as goal

pub packed-requires : goal.packed-requires
packed-requires c = below_factor c.args.text.now (length c.args.events.now) c.in-Err.refused.refusal c.in-Err.refused.line (sym c.parse_script.ensures.answer ∙ c.in-Err.is)

pub returns-in-Ok : goal.returns-in-Ok
returns-in-Ok c = record { answer = sym (ap answer_word (sym c.parse_script.ensures.answer ∙ c.in-Ok.is)); words = c.parse_script.ensures.words }

pub returns-in-Err : goal.returns-in-Err
returns-in-Err c = record { answer = c.packed.ensures ∙ sym (ap answer_word (sym c.parse_script.ensures.answer ∙ c.in-Err.is)); words = c.parse_script.ensures.words }

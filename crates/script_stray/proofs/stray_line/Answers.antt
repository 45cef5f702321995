-- `script_stray::stray_line` meets its contract: a text without a byte over 127 has no stray line, nor has one that is UTF-8 with plain words; any
-- other is walked over. Assumes nothing.
use Rattle.std.proofs.Common.{sym, ◌∙◌}
use Rattle.script_stray.proofs.Walking.{plain_is_fine}
use Rattle.script_stray.proofs.Sure.{sure_is_fine}
use Rattle.script_stray.proofs.Plain.{none}
use Rattle.script_stray.proofs.stray_line.Goals as goal

pub returns-then-ascii : goal.returns-then-ascii
returns-then-ascii c = none _ (plain_is_fine c.args.text.now (c.ascii.ensures c.if-ascii.true))

pub returns-then-words_plain : goal.returns-then-words_plain
returns-then-words_plain c = none _ (sure_is_fine c.args.text.now (c.surely.ensures c.if-surely.true)
    (sym c.words_plain.ensures ∙ c.if-words_plain.true))

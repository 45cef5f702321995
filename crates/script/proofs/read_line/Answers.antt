-- `script::read_line` meets its contract: of a blank line nothing is written. Assumes nothing.
use Rattle.std.proofs.Common.{arith}
use Rattle.std.proofs.lemmas.Grind.{common_steps}
use Rattle.script.specs.Lines.{line_says}
use Rattle.script.proofs.Reading.{nothing_laid}
use Rattle.script.proofs.read_line.Goals as goal

pub returns-in_default-clause-words : goal.returns-in_default-clause-words
returns-in_default-clause-words c = λ ok. nothing_laid c.args.found c.args.held.now (line_says c.args.line.now) (grind (arith, common_steps))

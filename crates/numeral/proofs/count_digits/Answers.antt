-- `numeral::count_digits` meets its contract. Assumes nothing.
use native.Mathlib.Omega.{arith}
use Rattle.std.proofs.lemmas.Grind.{common_steps}
use Rattle.numeral.proofs.Decimal.{counted, count_last}
use Rattle.numeral.proofs.count_digits.Goals as goal

pub returns : goal.returns
returns c = grind (arith, common_steps, counted c.args.n, count_last 19 c.args.n)

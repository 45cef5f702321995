-- `chance::of_word` meets its contract. Assumes nothing.
use mathlib.Core.Path.{refl}
use Rattle.chance.proofs.ThereAndBack.{no_nan_bits, there_and_back}
use Rattle.chance.proofs.of_word.Goals as goal

pub float_from_bits-result : goal.float_from_bits-result
float_from_bits-result c = no_nan_bits c.args.word c.requires

pub returns : goal.returns
returns c = let law = there_and_back c.args.word c.requires in (refl, law.0, law.1)

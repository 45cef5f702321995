-- `chance::word_of` meets its contract. Assumes nothing.
use mathlib.Core.Path.{refl}
use denote.Floats.{passes}
use Rattle.chance.proofs.ThereAndBack.{no_nan, back_and_there}
use Rattle.chance.proofs.word_of.Goals as goal

pub float_to_bits-result : goal.float_to_bits-result
float_to_bits-result c = no_nan c.args.p c.requires

pub returns : goal.returns
returns c = let law = back_and_there c.args.p (passes _ c.well_formed.0.1) c.requires in (refl, law.0, law.1)

-- `script_utf8::wrong` meets its contract: its tests are those of the definition. Assumes nothing.
use mathlib.Core.Path.{refl}
use Rattle.script_utf8.specs.Sure.{continues, awaited, too_low, too_high, in_none, wrong_at}
use Rattle.script_utf8.proofs.wrong.Goals as goal

pub returns : goal.returns
unfolding continues awaited too_low too_high in_none wrong_at
returns c = refl

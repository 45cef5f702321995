-- `properties_quick::nothing_new` meets its contract: the lengths and the tracker's head are right, and every plant is still. Assumes nothing.
use Rattle.std.proofs.Common.{arith}
use Rattle.std.proofs.lemmas.Grind.{common_steps}
use Rattle.properties_quick.proofs.Passing.{nothing_new}
use Rattle.properties_quick.proofs.nothing_new.Goals as goal

pub returns-then-number-le-ENTRIES : goal.returns-then-number-le-ENTRIES
returns-then-number-le-ENTRIES c = λ e.
    let a = c.args in
    grind (arith, common_steps, nothing_new a.n a.plants.now a.logs.now a.tracker.now (c.all_still.ensures e))

-- `network_drop::drop_above` meets its contract: what `keep_front` leaves behind the records kept is cleared. Assumes nothing.
use native.Mathlib.Omega.{arith}
use Rattle.network_drop.proofs.Keeping.{ended, cleared}
use Rattle.network_drop.proofs.drop_above.Goals as goal

pub overflow_mul-m : goal.overflow_mul-m
overflow_mul-m c = let m = ended _ _ _ _ _ c.keep_front-m.ensures.count c.keep_front-m.ensures.words in omega (arith, m.within)

pub clear-requires : goal.clear-requires
clear-requires c = let m = ended _ _ _ _ _ c.keep_front-m.ensures.count c.keep_front-m.ensures.words in omega (arith, m.within)

pub returns-clause-words : goal.returns-clause-words
returns-clause-words c = let m = ended _ _ _ _ _ c.keep_front-m.ensures.count c.keep_front-m.ensures.words in cleared _ _ _ _ _ m _ c.clear.ensures

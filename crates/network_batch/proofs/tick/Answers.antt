-- `network_batch::tick` meets its contract: the number of what stopped it, or 0. Assumes nothing.
use Rattle.network_batch.proofs.tick.Goals as goal

pub number-requires : goal.number-requires
number-requires c = c.in-Err.ensures.within

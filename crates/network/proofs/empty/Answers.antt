-- `network::empty` meets its contract: the array of no records is zeros. Assumes nothing.
use Rattle.nights.specs.Record.{record_words}
use Rattle.network_queue.specs.Packed.{packed}
use Rattle.network.proofs.empty.Goals as goal

pub returns : goal.returns
unfolding packed record_words
returns c = rw c.empty.ensures

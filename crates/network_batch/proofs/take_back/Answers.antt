-- `network_batch::take_back` meets its contract. Assumes nothing.
use mathlib.Core.Path.{sym}
use Rattle.network_drop.proofs.Dropping.{dropped}
use Rattle.network_form.proofs.Maps.{small, words_are}
use Rattle.network_batch.proofs.take_back.Goals as goal

pub drop_above-requires : goal.drop_above-requires
drop_above-requires c = small c.args.after c.args.records.now c.requires

pub returns : goal.returns
returns c = let a = c.args in
    dropped a.records.now a.after.pending (sym (words_are a.after a.records.now c.requires c.told-records)) (small a.after a.records.now c.requires) a.last _ _ c.drop_above.ensures.count c.drop_above.ensures.words

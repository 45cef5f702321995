-- `journal_words::write` meets its contract: a well-formed network has good options. Assumes nothing.
use mathlib.Core.Path.{refl}
use Rattle.network.proofs.Structs.{formed_options}
use Rattle.journal_words.proofs.write.Goals as goal

pub store-requires : goal.store-requires
store-requires c = formed_options c.args.network c.requires

pub returns : goal.returns
returns c = record { head = c.store.ensures; records = refl }

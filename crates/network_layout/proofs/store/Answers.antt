-- `network_layout::store` meets its contract: good options have good probabilities, whose words are theirs. Assumes nothing.
use mathlib.Core.Path.{◌∙◌}
use denote.Floats.{passes}
use Rattle.network_options.proofs.OptionForms.{good_chances, flag_bit}
use Rattle.network_layout.proofs.store.Goals as goal

pub word_of-requires : goal.word_of-requires
word_of-requires c = passes _ (good_chances c.args.head.options c.requires).0

pub word_of-requires-2 : goal.word_of-requires-2
word_of-requires-2 c = passes _ (good_chances c.args.head.options c.requires).1

pub returns : goal.returns
returns c = rw (c.word_of.ensures.0, c.word_of-2.ensures.0, c.from.ensures ∙ flag_bit c.args.head.options.fault_client_messages)

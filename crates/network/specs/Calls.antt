-- Each call of the code by the calls on its head and its words. A refusal hands back the very struct. Assumes nothing.
use Rattle.std.specs.Prelude.{[]}
use Rattle.nights.specs.Net.{Options, Change, fresh}
use Rattle.nights.specs.Tests.{Answer, if_done, verdict, option_tests}
use Rattle.network_options.specs.Options.{perfect_options}
use Rattle.network_form.specs.Calls.{answer_in, head_after, records_after}
use Rattle.network.specs.declared.Network.{Network}
use Rattle.network.specs.Forms.{struct_of}

-- a send, a take or a change of options
abbrev pub call_answer : Change → Network → Answer
call_answer c s = answer_in c s.head s.words

abbrev pub call_network : Change → Network → Network
call_network c s = record { head = head_after c s.head s.words; words = records_after c s.head s.words }

-- a fresh network: of the options handed in, or of the perfect ones where those are refused
unfoldable pub first_network : Options → Network
first_network o = if_done (verdict (option_tests o [])) (struct_of (fresh o)) (struct_of (fresh perfect_options))

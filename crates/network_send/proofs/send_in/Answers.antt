-- `network_send::send_in` meets its contract: an ill-formed network is refused, and a well-formed one is `send_on`'s. Assumes nothing.
use mathlib.Core.Path.{sym, ◌∙◌}
use Rattle.nights.specs.Net.{send}
use Rattle.network_form.proofs.Calling.{call_ill}
use Rattle.network_send.specs.Sends.{plain_letter}
use Rattle.network_send.proofs.Testing.{unsent}
use Rattle.network_send.proofs.send_in.Goals as goal

pub returns : goal.returns
returns c = let a = c.args in let told = unsent a.head a.w.now (plain_letter a.letter) a.draws.now a.extras.now 23
    (call_ill a.head a.w.now (send (plain_letter a.letter) a.draws.now a.extras.now) (sym c.formed.ensures ∙ c.if-formed.false)) in record { head = told.0; records = told.1.0; answer = told.1.1 }

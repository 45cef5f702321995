-- `network_take::take_in` meets its contract: an ill-formed network is refused, and a well-formed one is `take_on`'s. Assumes nothing.
use mathlib.Core.Path.{sym, ◌∙◌}
use lib.ListN.{length}
use Rattle.nights.specs.Net.{collect}
use Rattle.network_form.proofs.Calling.{call_ill}
use Rattle.network_take.proofs.Taking.{untaken}
use Rattle.network_take.proofs.take_in.Goals as goal

pub returns : goal.returns
returns c = let a = c.args in let told = untaken a.head a.w.now a.tick a.out.now 23
    (call_ill a.head a.w.now (collect a.tick (length a.out.now)) (sym c.formed.ensures ∙ c.if-formed.false)) in record { head = told.0; records = told.1.0; answer = told.1.1.0; out = told.1.1.1 }

-- `network_take::count_in` meets its contract. Assumes nothing.
use mathlib.Core.Path.{sym, ◌∙◌}
use Rattle.network_take.proofs.Listing.{not_counted, is_counted}
use Rattle.network_take.proofs.count_in.Goals as goal

pub returns-then-not-formed : goal.returns-then-not-formed
returns-then-not-formed c = let a = c.args in not_counted a.head a.w.now (sym c.formed.ensures ∙ c.if-not-formed.true)

pub returns : goal.returns
returns c = let a = c.args in is_counted a.head a.w.now (sym c.formed.ensures ∙ c.if-not-formed.false)

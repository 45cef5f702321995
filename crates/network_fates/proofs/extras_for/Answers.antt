-- `network_fates::extras_for` meets its contract. Assumes nothing.
use borrow.Author.Tests.{eq-eqb, ne_eqb}
use Rattle.nights.specs.Draws.{extras_for}
use Rattle.network_fates.proofs.extras_for.Goals as goal

pub returns-then-options : goal.returns-then-options
unfolding extras_for
returns-then-options c = rw (eq-eqb _ _ c.if-options.true)

pub returns : goal.returns
unfolding extras_for
returns c = rw (ne_eqb _ _ c.if-options.false)

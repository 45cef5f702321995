-- `network_fates::faulted` meets its contract. Assumes nothing.
use mathlib.Core.Path.{◌≡◌, refl}
use mathlib.Core.Bool.{Bool, true, false, not}
use borrow.Author.Tests.{eq-eqb, ne_eqb}
use Rattle.nights.specs.Draws.{request_kind, is_faulted}
use Rattle.network_fates.proofs.faulted.Goals as goal

twice_not : (b : Bool) → b ≡ not (not b)
twice_not true = refl
twice_not false = refl

pub returns-then-kind-ne-REQUEST : goal.returns-then-kind-ne-REQUEST
unfolding is_faulted
returns-then-kind-ne-REQUEST c = rw (ne_eqb _ request_kind c.if-kind-ne-REQUEST.true)

pub returns-else-kind-ne-REQUEST : goal.returns-else-kind-ne-REQUEST
unfolding is_faulted
returns-else-kind-ne-REQUEST c = rw (eq-eqb _ request_kind c.if-kind-ne-REQUEST.false) (twice_not _)

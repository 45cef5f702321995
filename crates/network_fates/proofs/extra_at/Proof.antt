use Rattle.network_fates.proofs.extra_at.Statement.{statement}
use Rattle.network_fates.proofs.extra_at.Tie as tie
use Prim.Native.Nat.{◌+◌, ◌≤◌}
use native.Mathlib.Omega.{arith}
use borrow.Author.Tests.{eq-eqb, ne_eqb}
use lib.ListN.{length}
use Rattle.nights.specs.Draws.{extras_for, extra_at}

-- `network_fates::extra_at` meets its contract: where an extra is used there is one. Assumes nothing.
within : (c : tie.Else-options) → c.args.i + 1 ≤ length c.args.extras.now
unfolding extras_for
within c = rw (ne_eqb _ _ c.if-options.false) at c.requires

returns : tie.Need-returns-then-options
unfolding extra_at
returns c = rw (eq-eqb _ _ c.if-options.true)

mul-result : tie.Need-offset_bounds-extras-i
mul-result c = omega (arith, within c, c.well_formed)

shared-slice-read-result : tie.Need-bounds-extras-i
shared-slice-read-result c = omega (arith, within c.before)

returns-2 : tie.Need-returns
unfolding extra_at
returns-2 c = rw (ne_eqb _ _ c.if-options.false)

pub extra_at_spec : {M : Type 1} → statement M
extra_at_spec = tie.close (tie.spec returns mul-result shared-slice-read-result returns-2)

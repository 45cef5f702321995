-- `network_fates::due_tick` meets its contract: the sum of whole numbers is a tick, or it is past the last. Assumes nothing.
use Prim.Native.Nat.{ℕ, ◌+◌, ◌^◌, ◌<◌}
use mathlib.Core.Path.{◌≡◌, ap, ◌∙◌}
use native.Mathlib.Omega.{arith}
use borrow.Author.Tests.{lt-ltb, le-ltb}
use Rattle.std.specs.Prelude.{Option, Some, None, SomeIff}
use Rattle.network_fates.specs.Answers.{tick_of, tick_from}
use Rattle.network_fates.proofs.due_tick.Goals as goal

told : (r : Option ℕ) (t : ℕ) → SomeIff r (t < 2 ^ 64) t → tick_of r ≡ tick_from t
unfolding tick_from
told (Some x) t h = rw (h.1, lt-ltb t (2 ^ 64) h.0)
told None t h = rw (le-ltb t (2 ^ 64) (omega (arith, h)))

pub returns-in_err-checked_add : goal.returns-in_err-checked_add
unfolding tick_from
returns-in_err-checked_add c = rw (c.from_residual.ensures, le-ltb (c.args.now + c.args.min + c.args.extra) (2 ^ 64) (omega (arith, c.in_err-checked_add.ensures)))

pub returns : goal.returns
returns c =
    let e : c.in_ok-checked_add.field-0 + c.args.extra ≡ c.args.now + c.args.min + c.args.extra = omega (arith, c.in_ok-checked_add.ensures) in
    told c.checked_add-2.result _ c.checked_add-2.ensures ∙ ap tick_from e

-- What is so of each end that the copies of a send can come to is so of the end that they come to. Assumes nothing.
use Prim.Native.Nat.{ℕ}
use mathlib.Core.Bool.{Bool, true, false, cond, ◌&&◌}
use mathlib.Core.List.{List}
use lib.Dec.{leb}
use lib.ListN.{length}
use Rattle.nights.specs.Net.{Options, once, twice}
use Rattle.nights.specs.Draws.{Decided, refusing, extras_for, due_at, is_tick, is_late, alone, both}

-- two tests in order: 27, then 28
by_tests : (P : Decided → Type 0) (d : Decided) → P (refusing 27) → P (refusing 28) → P d → (a b : Bool)
    → P (cond a (cond b d (refusing 28)) (refusing 27))
by_tests P d f l p true true = p
by_tests P d f l p true false = l
by_tests P d f l p false b = f

module _ (P : Decided → Type 0) (o : Options) (now : ℕ) (extras : List ℕ) (drawn : ℕ) (few : P (refusing 27)) (late : P (refusing 28)) where
  pub alone_by : P (record { fate = once (due_at o now extras 0) (is_late o extras 0); draws = drawn; extras = extras_for o 1 })
      → P (alone o now extras drawn)
  unfolding alone
  alone_by p = by_tests P _ few late p (leb (extras_for o 1) (length extras)) (is_tick (due_at o now extras 0))

  pub both_by :
      P (record {
        fate = twice (due_at o now extras 0) (due_at o now extras 1) (is_late o extras 0) (is_late o extras 1);
        draws = drawn;
        extras = extras_for o 2;
      })
      → P (both o now extras drawn)
  unfolding both
  both_by p = by_tests P _ few late p (leb (extras_for o 2) (length extras)) (is_tick (due_at o now extras 0) && is_tick (due_at o now extras 1))

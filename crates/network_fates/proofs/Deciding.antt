-- The fate of a send step by step: what each test on the way says of the whole. Assumes nothing.
use mathlib.Core.Path.{◌≡◌, refl}
use mathlib.Core.List.{List}
use mathlib.Core.Bool.{Bool, true, false, cond, not}
use Prim.Native.Nat.{ℕ, ◌+◌, ◌^◌, ◌≤◌, ◌<◌}
use native.Mathlib.Omega.{arith}
use borrow.Author.Tests.{le-leb, lt-leb}
use lib.Dec.{ltb, eqb}
use lib.Ieee.{binary64, to_bits, of_bits}
use lib.Ieee.Bits.{of_bits-to_bits}
use lib.ListN.{length}
use Rattle.chance.specs.declared.Draw.{Draw}
use Rattle.std.specs.Prelude.{Option, Some}
use Rattle.chance.specs.Draw.{gen_bool_in_send}
use Rattle.nights.specs.Net.{Options, lose, once, twice}
use Rattle.nights.specs.Draws.{Decided, refusing, is_faulted, extras_for, extra_at, due_at, is_tick, is_late, alone, both, after_replay, after_loss, decided}
use Rattle.network_options.specs.declared.NetworkOptions.{NetworkOptions}
use Rattle.network_options.specs.Options.{plain_options}
use Rattle.network_fates.specs.Answers.{at, past, tick_from}
use Rattle.network_options.proofs.OptionForms.{Held}
use Rattle.nights.proofs.Failing.{first, second}

-- ---- ticks

tick_past : (t : ℕ) → tick_from t ≡ past → is_tick t ≡ false
unfolding tick_from is_tick
tick_past t e = go (ltb t (2 ^ 64)) refl e
  where
    go : (b : Bool) → ltb t (2 ^ 64) ≡ b → cond b (at t) past ≡ past → ltb t (2 ^ 64) ≡ false
    go true p h = let z : ◌≡◌ {A = ℕ} 0 1 = cc in absurd (omega arith)
    go false p h = p

tick_at : (t d : ℕ) → tick_from t ≡ at d → (is_tick t ≡ true) × (d ≡ t)
unfolding tick_from is_tick
tick_at t d e = go (ltb t (2 ^ 64)) refl e
  where
    go : (b : Bool) → ltb t (2 ^ 64) ≡ b → cond b (at t) past ≡ at d → (ltb t (2 ^ 64) ≡ true) × (d ≡ t)
    go true p h = (p, cc)
    go false p h = let z : ◌≡◌ {A = ℕ} 0 1 = cc in absurd (omega arith)

-- ---- the copies

module _ (o : Options) (now : ℕ) (extras : List ℕ) (drawn : ℕ) where
  pub one_short : length extras < extras_for o 1 → refusing 27 ≡ alone o now extras drawn
  unfolding alone
  one_short h = rw (lt-leb (extras_for o 1) (length extras) h)

  pub two_short : length extras < extras_for o 2 → refusing 27 ≡ both o now extras drawn
  unfolding both
  two_short h = rw (lt-leb (extras_for o 2) (length extras) h)

  -- the tick of the copy at a place
  abbrev due_of : ℕ → ℕ
  due_of i = now + o.least + extra_at o extras i

  module _ (h : extras_for o 1 ≤ length extras) where
    pub one_late : tick_from (due_of 0) ≡ past → refusing 28 ≡ alone o now extras drawn
    unfolding alone due_at
    one_late e = rw (le-leb (extras_for o 1) (length extras) h, tick_past (due_of 0) e)

    pub one_told : (d : ℕ) → tick_from (due_of 0) ≡ at d
        → ◌≡◌ {A = Decided} (record { fate = once d (not (eqb (extra_at o extras 0) 0)); draws = drawn; extras = extras_for o 1 })
        (alone o now extras drawn)
    unfolding alone due_at is_late
    one_told d e =
        let t = tick_at (due_of 0) d e in
        rw (t.1, le-leb (extras_for o 1) (length extras) h, t.0)

  module _ (h : extras_for o 2 ≤ length extras) where
    pub copy_late : tick_from (due_of 0) ≡ past → refusing 28 ≡ both o now extras drawn
    unfolding both due_at
    copy_late e =
        rw (le-leb (extras_for o 2) (length extras) h, first (is_tick (due_of 0)) (is_tick (due_of 1)) (tick_past (due_of 0) e))

    pub original_late : tick_from (due_of 1) ≡ past → refusing 28 ≡ both o now extras drawn
    unfolding both due_at
    original_late e =
        rw (le-leb (extras_for o 2) (length extras) h, second (is_tick (due_of 0)) (is_tick (due_of 1)) (tick_past (due_of 1) e))

    pub two_told : (c d : ℕ) → tick_from (due_of 0) ≡ at c → tick_from (due_of 1) ≡ at d
        → ◌≡◌ {A = Decided}
        (record {
          fate = twice c d (not (eqb (extra_at o extras 0) 0)) (not (eqb (extra_at o extras 1) 0));
          draws = drawn;
          extras = extras_for o 2;
        })
        (both o now extras drawn)
    unfolding both due_at is_late
    two_told c d e f =
        let s = tick_at (due_of 0) c e in
        let t = tick_at (due_of 1) d f in
        rw (s.1, t.1, le-leb (extras_for o 2) (length extras) h, s.0, t.0)

-- how many extras one copy uses, where two have enough
pub one_of_two : (o : Options) (n : ℕ) → extras_for o 2 ≤ n → extras_for o 1 ≤ n
unfolding extras_for
one_of_two o n h = go (eqb o.mean o.least) h
  where
    go : (b : Bool) → cond b 0 2 ≤ n → cond b 0 1 ≤ n
    go true k = k
    go false k = omega arith

-- ---- a draw that answered yes, and one that answered no

module _ (o : Options) (now : ℕ) (extras : List ℕ) (d : Draw) where
  pub replay_yes : d.yes ≡ true → both o now extras d.next ≡ after_replay o now extras (Some d)
  unfolding after_replay
  replay_yes e = rw e

  pub replay_no : d.yes ≡ false → alone o now extras d.next ≡ after_replay o now extras (Some d)
  unfolding after_replay
  replay_no e = rw e

  pub loss_yes : (draws : List ℕ) → d.yes ≡ true
      → ◌≡◌ {A = Decided} (record { fate = lose; draws = d.next; extras = 0 }) (after_loss o now draws extras (Some d))
  unfolding after_loss
  loss_yes draws e = rw e

  pub loss_no : (draws : List ℕ) → d.yes ≡ false
      → after_replay o now extras (gen_bool_in_send (of_bits binary64 o.replay) draws d.next) ≡ after_loss o now draws extras (Some d)
  unfolding after_loss
  loss_no draws e = rw e

-- ---- the draws, on the probabilities that the words stand for

module _ (o : NetworkOptions) (held : Held o) (now : ℕ) (draws extras : List ℕ) where
  pub loss_drawn : (kind : ℕ) (d : Option Draw) → is_faulted (plain_options o) kind ≡ true
      → gen_bool_in_send o.packet_loss_probability draws 0 ≡ d
      → decided (plain_options o) now kind draws extras ≡ after_loss (plain_options o) now draws extras d
  unfolding decided
  loss_drawn kind d f e = rw (f, of_bits-to_bits binary64 o.packet_loss_probability held.loss, e)

  pub replay_drawn : (place : ℕ) (r : Decided)
      → r ≡ after_replay (plain_options o) now extras (gen_bool_in_send o.packet_replay_probability draws place)
      → r ≡ after_replay (plain_options o) now extras (gen_bool_in_send (of_bits binary64 (to_bits binary64 o.packet_replay_probability)) draws place)
  replay_drawn place r e = rw (of_bits-to_bits binary64 o.packet_replay_probability held.replay) e

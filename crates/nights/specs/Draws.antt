-- What a send's lent draws and extras decide (RULES, "The network"): whether the message is lost, replayed, how late each copy is,
-- and how many words of each list are used, from its front. The draws are chance's. Of the refusals 26, 27 and 28 the first that
-- the whole call meets answers. Assumes nothing.
use Rattle.std.specs.Prelude.{ℕ, ◌+◌, ◌^◌, List, Bool, false, cond, ◌&&◌, not, leb, ltb, eqb, length, get_or, Option, Some, None}
use Rattle.std.specs.Float.{binary64}
use Rattle.std.specs.Float.Ieee.{of_bits}
use Rattle.chance.specs.declared.Draw.{Draw}
use Rattle.chance.specs.Draw.{gen_bool_in_send}
use Rattle.nights.specs.Net.{Options, Fate, refuse, lose, once, twice, Draws}

-- a fate, and how many words of the draws and of the extras it used
pub record Decided : Type 0 where
  pub fate : Fate
  pub draws : ℕ
  pub extras : ℕ

-- a refusal uses no word
abbrev pub refusing : ℕ → Decided
refusing k = record { fate = refuse k; draws = 0; extras = 0 }

-- a message is faulted, unless it is a Request, whoever sent it, and client faults are off
abbrev pub request_kind : ℕ
request_kind = 0

unfoldable pub is_faulted : Options → ℕ → Bool
is_faulted o kind = not (eqb kind request_kind && not o.faulted)

-- how many extras so many copies use: none where the mean is the minimum
unfoldable pub extras_for : Options → ℕ → ℕ
extras_for o copies = cond (eqb o.mean o.least) 0 copies

-- the extra of the copy at a place: the lent one, or 0 where none is used
unfoldable pub extra_at : Options → List ℕ → ℕ → ℕ
extra_at o extras i = cond (eqb o.mean o.least) 0 (get_or extras i 0)

-- its due tick, a whole number, and whether a tick can be so late
unfoldable pub due_at : Options → ℕ → List ℕ → ℕ → ℕ
due_at o now extras i = now + o.least + extra_at o extras i

unfoldable pub is_tick : ℕ → Bool
is_tick d = ltb d (2 ^ 64)

-- its delay counts, if its extra is above 0
unfoldable pub is_late : Options → List ℕ → ℕ → Bool
is_late o extras i = not (eqb (extra_at o extras i) 0)

-- the original alone, and the copy before the original, after so many draws: 27, then 28
unfoldable pub alone : Options → ℕ → List ℕ → ℕ → Decided
alone o now extras drawn =
    cond (leb (extras_for o 1) (length extras))
    (cond (is_tick (due_at o now extras 0))
    (record { fate = once (due_at o now extras 0) (is_late o extras 0); draws = drawn; extras = extras_for o 1 })
    (refusing 28))
    (refusing 27)

unfoldable pub both : Options → ℕ → List ℕ → ℕ → Decided
both o now extras drawn =
    cond (leb (extras_for o 2) (length extras))
    (cond (is_tick (due_at o now extras 0) && is_tick (due_at o now extras 1))
    (record {
      fate = twice (due_at o now extras 0) (due_at o now extras 1) (is_late o extras 0) (is_late o extras 1);
      draws = drawn;
      extras = extras_for o 2;
    })
    (refusing 28))
    (refusing 27)

-- after the replay draw, and after the loss draw: a draw that finds no word is 26
unfoldable pub after_replay : Options → ℕ → List ℕ → Option Draw → Decided
after_replay o now extras (Some d) = cond d.yes (both o now extras d.next) (alone o now extras d.next)
after_replay o now extras None = refusing 26

unfoldable pub after_loss : Options → ℕ → List ℕ → List ℕ → Option Draw → Decided
after_loss o now draws extras (Some d) =
    cond d.yes
    (record { fate = lose; draws = d.next; extras = 0 })
    (after_replay o now extras (gen_bool_in_send (of_bits binary64 o.replay) draws d.next))
after_loss o now draws extras None = refusing 26

-- the whole: a message that is not faulted is due at once
unfoldable pub decided : Options → ℕ → ℕ → List ℕ → List ℕ → Decided
decided o now kind draws extras =
    cond (is_faulted o kind)
    (after_loss o now draws extras (gen_bool_in_send (of_bits binary64 o.loss) draws 0))
    (record { fate = once now false; draws = 0; extras = 0 })

-- the draw rules, as the calls of the journal's theorem take them
abbrev pub fate_of : Draws
fate_of o now kind draws extras = (decided o now kind draws extras).fate

-- What an accepted send does to the pending list, with no sorting: it rises, and its members are those that were pending and the copies, no
-- more and no fewer. And a take at the last tick takes all. Assumes nothing.
use Prim.Native.Nat.{ℕ, zero, suc, ◌+◌, ◌-◌, ◌^◌, ◌<◌}
use mathlib.Core.Path.{◌≡◌, refl, sym, ap, ◌∙◌, subst}
use mathlib.Core.Logic.{◌⊎◌}
use mathlib.Core.Bool.{true}
use mathlib.Core.List.{List, [], ◌∷◌, Memᴰ as Member}
use native.Mathlib.Omega.{arith}
use borrow.Author.Tests.{le-leb}
use lib.ListN.{length, get_or}
use Rattle.nights.specs.Record.{Record, record_size, recs}
use Rattle.nights.specs.Net.{Plain, keep, rising, dues, Letter, copies, send, is_due, is_later, effect}
use Rattle.nights.specs.Draws.{fate_of}
use Rattle.nights.proofs.Order.{All, all_map, keep_all, length_split}
use Rattle.nights.proofs.Exact.{old_insert_all, in_insert_all, of_insert_all}
use Rattle.nights.proofs.Kept.{rises}
use Rattle.network_form.specs.Forms.{plain_in}
use Rattle.network_layout.specs.Layout.{head_in}
use Rattle.network_words.specs.Calls.{send_rows, take_rows}
use Rattle.host.proofs.Composing.{sent_in_form, taken_in_form}

-- what rows hold pending
abbrev pending_in : (h r : List ℕ) → List Record
pending_in h r = (plain_in (head_in h) r).pending

-- ---- a send

pub record Joined (before new after : List Record) : Type 0 where
  pub rises : rising after ≡ true
  pub old : (x : Record) → Member x before → Member x after
  pub copied : (x : Record) → Member x new → Member x after
  pub only : (x : Record) → Member x after → Member x new ⊎ Member x before

module _ (h r : List ℕ) (m : Letter) (draws extras told : List ℕ) where
  -- the copies of its fate, numbered from the network's number on
  abbrev pub copies_of : List Record
  copies_of = copies m (plain_in (head_in h) r).seq (dues (fate_of (plain_in (head_in h) r).options m.now m.kind draws extras))

  pub send_members : let t = send_rows h r m draws extras told in
      t.number ≡ 0 → Joined (pending_in h r) copies_of (pending_in t.head t.records)
  unfolding effect
  send_members e =
      let f = sent_in_form h r m draws extras told e in
      subst (λ (l : List Record). Joined (pending_in h r) copies_of l) (sym (ap (λ (n : Plain). n.pending) f.plain))
      (record {
        rises = rises (effect fate_of (send m draws extras) (plain_in (head_in h) r)) f.well;
        old = λ x k. old_insert_all x copies_of (pending_in h r) k;
        copied = λ x k. in_insert_all x copies_of (pending_in h r) k;
        only = λ x k. of_insert_all x copies_of (pending_in h r) k;
      })

-- ---- the last tick

abbrev pub last_tick : ℕ
last_tick = 2 ^ 64 - 1

none_left : (l : List Record) → length l ≡ 0 → l ≡ []
none_left [] e = refl
none_left (x ∷ xs) e = absurd (omega arith)

-- every record whose due tick is one of 64 bits is due then
pub last_tick_takes_all : (l : List Record) → All (λ (x : Record). x.due < 2 ^ 64) l → keep (is_due last_tick) l ≡ l
last_tick_takes_all l a =
    keep_all (is_due last_tick) l (all_map (λ (x : Record) (h : x.due < 2 ^ 64). le-leb x.due last_tick (omega arith)) l a)

-- and so are all that are pending in words of 64 bits
module _ (h r : List ℕ) (small : (i : ℕ) → get_or r i 0 < 2 ^ 64) where
  ticks : (b n : ℕ) → All (λ (x : Record). x.due < 2 ^ 64) (recs r b n)
  unfolding recs
  ticks b zero = tt
  ticks b (suc n) = (small b, ticks (b + record_size) n)

  pub last_tick_takes_pending : keep (is_due last_tick) (pending_in h r) ≡ pending_in h r
  last_tick_takes_pending = last_tick_takes_all (pending_in h r) (ticks 0 (head_in h).pending)

  -- so an accepted take then leaves nothing pending
  pub last_tick_empties : (out told : List ℕ) → let t = take_rows h r last_tick out told in
      t.number ≡ 0 → pending_in t.head t.records ≡ []
  unfolding effect
  last_tick_empties out told e =
      let f = taken_in_form h r last_tick out told e in
      ap (λ (n : Plain). n.pending) f.plain
      ∙ none_left (keep (is_later last_tick) (pending_in h r))
      (omega (arith, length_split (is_due last_tick) (pending_in h r), ap length last_tick_takes_pending))

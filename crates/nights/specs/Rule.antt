-- The rule (RULES, "Journal"): what a standing list, the oldest first, says of the network. It runs no queue. Assumes nothing.
use Rattle.std.specs.Prelude.{ℕ, zero, suc, ◌+◌, ◌≡◌, Bool, true, ◌&&◌, not, length, leb}
use mathlib.Core.List.{List, [], ◌∷◌, ◌++◌, map, Memᴰ as Member}
use Rattle.nights.specs.Record.{Record}
use Rattle.nights.specs.Net.{Options, Plain, keep, rising, Fate, dues, lost_by, replayed_by, delayed_by, Draws, Change, send, collect, choose, copies}

-- the options that a call leaves
unfoldable pub options_by : Options → Change → Options
options_by o (send m draws extras) = o
options_by o (collect now room) = o
options_by o (choose p) = p

unfoldable pub options_rule : Options → List Change → Options
options_rule o [] = o
options_rule o (c ∷ later) = options_rule (options_by o c) later

-- a copy that was made, and the calls that stand after the send that made it
pub record Made : Type 0 where
  pub copy : Record
  pub later : List Change

abbrev pub followed : List Change → Record → Made
followed later r = record { copy = r; later = later }

abbrev pub seq_of : Made → ℕ
seq_of m = m.copy.seq

-- no take of the list names a tick at or past the copy's due tick
unfoldable pub missed_by : Change → Record → Bool
missed_by (send m draws extras) r = true
missed_by (collect now room) r = not (leb r.due now)
missed_by (choose p) r = true

unfoldable pub untaken : List Change → Record → Bool
untaken [] r = true
untaken (c ∷ later) r = missed_by c r && untaken later r

-- so a copy waits if no later take took it, and is gone otherwise
abbrev pub waits : Made → Bool
waits m = untaken m.later m.copy

abbrev pub gone : Made → Bool
gone m = not (untaken m.later m.copy)

unfoldable pub total : (Fate → ℕ) → List Fate → ℕ
total f [] = 0
total f (x ∷ xs) = f x + total f xs

module _ (fate : Draws) where
  -- the fates of the sends, in order
  unfoldable pub fate_by : Options → Change → List Fate
  fate_by o (send m draws extras) = fate o m.now m.kind draws extras ∷ []
  fate_by o (collect now room) = []
  fate_by o (choose p) = []

  unfoldable pub fates : Options → List Change → List Fate
  fates o [] = []
  fates o (c ∷ later) = fate_by o c ++ fates (options_by o c) later

  -- the copies that a call makes, numbered from q + 1
  unfoldable pub makes : Options → ℕ → Change → List Record
  makes o q (send m draws extras) = copies m q (dues (fate o m.now m.kind draws extras))
  makes o q (collect now room) = []
  makes o q (choose p) = []

  -- all copies, in order of making
  unfoldable pub made : Options → ℕ → List Change → List Made
  made o q [] = []
  made o q (c ∷ later) = map (followed later) (makes o q c) ++ made (options_by o c) (q + length (makes o q c)) later

-- The pending list with no sorting: it rises strictly in (due, seq), its members are the copies that wait, no more and no fewer,
-- and a copy's seq is its place in the order of making. Two lists of which this holds are equal (proofs/Unique).
unfoldable pub from : ℕ → ℕ → List ℕ
from a zero = []
from a (suc n) = a ∷ from (a + 1) n

pub record Exactly (ms : List Made) (l : List Record) : Type 0 where
  pub rises : rising l ≡ true
  pub all : (m : Made) → Member m ms → waits m ≡ true → Member m.copy l
  pub only : (r : Record) → Member r l → (m : Made) × Member m ms × (waits m ≡ true) × (m.copy ≡ r)
  pub numbers : map seq_of ms ≡ from 1 (length ms)

module _ (fate : Draws) (o : Options) (st : List Change) where
  -- so many copies wait, and so many are gone
  abbrev pub waiting_rule : ℕ
  waiting_rule = length (keep waits (made fate o 0 st))

  abbrev pub delivered_rule : ℕ
  delivered_rule = length (keep gone (made fate o 0 st))

  abbrev pub sent_rule : ℕ
  sent_rule = length (fates fate o st)

  abbrev pub lost_rule : ℕ
  lost_rule = total lost_by (fates fate o st)

  abbrev pub replayed_rule : ℕ
  replayed_rule = total replayed_by (fates fate o st)

  abbrev pub delayed_rule : ℕ
  delayed_rule = total delayed_by (fates fate o st)

  -- the options and the counters are what the standing list says
  pub record Counted (n : Plain) : Type 0 where
    pub options : n.options ≡ options_rule o st
    pub seq : n.seq ≡ length (made fate o 0 st)
    pub sent : n.sent ≡ sent_rule
    pub delivered : n.delivered ≡ delivered_rule
    pub lost : n.lost ≡ lost_rule
    pub replayed : n.replayed ≡ replayed_rule
    pub delayed : n.delayed ≡ delayed_rule
    pub waiting : length n.pending ≡ waiting_rule
    pub balance : sent_rule + replayed_rule ≡ delivered_rule + lost_rule + waiting_rule

  -- and the whole network is
  pub record Told (n : Plain) : Type 0 where
    pub counted : Counted n
    pub pending : Exactly (made fate o 0 st) n.pending

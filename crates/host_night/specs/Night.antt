-- A host's night (demand 3): a network and a journal made in lent words, then any calls bellmantle_journal_* of include/bellmantle.h one
-- after the other, each on the words that the last one left and as its contract in crates/bellmantle/src/lib.rt says; and what the words
-- are then. Assumes nothing.
use Rattle.std.specs.Prelude.{ℕ, zero, suc, ◌≤◌, ◌<◌, ◌≡◌, List, [], ◌∷◌, ◌++◌, map, length, drop}
use Rattle.nights.specs.Net.{Options, Plain, Change, send, collect, choose}
use Rattle.nights.specs.Draws.{fate_of}
use Rattle.nights.specs.Tests.{Answer, done, refused}
use Rattle.nights.specs.Journal.{Call, change, rewind, mark}
use Rattle.nights.specs.Standing.{Entry, struck, standing, reached}
use Rattle.nights.specs.Rule.{Told}
use Rattle.network_queue.specs.Packed.{packed}
use Rattle.network_form.specs.Forms.{plain_in, head_of}
use Rattle.network_layout.specs.Layout.{head_in, head_words, answer_code}
use Rattle.network_words.specs.Calls.{new_rows}
use Rattle.journal_calls.specs.Calls.{mark_answer, mark_words}
use Rattle.journal_words.specs.Calls.{journal_answer, journal_head, journal_records, journal_words}

-- what the host holds between two calls: a network's head, its records, and the journal
pub record Lent : Type 0 where
  pub head : List ℕ
  pub records : List ℕ
  pub journal : List ℕ

-- a call that was made: the call, the number that it returned, and what the host held then
pub record Turn : Type 0 where
  pub call : Call
  pub number : ℕ
  pub after : Lent

-- ---- what the contracts say of a call; its answer words and a take's output are not held

-- bellmantle_journal_send, bellmantle_journal_take_due and bellmantle_journal_rewind
pub record Written (l : Lent) (c : Call) (number : ℕ) (after : Lent) : Type 0 where
  pub answers : number ≡ answer_code (journal_answer c l.head l.records l.journal)
  pub head : after.head ≡ journal_head c l.head l.records l.journal
  pub records : after.records ≡ journal_records c l.head l.records l.journal
  pub journal : after.journal ≡ journal_words c l.head l.records l.journal

-- bellmantle_journal_set_options, which is lent the records to read alone
pub record Chosen (l : Lent) (c : Call) (number : ℕ) (after : Lent) : Type 0 where
  pub answers : number ≡ answer_code (journal_answer c l.head l.records l.journal)
  pub head : after.head ≡ journal_head c l.head l.records l.journal
  pub records : after.records ≡ l.records
  pub journal : after.journal ≡ journal_words c l.head l.records l.journal

-- bellmantle_journal_mark, which is lent the journal alone
pub record Marked (l : Lent) (number : ℕ) (after : Lent) : Type 0 where
  pub answers : number ≡ answer_code (mark_answer l.journal)
  pub head : after.head ≡ l.head
  pub records : after.records ≡ l.records
  pub journal : after.journal ≡ mark_words l.journal

unfoldable pub Called : Lent → Call → ℕ → Lent → Type 0
Called l (change (send m draws extras)) number after = Written l (change (send m draws extras)) number after
Called l (change (collect now room)) number after = Written l (change (collect now room)) number after
Called l (change (choose o)) number after = Chosen l (change (choose o)) number after
Called l (rewind k) number after = Written l (rewind k) number after
Called l mark number after = Marked l number after

-- ---- the night

-- one call after the other
unfoldable pub Night : Lent → List Turn → Type 0
Night l [] = Unit {0}
Night l (t ∷ ts) = Called l t.call t.number t.after × Night t.after ts

-- what the host holds at the end
unfoldable pub end_of : Lent → List Turn → Lent
end_of l [] = l
end_of l (t ∷ ts) = end_of t.after ts

-- the calls, and the calls with their answers: 0 is done, and any other number a refusal's
abbrev pub calls_of : List Turn → List Call
calls_of ts = map (λ (t : Turn). t.call) ts

unfoldable pub answered : ℕ → Answer
answered zero = done
answered (suc k) = refused (suc k)

abbrev pub entries_of : List Turn → List Entry
entries_of ts = map (λ (t : Turn). record { call = t.call; answer = answered t.number }) ts

-- the plain form of the network in what the host holds
abbrev pub plain_lent : Lent → Plain
plain_lent l = plain_in (head_in l.head) l.records

-- DEMAND 3, of any words h, r and j that the host lends to bellmantle_network_new and bellmantle_journal_mark

abbrev pub evening : (h r j : List ℕ) → Options → Lent
evening h r j o = record { head = (new_rows h r o).head; records = (new_rows h r o).records; journal = mark_words j }

module _ (h r j : List ℕ) (o : Options) (ts : List Turn) where
  abbrev pub morning : Lent
  morning = end_of (evening h r j o) ts

  pub record Demand3 : Type 0 where
    -- the network is what the standing list says, by the rule that runs no queue
    pub told : Told fate_of o (standing (entries_of ts)) (plain_lent morning)
    -- every word of it is settled by that, the zeros behind the records too; and the journal keeps its length
    pub whole : (morning.head ≡ head_words (head_of (plain_lent morning)))
        × (morning.records ≡ packed (plain_lent morning).pending)
        × (length morning.journal ≡ length j)
    -- a rewind as far as the last mark is done, and puts back every word from a time of the night when all stood but the last k
    pub rewinds : (k : ℕ) → k ≤ reached 0 (entries_of ts)
        → (before : List Turn) × (later : List Turn) × (ts ≡ before ++ later)
        × (struck [] (entries_of before) ≡ drop k (struck [] (entries_of ts)))
        × ((number : ℕ) (after : Lent) → Called morning (rewind k) number after
        → (number ≡ 0)
        × (after.head ≡ (end_of (evening h r j o) before).head)
        × (after.records ≡ (end_of (evening h r j o) before).records))
    -- one past it is refused by 33, and no word changes
    pub stops : (k : ℕ) → reached 0 (entries_of ts) < k → (number : ℕ) (after : Lent) → Called morning (rewind k) number after
        → (number ≡ 33) × (after ≡ morning)
    -- what stood at a mark stands for good
    pub marks : (before later : List Turn) (t : Turn) → ts ≡ before ++ (t ∷ later) → t.call ≡ mark → t.number ≡ 0
        → (more : List Change) × (standing (entries_of ts) ≡ standing (entries_of before) ++ more)

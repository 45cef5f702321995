-- A tick as the exported calls make it, one after the other: each send on the head and the records that the last one left, with the draws
-- and the extras behind those that the words told say were used, and then the take. It stops at the first answer that is not 0.
-- Assumes nothing.
use Rattle.std.specs.Prelude.{ℕ, zero, suc, ◌+◌, ◌/◌, ◌≡◌, cond, List, ◌∷◌, eqb, length, drop}
use Rattle.network_words.specs.Calls.{Rows, send_rows, take_rows}
use Rattle.network_batch.specs.Ticks.{message_words, letter_at, number_at}
use Rattle.host.specs.Calls.{draws_told, extras_told}

-- how many messages a list has
abbrev pub messages : List ℕ → ℕ
messages sends = length sends / message_words

-- what calls leave: the head and the records, the draws and the extras used; or the first answer that is not 0, and its place
pub data Called : Type 0 where
  through : (h r : List ℕ) (draws extras : ℕ) → Called
  halted : (number place : ℕ) → Called

-- the sends, `left` of them from a place on, after so many draws and extras; `lent` is the row lent to each for what it tells
module _ (sends draws extras lent : List ℕ) where
  abbrev pub send_at : (place d x : ℕ) (h r : List ℕ) → Rows
  send_at place d x h r = send_rows h r (letter_at sends place) (drop d draws) (drop x extras) lent

  unfoldable pub calls_from : (left place d x : ℕ) (h r : List ℕ) → Called
  calls_from zero place d x h r = through h r d x
  calls_from (suc left) place d x h r =
      let t = send_at place d x h r in
      cond (eqb t.number 0) (calls_from left (suc place) (d + draws_told t) (x + extras_told t) t.head t.records)
      (halted t.number place)

-- the whole, on rows lent for the tick: a refused one leaves them all
module _ (h r sends draws extras : List ℕ) (now : ℕ) (out told lent last : List ℕ) where
  abbrev pub halted_at : (number place : ℕ) → Rows
  halted_at k place = record { number = number_at k place; head = h; records = r; out = out; told = told }

  abbrev pub sends_called : Called
  sends_called = calls_from sends draws extras lent (messages sends) 0 0 0 h r

  -- the take at last, to which the row `last` is lent for what it tells
  unfoldable pub take_called : Called → Rows
  take_called (halted k place) = halted_at k place
  take_called (through g w d x) =
      let t = take_rows g w now out last in
      cond (eqb t.number 0)
      (record { number = 0; head = t.head; records = t.records; out = t.out; told = d ∷ x ∷ t.told })
      (halted_at t.number (messages sends))

  abbrev pub called_one_by_one : Rows
  called_one_by_one = take_called sends_called

  -- every call answered 0: the sends came through with this head and these records, and the take on them did too
  pub record EveryZero : Type 0 where
    pub sent_head : List ℕ
    pub sent_records : List ℕ
    pub drawn : ℕ
    pub added : ℕ
    pub sent : sends_called ≡ through sent_head sent_records drawn added
    pub taken : (take_rows sent_head sent_records now out last).number ≡ 0

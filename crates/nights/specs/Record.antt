-- A queued copy of a message: its eight numbers, and the words that hold them (RULES, "The network"). The words of a record, their
-- order and their number are said here alone. Assumes nothing.
use Rattle.std.specs.Prelude.{List, [], ◌∷◌, ◌++◌, ℕ, zero, suc, ◌+◌, get_or}

-- due tick, number, the tick at which it was sent, the origin's sort (0 replica, 1 client) and id, the receiver, the message's kind,
-- and the handle of a body that the host keeps
pub record Record : Type 0 where
  pub due : ℕ
  pub seq : ℕ
  pub sent_at : ℕ
  pub sort : ℕ
  pub origin : ℕ
  pub to : ℕ
  pub kind : ℕ
  pub handle : ℕ

-- how many words a record has
abbrev pub record_size : ℕ
record_size = 8

-- the words of a record, and those of a list of records, one record after the other
abbrev pub words : Record → List ℕ
words r = r.due ∷ r.seq ∷ r.sent_at ∷ r.sort ∷ r.origin ∷ r.to ∷ r.kind ∷ r.handle ∷ []

unfoldable pub record_words : List Record → List ℕ
record_words [] = []
record_words (x ∷ xs) = words x ++ record_words xs

-- the record whose words start at a place, and the t records from there
abbrev pub record_at : List ℕ → ℕ → Record
record_at w b =
    record {
      due = get_or w b 0;
      seq = get_or w (b + 1) 0;
      sent_at = get_or w (b + 2) 0;
      sort = get_or w (b + 3) 0;
      origin = get_or w (b + 4) 0;
      to = get_or w (b + 5) 0;
      kind = get_or w (b + 6) 0;
      handle = get_or w (b + 7) 0;
    }

unfoldable pub recs : List ℕ → ℕ → ℕ → List Record
recs w b zero = []
recs w b (suc t) = record_at w b ∷ recs w (b + record_size) t

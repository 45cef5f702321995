-- Every list of calls has a night, from any words that were lent: the theorem speaks of each. Assumes nothing.
use Prim.Native.Nat.{ℕ}
use mathlib.Core.Path.{◌≡◌, refl, ap₂}
use mathlib.Core.List.{List, [], ◌∷◌}
use Rattle.nights.specs.Net.{Options, send, collect, choose}
use Rattle.nights.specs.Journal.{Call, change, rewind, mark}
use Rattle.network_layout.specs.Layout.{answer_code}
use Rattle.journal_calls.specs.Calls.{mark_answer, mark_words}
use Rattle.journal_words.specs.Calls.{journal_answer, journal_head, journal_records, journal_words}
use Rattle.host_night.specs.Night.{Lent, Turn, Called, Night, calls_of, evening}

-- a turn that was called
record Made (l : Lent) (c : Call) : Type 0 where
  turn : Turn
  asked : turn.call ≡ c
  called : Called l turn.call turn.number turn.after

module _ (l : Lent) where
  -- the turn of a journaled call that leaves these records
  abbrev turn_of : Call → List ℕ → Turn
  turn_of c records =
      record {
        call = c;
        number = answer_code (journal_answer c l.head l.records l.journal);
        after =
            record {
              head = journal_head c l.head l.records l.journal;
              records = records;
              journal = journal_words c l.head l.records l.journal;
            };
      }

  abbrev writing : Call → Turn
  writing c = turn_of c (journal_records c l.head l.records l.journal)

  made : (c : Call) → Made l c
  unfolding Called
  made (change (send m draws extras)) =
      record {
        turn = writing (change (send m draws extras));
        asked = refl;
        called = record { answers = refl; head = refl; records = refl; journal = refl };
      }
  made (change (collect now room)) =
      record {
        turn = writing (change (collect now room));
        asked = refl;
        called = record { answers = refl; head = refl; records = refl; journal = refl };
      }
  made (change (choose o)) =
      record {
        turn = turn_of (change (choose o)) l.records;
        asked = refl;
        called = record { answers = refl; head = refl; records = refl; journal = refl };
      }
  made (rewind k) =
      record {
        turn = writing (rewind k);
        asked = refl;
        called = record { answers = refl; head = refl; records = refl; journal = refl };
      }
  made mark =
      record {
        turn =
            record {
              call = mark;
              number = answer_code (mark_answer l.journal);
              after = record { head = l.head; records = l.records; journal = mark_words l.journal };
            };
        asked = refl;
        called = record { answers = refl; head = refl; records = refl; journal = refl };
      }

night_from : (l : Lent) (cs : List Call) → (ts : List Turn) × (calls_of ts ≡ cs) × Night l ts
unfolding Night
night_from l [] = ([], refl, tt)
night_from l (c ∷ cs) =
    let m = made l c in
    let n = night_from m.turn.after cs in
    (m.turn ∷ n.0, ap₂ (λ (x : Call) (xs : List Call). x ∷ xs) m.asked n.1, (m.called, n.2))

pub every_list_has_a_night : (h r j : List ℕ) (o : Options) (cs : List Call)
    → (ts : List Turn) × (calls_of ts ≡ cs) × Night (evening h r j o) ts
every_list_has_a_night h r j o cs = night_from (evening h r j o) cs

-- Every list of calls has a night: the theorem speaks of each. Assumes nothing.
use Prim.Native.Nat.{ℕ}
use mathlib.Core.Path.{◌≡◌, refl, ap₂}
use mathlib.Core.List.{List, [], ◌∷◌}
use Rattle.nights.specs.Net.{Options}
use Rattle.nights.specs.Journal.{Call, change, rewind, mark}
use Rattle.journal_calls.specs.Calls.{answer_of, words_after, network_after, mark_answer, mark_words}
use Rattle.journal.specs.Night.{Held, Turn, Happened, Night, calls_of, evening}

-- a turn that happened
record Made (h : Held) (c : Call) : Type 0 where
  turn : Turn
  called : turn.call ≡ c
  happened : Happened h turn.call turn.answer turn.after

module _ (h : Held) where
  abbrev settled : (c : Call) → Turn
  settled c =
      record {
        call = c;
        answer = answer_of c h.network h.words;
        after = record { network = network_after c h.network h.words; words = words_after c h.network h.words };
      }

  abbrev marked : Turn
  marked =
      record {
        call = mark;
        answer = mark_answer h.words;
        after = record { network = h.network; words = mark_words h.words };
      }

  made : (c : Call) → Made h c
  unfolding Happened
  made (change c) =
      record { turn = settled (change c); called = refl; happened = record { answers = refl; network = refl; words = refl } }
  made (rewind k) =
      record { turn = settled (rewind k); called = refl; happened = record { answers = refl; network = refl; words = refl } }
  made mark = record { turn = marked; called = refl; happened = record { answers = refl; network = refl; words = refl } }

night_from : (h : Held) (cs : List Call) → (ts : List Turn) × (calls_of ts ≡ cs) × Night h ts
unfolding Night
night_from h [] = ([], refl, tt)
night_from h (c ∷ cs) =
    let m = made h c in
    let n = night_from m.turn.after cs in
    (m.turn ∷ n.0, ap₂ (λ (x : Call) (l : List Call). x ∷ l) m.called n.1, (m.happened, n.2))

pub every_list_has_a_night : (o : Options) (rest : List ℕ) (cs : List Call)
    → (ts : List Turn) × (calls_of ts ≡ cs) × Night (evening o rest) ts
every_list_has_a_night o rest cs = night_from (evening o rest) cs

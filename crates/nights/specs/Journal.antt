-- The journal (RULES, "Journal"): its words, the records that undo a call, and each journaled call with its refusals, which are told
-- by their numbers. Assumes nothing.
use Rattle.std.specs.Prelude.{ℕ, zero, suc, ◌+◌, ◌-◌, ◌*◌, ◌/◌, List, [], ◌∷◌, ◌++◌, Bool, cond, ◌&&◌, length, drop, get_or, leb, eqb}
use Rattle.nights.specs.Record.{Record, record_size, record_words, recs}
use Rattle.basis.specs.Basis.{bit, laid}
use Rattle.nights.specs.Net.{capacity, Plain, keep, insert_all, Draws, Change, send, collect, choose, is_due, effect, well_formed}
use Rattle.nights.specs.Tests.{Answer, done, refused, if_done, Test, verdict, tests}

-- a call: one that a rewind can undo, a rewind, or a mark
pub data Call : Type 0 where
  change : Change → Call
  rewind : ℕ → Call
  mark : Call

-- the network and the journal's words, all of them lent to every call
pub record State : Type 0 where
  pub net : Plain
  pub words : List ℕ

pub record Step : Type 0 where
  pub state : State
  pub answer : Answer

-- THE WORDS

-- word 0: calls held; word 1: words used
abbrev pub held : List ℕ → ℕ
held w = get_or w 0 0

abbrev pub used : List ℕ → ℕ
used w = get_or w 1 0

-- other words 0 and 1, and the rest as it was
abbrev pub header : ℕ → ℕ → List ℕ → List ℕ
header c u w = c ∷ u ∷ drop 2 w

unfoldable pub logged : List ℕ → List ℕ → List ℕ
logged w r = header (held w + 1) (used w + length r) (laid w (used w) r)

unfoldable pub good_header : List ℕ → Bool
good_header w = leb 2 (length w) && (leb 2 (used w) && (leb (used w) (length w) && leb (2 * held w) (used w - 2)))

-- what a call writes: enough to undo it, then its sort and the length of it all
unfoldable pub undo_words : Change → Plain → List ℕ
undo_words (send m draws extras) n = n.seq ∷ n.lost ∷ n.replayed ∷ n.delayed ∷ 1 ∷ 6 ∷ []
undo_words (collect now room) n =
    record_words (keep (is_due now) n.pending) ++ (2 ∷ (record_size * length (keep (is_due now) n.pending) + 2) ∷ [])
undo_words (choose o) n =
    n.options.loss ∷ n.options.replay ∷ n.options.least ∷ n.options.mean ∷ bit n.options.faulted ∷ 3 ∷ 7 ∷ []

-- UNDOING, from the words alone

pub data Undone : Type 0 where
  misfit : Undone
  undone : (n : Plain) (left : ℕ) → Undone

abbrev pub unsend : (seq lost replayed delayed : ℕ) → Plain → Plain
unsend q l r d n =
    record {
      options = n.options;
      pending = keep (λ (x : Record). leb x.seq q) n.pending;
      seq = q;
      sent = n.sent - 1;
      delivered = n.delivered;
      lost = l;
      replayed = r;
      delayed = d;
    }

abbrev pub untake : List Record → Plain → Plain
untake rs n =
    record {
      options = n.options;
      pending = insert_all rs n.pending;
      seq = n.seq;
      sent = n.sent;
      delivered = n.delivered - length rs;
      lost = n.lost;
      replayed = n.replayed;
      delayed = n.delayed;
    }

abbrev pub unchoose : List ℕ → ℕ → Plain → Plain
unchoose w b n =
    record {
      options =
          record {
            loss = get_or w b 0;
            replay = get_or w (b + 1) 0;
            least = get_or w (b + 2) 0;
            mean = get_or w (b + 3) 0;
            faulted = eqb (get_or w (b + 4) 0) 1;
          };
      pending = n.pending;
      seq = n.seq;
      sent = n.sent;
      delivered = n.delivered;
      lost = n.lost;
      replayed = n.replayed;
      delayed = n.delayed;
    }

-- the record that ends before word e, by its sort, its length and the place where it starts
unfoldable pub undo_as : (sort size start : ℕ) → Plain → List ℕ → ℕ → Undone
undo_as k z b n w e =
    cond (eqb k 1)
    (cond (eqb z 6 && (leb (2 + 6) e && leb 1 n.sent))
    (undone (unsend (get_or w b 0) (get_or w (b + 1) 0) (get_or w (b + 2) 0) (get_or w (b + 3) 0) n) b)
    misfit)
    (cond (eqb k 2)
    (let t = (z - 2) / record_size in
    cond (eqb z (record_size * t + 2) && (leb (2 + z) e && (leb t n.delivered && leb (length n.pending + t) capacity)))
    (undone (untake (recs w b t) n) b)
    misfit)
    (cond (eqb k 3 && (eqb z 7 && (leb (2 + 7) e && leb (get_or w (b + 4) 0) 1))) (undone (unchoose w b n) b) misfit))

unfoldable pub undo_one : Plain → List ℕ → ℕ → Undone
undo_one n w e = undo_as (get_or w (e - 2) 0) (get_or w (e - 1) 0) (e - get_or w (e - 1) 0) n w e

-- the undoing of a record may not leave an ill-formed network
unfoldable pub checked : Undone → Undone
checked misfit = misfit
checked (undone n e) = cond (well_formed n) (undone n e) misfit

unfoldable pub further : Undone → (Plain → ℕ → Undone) → Undone
further misfit f = misfit
further (undone n e) f = f n e

unfoldable pub undo_all : ℕ → Plain → List ℕ → ℕ → Undone
undo_all zero n w e = undone n e
undo_all (suc k) n w e = further (checked (undo_one n w e)) (λ m b. undo_all k m w b)

-- THE CALLS

-- those of the journal, for a record of so many words
abbrev pub journal_tests : List ℕ → ℕ → List Test
journal_tests w size =
    record { passes = good_header w; number = 31 } ∷ record { passes = leb (used w + size) (length w); number = 32 } ∷ []

-- a send, a take or an option change that is journaled
abbrev pub journaled : Draws → Change → State → State
journaled fate c s = record { net = effect fate c s.net; words = logged s.words (undo_words c s.net) }

abbrev pub change_answer : Draws → Change → State → Answer
change_answer fate c s =
    verdict
    (record { passes = well_formed s.net; number = 23 }
    ∷ tests fate c s.net (journal_tests s.words (length (undo_words c s.net))))

unfoldable pub do_change : Draws → Change → State → Step
do_change fate c s = record { state = if_done (change_answer fate c s) (journaled fate c s) s; answer = change_answer fate c s }

-- a rewind
unfoldable pub rewound : ℕ → State → Undone → Step
rewound k s misfit = record { state = s; answer = refused 31 }
rewound k s (undone n e) = record { state = record { net = n; words = header (held s.words - k) e s.words }; answer = done }

unfoldable pub do_rewind : ℕ → State → Step
do_rewind k s =
    cond (well_formed s.net)
    (cond (good_header s.words)
    (cond (leb k (held s.words))
    (rewound k s (undo_all k s.net s.words (used s.words)))
    (record { state = s; answer = refused 33 }))
    (record { state = s; answer = refused 31 }))
    (record { state = s; answer = refused 23 })

-- a mark
unfoldable pub do_mark : State → Step
do_mark s =
    cond (leb 2 (length s.words))
    (record { state = record { net = s.net; words = header 0 2 s.words }; answer = done })
    (record { state = s; answer = refused 32 })

unfoldable pub step : Draws → State → Call → Step
step fate s (change c) = do_change fate c s
step fate s (rewind k) = do_rewind k s
step fate s mark = do_mark s

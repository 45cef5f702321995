-- Each call over a network's words: the words in, the same call's definition, the words out. The answer's number is 0 where the call is
-- done; a refusal leaves every word as it came. Words that are no head are 23. Assumes nothing.
use Rattle.std.specs.Prelude.{ℕ, List, [], ◌∷◌, ◌++◌, length, drop, replicate}
use Rattle.nights.specs.Record.{record_words}
use Rattle.nights.specs.Net.{Options, Letter, send, collect, choose, lost_by, replayed_by}
use Rattle.nights.specs.Draws.{Decided, decided}
use Rattle.nights.specs.Tests.{Answer, done, refused, verdict, option_tests}
use Rattle.network_queue.specs.Packed.{array_size}
use Rattle.network_form.specs.Forms.{plain_in}
use Rattle.network_form.specs.Calls.{answer_in, head_after, records_after, form_answer, list_answer}
use Rattle.network_take.specs.Takes.{due_records}
use Rattle.network_layout.specs.Layout.{head_in, option_words, head_words, if_head}

-- what a call answers and leaves: its number, and each row of words that was lent; a row that the call is not lent is empty
pub record Rows : Type 0 where
  pub number : ℕ
  pub head : List ℕ
  pub records : List ℕ
  pub out : List ℕ
  pub told : List ℕ

-- a call that is done leaves what it wrote, and a refused one its number beside the rows as they came
unfoldable pub by_answer : Answer → (wrote came : Rows) → Rows
by_answer done wrote came = wrote
by_answer (refused k) wrote came =
    record { number = k; head = came.head; records = came.records; out = came.out; told = came.told }

-- words at the front of a lent row
abbrev pub in_front : (words out : List ℕ) → List ℕ
in_front words out = words ++ drop (length words) out

-- what a send tells: whether it was lost, whether it was replayed, the draws and the extras used
abbrev pub send_told : Decided → List ℕ
send_told d = lost_by d.fate ∷ replayed_by d.fate ∷ d.draws ∷ d.extras ∷ []

-- THE CALLS, on the words h of a head and r of its records

module _ (h r : List ℕ) where
  -- a fresh network
  abbrev pub new_rows : Options → Rows
  new_rows o =
      by_answer (verdict (option_tests o []))
      (record { number = 0; head = option_words o (replicate 7 0); records = replicate array_size 0; out = []; told = [] })
      (record { number = 0; head = h; records = r; out = []; told = [] })

  -- a change of options, which leaves the records
  abbrev pub option_rows : Options → Rows
  option_rows o =
      by_answer (if_head h (answer_in (choose o) (head_in h) r))
      (record { number = 0; head = head_words (head_after (choose o) (head_in h) r); records = r; out = []; told = [] })
      (record { number = 0; head = h; records = r; out = []; told = [] })

  -- a send
  abbrev pub send_rows : Letter → (draws extras told : List ℕ) → Rows
  send_rows m draws extras told =
      by_answer (if_head h (answer_in (send m draws extras) (head_in h) r))
      (record {
        number = 0;
        head = head_words (head_after (send m draws extras) (head_in h) r);
        records = records_after (send m draws extras) (head_in h) r;
        out = [];
        told = send_told (decided (plain_in (head_in h) r).options m.now m.kind draws extras);
      })
      (record { number = 0; head = h; records = r; out = []; told = told })

  -- a take
  abbrev pub take_rows : (tick : ℕ) (out told : List ℕ) → Rows
  take_rows tick out told =
      by_answer (if_head h (answer_in (collect tick (length out)) (head_in h) r))
      (record {
        number = 0;
        head = head_words (head_after (collect tick (length out)) (head_in h) r);
        records = records_after (collect tick (length out)) (head_in h) r;
        out = in_front (record_words (due_records tick (head_in h) r)) out;
        told = length (due_records tick (head_in h) r) ∷ [];
      })
      (record { number = 0; head = h; records = r; out = out; told = told })

  -- counting and listing what is pending
  abbrev pub count_rows : (told : List ℕ) → Rows
  count_rows told =
      by_answer (if_head h (form_answer (head_in h) r))
      (record { number = 0; head = h; records = r; out = []; told = length (plain_in (head_in h) r).pending ∷ [] })
      (record { number = 0; head = h; records = r; out = []; told = told })

  abbrev pub list_rows : (out told : List ℕ) → Rows
  list_rows out told =
      by_answer (if_head h (list_answer (head_in h) r (length out)))
      (record {
        number = 0;
        head = h;
        records = r;
        out = in_front (record_words (plain_in (head_in h) r).pending) out;
        told = length (plain_in (head_in h) r).pending ∷ [];
      })
      (record { number = 0; head = h; records = r; out = out; told = told })

-- A tick of the network: sends one after the other, each with what is left of the draws and extras, and then a take, each as the plain
-- call is (RULES, "The host's boundary"). The first that is refused answers with its number and place. Assumes nothing.
use Rattle.std.specs.Prelude.{ℕ, zero, suc, ◌+◌, ◌*◌, ◌/◌, ◌^◌, cond, List, [], ◌∷◌, leb, eqb, length, drop, get_or, Result, Ok, Err, ◌≡◌, ◌≤◌}
use Rattle.nights.specs.Record.{record_words}
use Rattle.nights.specs.Net.{Letter, Change, send, collect}
use Rattle.nights.specs.Draws.{Decided, decided}
use Rattle.nights.specs.Tests.{Answer, done, refused}
use Rattle.calls.specs.declared.After.{After}
use Rattle.network_options.specs.Options.{plain_options}
use Rattle.network_options.specs.Answers.{refusal_number}
use Rattle.network_form.specs.declared.Head.{Head}
use Rattle.network_form.specs.Calls.{answer_in, head_after, records_after, form_answer}
use Rattle.network_send.specs.Sends.{letter_of}
use Rattle.network_take.specs.Takes.{due_records}
use Rattle.network_layout.specs.Layout.{head_in, head_words, if_head}
use Rattle.network_words.specs.Calls.{Rows, in_front}
use Rattle.network_batch.specs.declared.Stopped.{Stopped}
use Rattle.network_batch.specs.declared.Used.{Used}

-- the words of a message, and the most messages of a tick
abbrev pub message_words : ℕ
message_words = 6

abbrev pub most_messages : ℕ
most_messages = 65536

-- the message at a place of a list
abbrev pub letter_at : List ℕ → ℕ → Letter
letter_at w i =
    letter_of (get_or w (i * message_words) 0) (get_or w (i * message_words + 1) 0) (get_or w (i * message_words + 2) 0)
    (get_or w (i * message_words + 3) 0) (get_or w (i * message_words + 4) 0) (get_or w (i * message_words + 5) 0)

-- a number and a place, in one
abbrev pub number_at : (number place : ℕ) → ℕ
number_at number place = number * 2 ^ 32 + place

-- what the calls leave: the head and its words, the draws and the extras used; or the number and the place of the first that is refused
pub data Ran : Type 0 where
  all : (h : Head) (w : List ℕ) (draws extras : ℕ) → Ran
  stopped : (number place : ℕ) → Ran

unfoldable pub unless_refused : Answer → (place : ℕ) → Ran → Ran
unless_refused done place more = more
unless_refused (refused k) place more = stopped k place

-- the sends from a place on, `left` of them, after so many draws and extras
module _ (sends draws extras : List ℕ) where
  abbrev pub call_at : (place d x : ℕ) → Change
  call_at place d x = send (letter_at sends place) (drop d draws) (drop x extras)

  abbrev pub drawn_by : (place d x : ℕ) → Head → Decided
  drawn_by place d x h =
      decided (plain_options h.options) (letter_at sends place).now (letter_at sends place).kind (drop d draws) (drop x extras)

  unfoldable pub sends_from : (left place d x : ℕ) → Head → List ℕ → Ran
  sends_from zero place d x h w = all h w d x
  sends_from (suc left) place d x h w =
      unless_refused (answer_in (call_at place d x) h w) place
      (sends_from left (suc place) (d + (drawn_by place d x h).draws) (x + (drawn_by place d x h).extras) (head_after (call_at place d x) h w)
      (records_after (call_at place d x) h w))

-- the tick, whole: its number, 0 if all is done, and each lent row of words after it
module _ (h r sends draws extras : List ℕ) (now : ℕ) (out told : List ℕ) where
  abbrev pub refused_at : (number place : ℕ) → Rows
  refused_at k place = record { number = number_at k place; head = h; records = r; out = out; told = told }

  abbrev pub count : ℕ
  count = length sends / message_words

  -- the take, after the sends
  unfoldable pub taking_last : Answer → Head → List ℕ → (d x : ℕ) → Rows
  taking_last done t w d x =
      record {
        number = 0;
        head = head_words (head_after (collect now (length out)) t w);
        records = records_after (collect now (length out)) t w;
        out = in_front (record_words (due_records now t w)) out;
        told = d ∷ x ∷ length (due_records now t w) ∷ [];
      }
  taking_last (refused k) t w d x = refused_at k count

  unfoldable pub after_sends : Ran → Rows
  after_sends (stopped k place) = refused_at k place
  after_sends (all t w d x) = taking_last (answer_in (collect now (length out)) t w) t w d x

  -- the network is batch_tested first (23, at place 0); then that the list has at most 65,536 messages and is whole ones (24, at the place
  -- of the first that is over or broken)
  unfoldable pub batch_tested : Answer → Rows
  batch_tested (refused k) = refused_at k 0
  batch_tested done =
      cond (leb count most_messages)
      (cond (eqb (length sends) (message_words * count)) (after_sends (sends_from sends draws extras count 0 0 0 (head_in h) r))
      (refused_at 24 count))
      (refused_at 24 most_messages)

  abbrev pub ticked : Rows
  ticked = batch_tested (if_head h (form_answer (head_in h) r))

-- THE SENDS ALONE, without a take: the tests in the same order, and what the sends leave
module _ (h r sends draws extras : List ℕ) where
  unfoldable pub sends_tested : Answer → Ran
  sends_tested (refused k) = stopped k 0
  sends_tested done =
      cond (leb (length sends / message_words) most_messages)
      (cond (eqb (length sends) (message_words * (length sends / message_words)))
      (sends_from sends draws extras (length sends / message_words) 0 0 0 (head_in h) r)
      (stopped 24 (length sends / message_words)))
      (stopped 24 most_messages)

  abbrev pub batch_ran : Ran
  batch_ran = sends_tested (if_head h (form_answer (head_in h) r))

  -- its number, 0 if all is done, and each lent row of words after it; the draws and the extras used are told
  unfoldable pub after_queue : Ran → (told : List ℕ) → Rows
  after_queue (stopped k place) told = record { number = number_at k place; head = h; records = r; out = []; told = told }
  after_queue (all t w d x) told = record { number = 0; head = head_words t; records = w; out = []; told = d ∷ x ∷ [] }

  abbrev pub queued : (told : List ℕ) → Rows
  queued told = after_queue batch_ran told

-- INSIDE: what the code's run of the sends says, on the head and the records that it leaves
abbrev pub ran_of : Result Used Stopped → Head → List ℕ → Ran
ran_of (Ok u) h w = all h w u.draws u.extras
ran_of (Err s) h w = stopped (refusal_number s.refusal) s.place

abbrev pub batch_of : Result (After Head Used) Stopped → List ℕ → Ran
batch_of (Ok t) w = all t.state w t.answer.draws t.answer.extras
batch_of (Err s) w = stopped (refusal_number s.refusal) s.place

-- how many messages a list has, where it passes its tests, and else what a batch of it is
abbrev pub Counts : Result ℕ Stopped → List ℕ → Type 0
Counts (Ok n) sends = (n ≡ length sends / message_words) × (n ≤ most_messages) × (length sends ≡ message_words * n)
Counts (Err s) sends =
    (s.place ≤ most_messages)
    × ((h r draws extras : List ℕ) → sends_tested h r sends draws extras done ≡ stopped (refusal_number s.refusal) s.place)

-- the number of what is done or stopped
abbrev pub stop_number : Result Unit Stopped → ℕ
stop_number (Ok u) = 0
stop_number (Err s) = number_at (refusal_number s.refusal) s.place

-- A tick is its sends queued and then a take: where the sends are refused, so is the tick, alike; and else it is the take over the words
-- that the sends leave, with what both tell. Assumes nothing.
use Prim.Native.Nat.{ℕ, zero, suc, ◌/◌}
use mathlib.Core.Path.{◌≡◌, refl, sym, ap, ◌∙◌}
use mathlib.Core.Bool.{true}
use mathlib.Core.List.{List, [], ◌∷◌, ◌++◌}
use native.Mathlib.Omega.{arith}
use lib.ListN.{length}
use Rattle.nights.specs.Record.{record_words}
use Rattle.nights.specs.Net.{collect, effect, good_options}
use Rattle.nights.specs.Draws.{fate_of}
use Rattle.nights.specs.Tests.{Answer, done, refused}
use Rattle.network_options.specs.Options.{plain_options}
use Rattle.network_options.proofs.OptionForms.{Held}
use Rattle.network_form.specs.declared.Head.{Head}
use Rattle.network_form.specs.Forms.{plain_in, head_of}
use Rattle.network_form.specs.Calls.{answer_in, head_after, records_after}
use Rattle.network_form.proofs.Calling.{head_follows}
use Rattle.network_form.proofs.Maps.{good_in}
use Rattle.network_form.proofs.Laws.{stays_good}
use Rattle.network_layout.specs.Layout.{head_fits, head_in, head_words, options_in, if_head}
use Rattle.network_layout.proofs.Heads.{a_head}
use Rattle.network_layout.proofs.ReadBack.{read_back, fits_back, of_words}
use Rattle.network_take.specs.Takes.{due_records}
use Rattle.network_words.specs.Calls.{Rows, by_answer, in_front, take_rows}
use Rattle.network_batch.specs.Ticks.{message_words, number_at, all, stopped, call_at, sends_from, refused_at, taking_last, after_sends, ticked, batch_ran, after_queue, queued}
use Rattle.network_batch.proofs.Sending.{goes_on, stops}
use Rattle.network_batch.proofs.Ticking.{all_passed, sends_first}

-- the words of a head are read as that head: its floats are such as the format holds, and its options are good
pub record Written (t : Head) : Type 0 where
  pub held : Held t.options
  pub good : good_options (plain_options t.options) ≡ true

module _ (sends draws extras : List ℕ) where
  stays_written : (left place d x : ℕ) (h : Head) (w : List ℕ) → Written h → (t : Head) (v : List ℕ) (g y : ℕ)
      → sends_from sends draws extras left place d x h w ≡ all t v g y → Written t
  unfolding sends_from
  stays_written zero place d x h w o t v g y e = let z : h ≡ t = cc in rw z at o
  stays_written (suc left) place d x h w o t v g y e =
      go (answer_in (call_at sends draws extras place d x) h w) refl
      (λ q.
      stays_written left (suc place) _ _ _ _
      (record {
        held = ap_held (head_follows h w (call_at sends draws extras place d x) q);
        good = stays_good (call_at sends draws extras place d x) h w q;
      }) t v g y (sym (goes_on sends draws extras left place d x h w q) ∙ e))
    where
      ap_held : {s : Head} → head_of (effect fate_of (call_at sends draws extras place d x) (plain_in h w)) ≡ s → Held s.options
      ap_held {s} p = rw (sym p) (of_words (effect fate_of (call_at sends draws extras place d x) (plain_in h w)).options)

      go : (a : Answer) → answer_in (call_at sends draws extras place d x) h w ≡ a → (answer_in (call_at sends draws extras place d x) h w ≡ done → Written t) → Written t
      go done q more = more q
      go (refused j) q more =
          let r : stopped j place ≡ all t v g y = sym (stops sends draws extras left place d x h w j q) ∙ e in
          let z : ◌≡◌ {A = ℕ} 0 1 = cc in
          absurd (omega arith)

-- a take over a head's words, by that head
module _ (s : Head) (h v : List ℕ) (now : ℕ) (out told : List ℕ) where
  abbrev rows : Answer → Head → Rows
  rows a z =
      by_answer a
      (record {
        number = 0;
        head = head_words (head_after (collect now (length out)) z v);
        records = records_after (collect now (length out)) z v;
        out = in_front (record_words (due_records now z v)) out;
        told = length (due_records now z v) ∷ [];
      })
      (record { number = 0; head = h; records = v; out = out; told = told })

  take_by : head_in h ≡ s → head_fits h ≡ true → (a : Answer) → answer_in (collect now (length out)) s v ≡ a → take_rows h v now out told ≡ rows a s
  take_by p f a e =
      ap (λ (z : Head). rows (if_head h (answer_in (collect now (length out)) z v)) z) p
      ∙ ap (λ (z : Answer). rows z s) (a_head h (answer_in (collect now (length out)) s v) f ∙ e)

module _ (h r sends draws extras : List ℕ) (now : ℕ) (out told : List ℕ) (sent_told taken_told : List ℕ) where
  abbrev tick : Rows
  tick = ticked h r sends draws extras now out told

  -- the sends alone
  abbrev queue : Rows
  queue = queued h r sends draws extras sent_told

  -- refused alike
  pub both_refused : (k p : ℕ) → batch_ran h r sends draws extras ≡ stopped k p
      → (tick ≡ record { number = queue.number; head = h; records = r; out = out; told = told }) × (queue ≡ record { number = number_at k p; head = h; records = r; out = []; told = sent_told })
  unfolding after_sends after_queue
  both_refused k p e = (sends_first h r sends draws extras now out told ∙ rw e, rw e)

  module _ (t : Head) (v : List ℕ) (d x : ℕ) (e : batch_ran h r sends draws extras ≡ all t v d x) where
    written : Written t
    written =
        let b = all_passed h r sends draws extras t v d x e in
        stays_written sends draws extras (length sends / message_words) 0 0 0 (head_in h) r
        (record { held = of_words (options_in h); good = good_in (head_in h) r b.formed }) t v d x b.ran

    -- the take over the words that the sends leave, and its answer
    abbrev take : Rows
    take = take_rows queue.head queue.records now out taken_told

    abbrev answer : Answer
    answer = answer_in (collect now (length out)) (head_in queue.head) queue.records

    queue_is : queue ≡ record { number = 0; head = head_words t; records = v; out = []; told = d ∷ x ∷ [] }
    unfolding after_queue
    queue_is = rw e

    read : head_in (head_words t) ≡ t
    read = read_back t written.held

    answer_is : answer ≡ answer_in (collect now (length out)) t v
    answer_is =
        ap (λ (q : Rows). answer_in (collect now (length out)) (head_in q.head) q.records) queue_is
        ∙ ap (λ (s : Head). answer_in (collect now (length out)) s v) read

    take_is : (a : Answer) → answer ≡ a → take ≡ rows t (head_words t) v now out taken_told a t
    take_is a q =
        ap (λ (u : Rows). take_rows u.head u.records now out taken_told) queue_is
        ∙ take_by t (head_words t) v now out taken_told read (fits_back t written.good) a (sym answer_is ∙ q)

    tick_is : (a : Answer) → answer ≡ a → tick ≡ taking_last h r sends draws extras now out told a t v d x
    unfolding after_sends
    tick_is a q =
        sends_first h r sends draws extras now out told
        ∙ (ap (after_sends h r sends draws extras now out told) e
        ∙ ap (λ (z : Answer). taking_last h r sends draws extras now out told z t v d x) (sym answer_is ∙ q))

    -- taken: the rows that the take leaves, told what both tell
    pub then_taken : answer ≡ done → tick ≡ record { number = 0; head = take.head; records = take.records; out = take.out; told = queue.told ++ take.told }
    unfolding taking_last by_answer
    then_taken q =
        tick_is done q
        ∙ (ap (λ (m : Rows). record { number = 0; head = m.head; records = m.records; out = m.out; told = (d ∷ x ∷ []) ++ m.told }) (sym (take_is done q))
        ∙ ap (λ (u : Rows). record { number = 0; head = take.head; records = take.records; out = take.out; told = u.told ++ take.told }) (sym queue_is))

    -- refused: its number at the take's place, and no row changed
    pub then_refused : (k : ℕ) → answer ≡ refused k → tick ≡ refused_at h r sends draws extras now out told take.number (length sends / message_words)
    unfolding taking_last by_answer
    then_refused k q =
        tick_is (refused k) q
        ∙ ap (λ (m : Rows). refused_at h r sends draws extras now out told m.number (length sends / message_words)) (sym (take_is (refused k) q))

-- A tick in one call is its exported calls one after the other. The tick tests the network once and those test it each time: an accepted
-- call leaves words in form, so the later tests pass. Assumes nothing.
use Prim.Native.Nat.{ℕ, zero, suc, ◌+◌, ◌*◌, ◌≤◌}
use mathlib.Core.Path.{◌≡◌, refl, sym, ap, ◌∙◌, subst}
use mathlib.Core.Bool.{Bool, true, false, cond}
use mathlib.Core.List.{List, ◌∷◌}
use native.Mathlib.Omega.{arith}
use borrow.Author.Tests.{le-leb, eq-eqb, ne_eqb, eqb-true, eqb-false}
use lib.Dec.{leb, eqb}
use lib.ListN.{length}
use Rattle.nights.specs.Net.{Change, collect, effect}
use Rattle.nights.specs.Draws.{Decided, fate_of}
use Rattle.nights.specs.Tests.{Answer, done, refused}
use Rattle.network_form.specs.declared.Head.{Head}
use Rattle.network_form.specs.Forms.{plain_in, formed_in}
use Rattle.network_form.specs.Calls.{answer_in, head_after, records_after, form_answer}
use Rattle.network_form.proofs.Calling.{form_well}
use Rattle.network_layout.specs.Layout.{head_fits, head_in, head_words, if_head}
use Rattle.network_words.specs.Calls.{Rows, take_rows}
use Rattle.network_layout.proofs.Heads.{a_head}
use Rattle.network_batch.specs.Ticks.{message_words, most_messages, Ran, all, stopped, call_at, drawn_by, sends_from, taking_last, after_sends, batch_tested, ticked}
use Rattle.network_batch.proofs.Sending.{goes_on, stops}
use Rattle.host.specs.Calls.{draws_told, extras_told, InForm, Unchanged}
use Rattle.host.specs.Batch.{messages, Called, through, halted, send_at, calls_from, halted_at, sends_called, take_called, called_one_by_one, EveryZero}
use Rattle.host.proofs.Numbers.{call_number}
use Rattle.host.proofs.Refusing.{wrote_by, number_by}
use Rattle.host.proofs.Composing.{after_in_form, head_again, taken_in_form}

-- what the exported calls leave, in the tick's own terms
abbrev ran_by : Called → Ran
ran_by (through h r d x) = all (head_in h) r d x
ran_by (halted k place) = stopped k place

-- words that the calls came through with are a head
abbrev Fits : Called → Type 0
Fits (through h r d x) = head_fits h ≡ true
Fits (halted k place) = Unit {0}

-- ---- the sends

module _ (sends draws extras lent : List ℕ) where
  -- the exported sends and the tick's leave the same
  abbrev Same : (left place d x : ℕ) (h r : List ℕ) → Head → Type 0
  Same left place d x h r t =
      (ran_by (calls_from sends draws extras lent left place d x h r) ≡ sends_from sends draws extras left place d x t r)
      × Fits (calls_from sends draws extras lent left place d x h r)

  module _ (left place d x : ℕ) (h r : List ℕ) where
    abbrev call : Change
    call = call_at sends draws extras place d x

    abbrev used : Decided
    used = drawn_by sends draws extras place d x (head_in h)

    abbrev after : Head
    after = head_in (head_words (head_after call (head_in h) r))

    -- of the words that a send leaves
    abbrev Later : Head → Type 0
    Later t = Same left (suc place) (d + used.draws) (x + used.extras) (head_words (head_after call (head_in h) r)) (records_after call (head_in h) r) t

    module _ (f : head_fits h ≡ true) where
      -- a send that is done goes on with them
      goes : answer_in call (head_in h) r ≡ done → Later after → Same (suc left) place d x h r (head_in h)
      unfolding calls_from
      goes e more =
          let m : Later (head_after call (head_in h) r) = subst Later (head_again call (head_in h) r e) more in
          rw (wrote_by _ _ _ (a_head h _ f ∙ e)) (m.0 ∙ sym (goes_on sends draws extras left place d x (head_in h) r e), m.1)

      -- and one that is refused ends the calls
      ends : (k : ℕ) → answer_in call (head_in h) r ≡ refused k → Same (suc left) place d x h r (head_in h)
      unfolding calls_from
      ends k e =
          rw (number_by _ _ _ k (a_head h _ f ∙ e), ne_eqb k 0 (call_number call (head_in h) r k e))
          (sym (stops sends draws extras left place d x (head_in h) r k e), tt)

  same_run : (left place d x : ℕ) (h r : List ℕ) → head_fits h ≡ true → Same left place d x h r (head_in h)
  unfolding calls_from sends_from
  same_run zero place d x h r f = (refl, f)
  same_run (suc left) place d x h r f =
      go (answer_in (call left place d x h r) (head_in h) r) refl
      (λ e. same_run left (suc place) _ _ _ _ (after_in_form (call left place d x h r) (head_in h) r e).fits)
    where
      go : (a : Answer) → answer_in (call left place d x h r) (head_in h) r ≡ a
          → (answer_in (call left place d x h r) (head_in h) r ≡ done → Later left place d x h r (after left place d x h r))
          → Same (suc left) place d x h r (head_in h)
      go done e more = goes left place d x h r f e (more e)
      go (refused k) e more = ends left place d x h r f k e

  -- where they halt the number is not 0
  halts_over : (left place d x : ℕ) (h r : List ℕ) (k p : ℕ) → calls_from sends draws extras lent left place d x h r ≡ halted k p → k ≡ 0 → ⊥
  unfolding calls_from
  halts_over zero place d x h r k p e z = let y : ◌≡◌ {A = ℕ} 0 1 = cc in omega arith
  halts_over (suc left) place d x h r k p e z =
      go (eqb t.number 0) refl (λ q. halts_over left (suc place) _ _ _ _ k p q z) e
    where
      t : Rows
      t = send_at sends draws extras lent place d x h r

      next : Called
      next = calls_from sends draws extras lent left (suc place) (d + draws_told t) (x + extras_told t) t.head t.records

      go : (b : Bool) → eqb t.number 0 ≡ b → (next ≡ halted k p → ⊥) → cond b next (halted t.number place) ≡ halted k p → ⊥
      go true q more y = more y
      go false q more y = let n : t.number ≡ k = cc in eqb-false t.number 0 q (n ∙ z)

-- ---- the whole

module _ (h r sends draws extras : List ℕ) (now : ℕ) (out told lent last : List ℕ) where
  abbrev by_calls : Rows
  by_calls = called_one_by_one h r sends draws extras now out told lent last

  abbrev in_one : Rows
  in_one = ticked h r sends draws extras now out told

  -- the take
  take_same : (g w : List ℕ) (d x : ℕ) → head_fits g ≡ true
      → taking_last h r sends draws extras now out told (answer_in (collect now (length out)) (head_in g) w) (head_in g) w d x
      ≡ take_called h r sends draws extras now out told lent last (through g w d x)
  unfolding taking_last take_called
  take_same g w d x f = go (answer_in (collect now (length out)) (head_in g) w) refl
    where
      go : (a : Answer) → answer_in (collect now (length out)) (head_in g) w ≡ a
          → taking_last h r sends draws extras now out told a (head_in g) w d x ≡ take_called h r sends draws extras now out told lent last (through g w d x)
      go done e = rw (wrote_by _ _ _ (a_head g _ f ∙ e))
      go (refused k) e = rw (number_by _ _ _ k (a_head g _ f ∙ e), ne_eqb k 0 (call_number (collect now (length out)) (head_in g) w k e))

  after_same : (c : Called) → Fits c
      → after_sends h r sends draws extras now out told (ran_by c) ≡ take_called h r sends draws extras now out told lent last c
  unfolding after_sends take_called
  after_same (through g w d x) f = take_same g w d x f
  after_same (halted k p) f = refl

  module _ (f : head_fits h ≡ true) (g : formed_in (head_in h) r ≡ true) (few : messages sends ≤ most_messages)
      (even : length sends ≡ message_words * messages sends) where
    tested_first : in_one ≡ after_sends h r sends draws extras now out told (sends_from sends draws extras (messages sends) 0 0 0 (head_in h) r)
    unfolding batch_tested
    tested_first =
        ap (batch_tested h r sends draws extras now out told) (a_head h (form_answer (head_in h) r) f ∙ form_well (head_in h) r g)
        ∙ rw (le-leb (messages sends) most_messages few, eq-eqb (length sends) (message_words * messages sends) even)

    -- the number and every row after the tick are those after its calls
    pub batch_is_calls : in_one ≡ by_calls
    batch_is_calls =
        let s = same_run sends draws extras lent (messages sends) 0 0 0 h r f in
        tested_first
        ∙ (ap (after_sends h r sends draws extras now out told) (sym s.0)
        ∙ after_same (sends_called h r sends draws extras now out told lent last) s.1)

    -- so it answers 0 exactly if every call does
    pub zero_if_every : EveryZero h r sends draws extras now out told lent last → in_one.number ≡ 0
    unfolding take_called
    zero_if_every a = ap (λ (t : Rows). t.number) batch_is_calls ∙ rw (a.sent, a.taken)

    pub every_if_zero : in_one.number ≡ 0 → EveryZero h r sends draws extras now out told lent last
    unfolding take_called
    every_if_zero e = by (sends_called h r sends draws extras now out told lent last) refl (ap (λ (t : Rows). t.number) (sym batch_is_calls) ∙ e)
      where
        by : (c : Called) → sends_called h r sends draws extras now out told lent last ≡ c
            → (take_called h r sends draws extras now out told lent last c).number ≡ 0 → EveryZero h r sends draws extras now out told lent last
        by (halted k p) q z = absurd (halts_over sends draws extras lent (messages sends) 0 0 0 h r k p q (omega arith))
        by (through g w d x) q z = go (eqb (take_rows g w now out last).number 0) refl z
          where
            done_rows : Rows
            done_rows =
                let t = take_rows g w now out last in
                record { number = 0; head = t.head; records = t.records; out = t.out; told = d ∷ x ∷ t.told }

            go : (b : Bool) → eqb (take_rows g w now out last).number 0 ≡ b
                → (cond b done_rows (halted_at h r sends draws extras now out told lent last (take_rows g w now out last).number (messages sends))).number ≡ 0
                → EveryZero h r sends draws extras now out told lent last
            go true y z = record { sent_head = g; sent_records = w; drawn = d; added = x; sent = q; taken = eqb-true _ _ y }
            go false y z = absurd (eqb-false (take_rows g w now out last).number 0 y (omega arith))

    -- and then its words are in form for the next call
    pub tick_in_form : (a : EveryZero h r sends draws extras now out told lent last)
        → InForm in_one.head in_one.records (effect fate_of (collect now (length out)) (plain_in (head_in a.sent_head) a.sent_records))
    unfolding take_called
    tick_in_form a =
        rw (batch_is_calls, a.sent, a.taken) (taken_in_form a.sent_head a.sent_records now out last a.taken)

  -- a tick that is refused leaves every row, whatever it was lent
  pub tick_refused_leaves : (in_one.number ≡ 0 → ⊥) → Unchanged in_one (record { number = 0; head = h; records = r; out = out; told = told })
  unfolding batch_tested after_sends taking_last
  tick_refused_leaves n = first (if_head h (form_answer (head_in h) r)) n
    where
      Left : Rows → Type 0
      Left t = (t.number ≡ 0 → ⊥) → Unchanged t (record { number = 0; head = h; records = r; out = out; told = told })

      taken : (a : Answer) (t : Head) (w : List ℕ) (d x : ℕ) → Left (taking_last h r sends draws extras now out told a t w d x)
      taken done t w d x n = absurd (n refl)
      taken (refused k) t w d x n = record { head = refl; records = refl; out = refl; told = refl }

      sent : (c : Ran) → Left (after_sends h r sends draws extras now out told c)
      sent (stopped k p) n = record { head = refl; records = refl; out = refl; told = refl }
      sent (all t w d x) n = taken (answer_in (collect now (length out)) t w) t w d x n

      over : ℕ → Rows
      over place = halted_at h r sends draws extras now out told lent last 24 place

      listed : (a b : Bool) (c : Ran)
          → Left (cond a (cond b (after_sends h r sends draws extras now out told c) (over (messages sends))) (over most_messages))
      listed true true c n = sent c n
      listed true false c n = record { head = refl; records = refl; out = refl; told = refl }
      listed false b c n = record { head = refl; records = refl; out = refl; told = refl }

      first : (a : Answer) → Left (batch_tested h r sends draws extras now out told a)
      first done n =
          listed (leb (messages sends) most_messages) (eqb (length sends) (message_words * messages sends))
          (sends_from sends draws extras (messages sends) 0 0 0 (head_in h) r) n
      first (refused k) n = record { head = refl; records = refl; out = refl; told = refl }

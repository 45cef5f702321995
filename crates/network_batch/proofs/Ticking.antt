-- What a batch leaves, by where it ends: at the network's test, at the list's, at a send, at the take, or done. Assumes nothing.
use Prim.Native.Nat.{ℕ, ◌*◌, ◌/◌, ◌≤◌, ◌<◌}
use mathlib.Core.Path.{◌≡◌, refl, sym, ap, ◌∙◌}
use mathlib.Core.Bool.{Bool, true, false, cond}
use mathlib.Core.List.{List, [], ◌∷◌}
use native.Mathlib.Omega.{arith}
use borrow.Author.Tests.{le-leb, lt-leb, leb-true, leb-false, eq-eqb, ne_eqb, eqb-true, eqb-false}
use lib.Dec.{leb, eqb}
use lib.ListN.{length}
use Rattle.nights.specs.Net.{collect}
use Rattle.nights.specs.Tests.{Answer, done, refused, if_done}
use Rattle.network_form.specs.declared.Head.{Head}
use Rattle.network_form.specs.Forms.{formed_in}
use Rattle.network_form.specs.Calls.{answer_in, head_after, records_after, form_answer}
use Rattle.network_form.proofs.Calling.{form_ill, form_well}
use Rattle.network_take.specs.Takes.{due_records, take_gives}
use Rattle.network_layout.specs.Layout.{head_fits, head_in, head_words, if_head}
use Rattle.network_words.specs.Calls.{Rows}
use Rattle.network_layout.proofs.Heads.{no_head, a_head}
use Rattle.network_batch.specs.Ticks.{message_words, most_messages, number_at, Ran, all, stopped, sends_from, refused_at, taking_last, after_sends, batch_tested, ticked, sends_tested, batch_ran, after_queue, queued}

-- ---- the tests and the sends

module _ (h r sends draws extras : List ℕ) where
  abbrev whole : Ran
  whole = batch_ran h r sends draws extras

  abbrev count : ℕ
  count = length sends / message_words

  pub unread : head_fits h ≡ false → whole ≡ stopped 23 0
  unfolding sends_tested
  unread f = ap (sends_tested h r sends draws extras) (no_head h (form_answer (head_in h) r) f)

  module _ (f : head_fits h ≡ true) where
    pub ill_formed : formed_in (head_in h) r ≡ false → whole ≡ stopped 23 0
    unfolding sends_tested
    ill_formed w = ap (sends_tested h r sends draws extras) (a_head h (form_answer (head_in h) r) f ∙ form_ill (head_in h) r w)

    module _ (w : formed_in (head_in h) r ≡ true) where
      pub opens : whole ≡ sends_tested h r sends draws extras done
      opens = ap (sends_tested h r sends draws extras) (a_head h (form_answer (head_in h) r) f ∙ form_well (head_in h) r w)

      pub too_many : most_messages < count → whole ≡ stopped 24 most_messages
      unfolding sends_tested
      too_many c = opens ∙ rw (lt-leb count most_messages c)

      module _ (c : count ≤ most_messages) where
        pub broken : (length sends ≡ message_words * count → ⊥) → whole ≡ stopped 24 count
        unfolding sends_tested
        broken e = opens ∙ rw (le-leb count most_messages c, ne_eqb (length sends) (message_words * count) e)

        pub sends_run : length sends ≡ message_words * count → whole ≡ sends_from sends draws extras count 0 0 0 (head_in h) r
        unfolding sends_tested
        sends_run e = opens ∙ rw (le-leb count most_messages c, eq-eqb (length sends) (message_words * count) e)

  -- where all was sent, every test had passed
  pub record Sent (t : Head) (v : List ℕ) (d x : ℕ) : Type 0 where
    pub formed : formed_in (head_in h) r ≡ true
    pub few : count ≤ most_messages
    pub ran : sends_from sends draws extras count 0 0 0 (head_in h) r ≡ all t v d x

  module _ (t : Head) (v : List ℕ) (d x : ℕ) (e : whole ≡ all t v d x) where
    no_stop : {A : Type 0} (k p : ℕ) → whole ≡ stopped k p → A
    no_stop k p q = let y : stopped k p ≡ all t v d x = sym q ∙ e in let z : ◌≡◌ {A = ℕ} 0 1 = cc in absurd (omega arith)

    pub all_passed : Sent t v d x
    all_passed = go (head_fits h) refl (formed_in (head_in h) r) refl (leb count most_messages) refl (eqb (length sends) (message_words * count)) refl
      where
        go : (f : Bool) → head_fits h ≡ f → (w : Bool) → formed_in (head_in h) r ≡ w → (c : Bool) → leb count most_messages ≡ c
            → (o : Bool) → eqb (length sends) (message_words * count) ≡ o → Sent t v d x
        go false p w q c y o u = no_stop 23 0 (unread p)
        go true p false q c y o u = no_stop 23 0 (ill_formed p q)
        go true p true q false y o u = no_stop 24 most_messages (too_many p q (leb-false count most_messages y))
        go true p true q true y false u =
            no_stop 24 count (broken p q (leb-true count most_messages y) (eqb-false (length sends) (message_words * count) u))
        go true p true q true y true u =
            let c = leb-true count most_messages y in
            record { formed = q; few = c; ran = sym (sends_run p q c (eqb-true (length sends) (message_words * count) u)) ∙ e }

-- ---- and then a take

module _ (h r sends draws extras : List ℕ) (now : ℕ) (out told : List ℕ) where
  abbrev tick : Rows
  tick = ticked h r sends draws extras now out told

  abbrev ran : Ran
  ran = batch_ran h r sends draws extras

  -- the number and the lent rows after it
  abbrev pub Ticked : ℕ → List ℕ → List ℕ → List ℕ → List ℕ → Type 0
  Ticked n a b o t =
      (n ≡ tick.number) × ((a ≡ tick.head) × ((b ≡ tick.records) × ((o ≡ tick.out) × (t ≡ tick.told))))

  leaves : (t : Rows) → tick ≡ t → Ticked t.number t.head t.records t.out t.told
  leaves t e = (
    ap (λ (x : Rows). x.number) (sym e),
    (
      ap (λ (x : Rows). x.head) (sym e),
      (ap (λ (x : Rows). x.records) (sym e), (ap (λ (x : Rows). x.out) (sym e), ap (λ (x : Rows). x.told) (sym e))),
    ),
  )

  refuses : (k p : ℕ) → tick ≡ refused_at h r sends draws extras now out told k p
      → (n : ℕ) → n ≡ number_at k p → (b : List ℕ) → b ≡ r → Ticked n h b out told
  refuses k p e n q b y =
      let l = leaves (refused_at h r sends draws extras now out told k p) e in (q ∙ l.0, (l.1.0, (y ∙ l.1.1.0, l.1.1.1)))

  -- the tests and the sends come first
  pub sends_first : tick ≡ after_sends h r sends draws extras now out told ran
  unfolding batch_tested sends_tested after_sends
  sends_first = go (if_head h (form_answer (head_in h) r))
    where
      spread : (b c : Bool) (more : Ran) (k p : ℕ)
          → cond b (cond c (after_sends h r sends draws extras now out told more) (refused_at h r sends draws extras now out told 24 k)) (refused_at h r sends draws extras now out told 24 p)
          ≡ after_sends h r sends draws extras now out told (cond b (cond c more (stopped 24 k)) (stopped 24 p))
      spread true true more k p = refl
      spread true false more k p = refl
      spread false c more k p = refl

      go : (a : Answer) → batch_tested h r sends draws extras now out told a ≡ after_sends h r sends draws extras now out told (sends_tested h r sends draws extras a)
      go (refused k) = refl
      go done =
          spread (leb (length sends / message_words) most_messages) (eqb (length sends) (message_words * (length sends / message_words)))
          (sends_from sends draws extras (length sends / message_words) 0 0 0 (head_in h) r) (length sends / message_words) most_messages

  pub send_refused : (k p : ℕ) → ran ≡ stopped k p → (n : ℕ) → n ≡ number_at k p → (b : List ℕ) → b ≡ r → Ticked n h b out told
  unfolding after_sends
  send_refused k p q = refuses k p (sends_first ∙ ap (after_sends h r sends draws extras now out told) q)

  module _ (t : Head) (v : List ℕ) (d x : ℕ) (q : ran ≡ all t v d x) where
    takes_then : tick ≡ taking_last h r sends draws extras now out told (answer_in (collect now (length out)) t v) t v d x
    unfolding after_sends
    takes_then = sends_first ∙ ap (after_sends h r sends draws extras now out told) q

    pub take_refused : (k : ℕ) → answer_in (collect now (length out)) t v ≡ refused k → (n : ℕ) → n ≡ number_at k (length sends / message_words)
        → (b o : List ℕ) → b ≡ r → o ≡ take_gives now out t v → Ticked n h b o told
    unfolding taking_last if_done
    take_refused k a n m b o y u =
        let l = refuses k (length sends / message_words) (takes_then ∙ ap (λ (z : Answer). taking_last h r sends draws extras now out told z t v d x) a) n m b y in
        (l.0, (l.1.0, (l.1.1.0, ((rw a at u) ∙ l.1.1.1.0, l.1.1.1.1))))

    pub all_done : answer_in (collect now (length out)) t v ≡ done
        → (s : Head) → s ≡ head_after (collect now (length out)) t v
        → (a b o : List ℕ) → a ≡ head_words s → b ≡ records_after (collect now (length out)) t v → o ≡ take_gives now out t v
        → (k : ℕ) → k ≡ length (due_records now t v)
        → Ticked 0 a b o (d ∷ x ∷ k ∷ [])
    unfolding taking_last if_done
    all_done e s j a b o p y u k m =
        let l = leaves (taking_last h r sends draws extras now out told done t v d x) (takes_then ∙ ap (λ (z : Answer). taking_last h r sends draws extras now out told z t v d x) e) in (
          l.0,
          (
            p ∙ (ap head_words j ∙ l.1.0),
            (y ∙ l.1.1.0, ((rw e at u) ∙ l.1.1.1.0, ap (λ (n : ℕ). d ∷ x ∷ n ∷ []) m ∙ l.1.1.1.1)),
          ),
        )

-- ---- and no take

module _ (h r sends draws extras told : List ℕ) where
  abbrev queue : Rows
  queue = queued h r sends draws extras told

  abbrev pub Queued : ℕ → List ℕ → List ℕ → List ℕ → Type 0
  Queued n a b t = (n ≡ queue.number) × ((a ≡ queue.head) × ((b ≡ queue.records) × (t ≡ queue.told)))

  pub queue-refused : (k p : ℕ) → batch_ran h r sends draws extras ≡ stopped k p → (n : ℕ) → n ≡ number_at k p → (b : List ℕ) → b ≡ r → Queued n h b told
  unfolding after_queue
  queue-refused k p q n m b y = (rw q m, (rw q, (rw q y, rw q)))

  pub queue-done : (t : Head) (v : List ℕ) (d x : ℕ) → batch_ran h r sends draws extras ≡ all t v d x → (a : List ℕ) → a ≡ head_words t → Queued 0 a v (d ∷ x ∷ [])
  unfolding after_queue
  queue-done t v d x q a m = (rw q, (rw q m, (rw q, rw q)))

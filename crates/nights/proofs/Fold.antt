-- Step 3: the fold of a standing list has the pending list and the counters that the rule says. Assumes nothing.
use Prim.Native.Nat.{ℕ, ◌+◌, ◌≤◌}
use mathlib.Core.Path.{◌≡◌, refl, sym, ap, ◌∙◌}
use mathlib.Core.List.{List, [], ◌∷◌, ◌++◌, map, reverse, reverse-cons}
use mathlib.Core.Bool.{Bool, true, false, cond}
use native.Mathlib.Omega.{arith}
use lib.ListN.{length, length-append, length-map}
use Rattle.nights.specs.Record.{Record}
use Rattle.nights.specs.Net.{Options, Plain, fresh, keep, insert_by, insert_all, Fate, dues, lost_by, replayed_by, delayed_by, Draws, Letter, copies, Change, send, collect, choose, is_later, effect, good_options}
use Rattle.nights.specs.Rule.{options_by, options_rule, fate_by, fates, total, makes, Made, followed, made, missed_by, untaken, waits, delivered_rule, sent_rule, lost_rule, replayed_rule, delayed_rule, Counted}
use Rattle.nights.proofs.Folding.{replay}
use Rattle.nights.proofs.Order.{All, Ordered, Newer, all_insert, length_split, keep-keep, keep_all, ordered_insert, insert_all-append, length-insert_all, unseen, seen}
use Rattle.nights.proofs.Good.{Numbered, Good, copy_at, raise, newer, length-copies, good_effect, good_fresh, good_replay, Sound, Fit, fit_replay}

-- the fold again, from any network and with the oldest first
unfoldable pub forward : Draws → Plain → List Change → Plain
forward fate n [] = n
forward fate n (c ∷ later) = forward fate (effect fate c n) later

forward-append : (fate : Draws) (n : Plain) (a b : List Change) → forward fate n (a ++ b) ≡ forward fate (forward fate n a) b
unfolding forward
forward-append fate n [] b = refl
forward-append fate n (c ∷ a) b = forward-append fate (effect fate c n) a b

pub replay-forward : (fate : Draws) (o : Options) (st : List Change) → replay fate o st ≡ forward fate (fresh o) (reverse st)
unfolding replay forward
replay-forward fate o [] = refl
replay-forward fate o (c ∷ st) =
    ap (λ (n : Plain). effect fate c n) (replay-forward fate o st)
    ∙ sym (ap (λ (l : List Change). forward fate (fresh o) l) (reverse-cons c st) ∙ forward-append fate (fresh o) (reverse st) (c ∷ []))

-- a filter passes the insertion of new copies
seen_first : (b : Bool) (f : Record → Bool) (r : Record) (rs l : List Record) → f r ≡ b → Ordered l → Newer r l
    → insert_all rs (keep f (insert_by r l)) ≡ insert_all (cond b (r ∷ rs) rs) (keep f l)
unfolding insert_all
seen_first true f r rs l e a b = ap (λ (z : List Record). insert_all rs z) (seen f r l a b e)
seen_first false f r rs l e a b = ap (λ (z : List Record). insert_all rs z) (unseen f r l e)

copies_seen : (f : Record → Bool) (m : Letter) (q : ℕ) (ds : List ℕ) (l : List Record) → Ordered l → Numbered q l
    → keep f (insert_all (copies m q ds) l) ≡ insert_all (keep f (copies m q ds)) (keep f l)
unfolding copies insert_all keep
copies_seen f m q [] l a b = refl
copies_seen f m q (d ∷ ds) l a b =
    copies_seen f m (q + 1) ds (insert_by (copy_at m q d) l)
    (ordered_insert (copy_at m q d) l a (newer m q d l b))
    (all_insert (λ (x : Record). x.seq ≤ q + 1) (copy_at m q d) l (omega arith) (raise q (q + 1) (omega arith) l b))
    ∙ seen_first (f (copy_at m q d)) f (copy_at m q d) (keep f (copies m (q + 1) ds)) l refl a (newer m q d l b)

-- ONE CALL, as the rule sees it
module _ (fate : Draws) where
  one_options : (c : Change) (n : Plain) → (effect fate c n).options ≡ options_by n.options c
  unfolding effect options_by
  one_options (send m draws extras) n = refl
  one_options (collect now room) n = refl
  one_options (choose o) n = refl

  one_seq : (c : Change) (n : Plain) → (effect fate c n).seq ≡ n.seq + length (makes fate n.options n.seq c)
  unfolding effect makes
  one_seq (send m draws extras) n = rw (length-copies m n.seq (dues (fate n.options m.now m.kind draws extras)))
  one_seq (collect now room) n = omega arith
  one_seq (choose o) n = omega arith

  one_pending : (c : Change) (later : List Change) (n : Plain) → Good n
      → keep (untaken later) (effect fate c n).pending
      ≡ insert_all (keep (untaken later) (makes fate n.options n.seq c)) (keep (untaken (c ∷ later)) n.pending)
  unfolding effect makes untaken missed_by keep insert_all
  one_pending (send m draws extras) later n g =
      copies_seen (untaken later) m n.seq (dues (fate n.options m.now m.kind draws extras)) n.pending g.ordered g.numbered
  one_pending (collect now room) later n g = keep-keep (untaken later) (is_later now) n.pending
  one_pending (choose o) later n g = refl

  one_sent : (c : Change) (n : Plain) → (effect fate c n).sent ≡ n.sent + length (fate_by fate n.options c)
  unfolding effect fate_by
  one_sent (send m draws extras) n = refl
  one_sent (collect now room) n = omega arith
  one_sent (choose o) n = omega arith

  one_lost : (c : Change) (n : Plain) → (effect fate c n).lost ≡ n.lost + total lost_by (fate_by fate n.options c)
  unfolding effect fate_by total
  one_lost (send m draws extras) n = omega arith
  one_lost (collect now room) n = omega arith
  one_lost (choose o) n = omega arith

  one_replayed : (c : Change) (n : Plain) → (effect fate c n).replayed ≡ n.replayed + total replayed_by (fate_by fate n.options c)
  unfolding effect fate_by total
  one_replayed (send m draws extras) n = omega arith
  one_replayed (collect now room) n = omega arith
  one_replayed (choose o) n = omega arith

  one_delayed : (c : Change) (n : Plain) → (effect fate c n).delayed ≡ n.delayed + total delayed_by (fate_by fate n.options c)
  unfolding effect fate_by total
  one_delayed (send m draws extras) n = omega arith
  one_delayed (collect now room) n = omega arith
  one_delayed (choose o) n = omega arith

-- ALL CALLS

total-append : (f : Fate → ℕ) (a b : List Fate) → total f (a ++ b) ≡ total f a + total f b
unfolding total
total-append f [] b = omega arith
total-append f (x ∷ a) b = let h = total-append f a b in omega arith

all_true : (l : List Record) → All (λ (x : Record). untaken [] x ≡ true) l
unfolding untaken
all_true [] = tt
all_true (x ∷ xs) = (refl, all_true xs)

-- the copy alone of one that was made
abbrev pub copy_of : Made → Record
copy_of m = m.copy

-- the copies of one call among all
first_step : (b : Bool) (x : Made) (l : List Made) (m k : List Record) → map copy_of l ≡ m ++ k
    → map copy_of (cond b (x ∷ l) l) ≡ cond b (x.copy ∷ m) m ++ k
first_step true x l m k e = ap (λ (z : List Record). x.copy ∷ z) e
first_step false x l m k e = e

first_copies : (later : List Change) (rs : List Record) (ms : List Made)
    → map copy_of (keep waits (map (followed later) rs ++ ms))
    ≡ keep (untaken later) rs ++ map copy_of (keep waits ms)
unfolding keep
first_copies later [] ms = refl
first_copies later (r ∷ rs) ms =
    first_step (untaken later r) (followed later r)
    (keep waits (map (followed later) rs ++ ms))
    (keep (untaken later) rs)
    (map copy_of (keep waits ms))
    (first_copies later rs ms)

module _ (fate : Draws) where
  fold_options : (cs : List Change) (n : Plain) → (forward fate n cs).options ≡ options_rule n.options cs
  unfolding forward options_rule
  fold_options [] n = refl
  fold_options (c ∷ later) n = fold_options later (effect fate c n) ∙ ap (λ (o : Options). options_rule o later) (one_options fate c n)

  fold_seq : (cs : List Change) (n : Plain) → (forward fate n cs).seq ≡ n.seq + length (made fate n.options n.seq cs)
  unfolding forward made
  fold_seq [] n = omega arith
  fold_seq (c ∷ later) n =
      let rs : List Record = makes fate n.options n.seq c in
      let ms : List Made = made fate (options_by n.options c) (n.seq + length rs) later in
      let h : (forward fate (effect fate c n) later).seq ≡ (effect fate c n).seq + length ms =
      rw (← (one_options fate c n), ← (one_seq fate c n)) (fold_seq later (effect fate c n)) in
      omega (
        arith,
        h,
        one_seq fate c n,
        length-append (map (followed later) rs) ms,
        length-map rs (followed later),
      )

  fold_pending : (cs : List Change) (n : Plain) → Good n
      → (forward fate n cs).pending
      ≡ insert_all (map copy_of (keep waits (made fate n.options n.seq cs))) (keep (untaken cs) n.pending)
  unfolding forward made keep insert_all
  fold_pending [] n g = sym (keep_all (untaken []) n.pending (all_true n.pending))
  fold_pending (c ∷ later) n g =
      let rs : List Record = makes fate n.options n.seq c in
      let ms : List Made = made fate (options_by n.options c) (n.seq + length rs) later in
      let h : (forward fate (effect fate c n) later).pending
      ≡ insert_all (map copy_of (keep waits ms)) (keep (untaken later) (effect fate c n).pending) =
      rw (← (one_options fate c n), ← (one_seq fate c n)) (fold_pending later (effect fate c n) (good_effect fate c n g)) in
      h
      ∙ (ap (λ (z : List Record). insert_all (map copy_of (keep waits ms)) z) (one_pending fate c later n g)
      ∙ (sym (insert_all-append (keep (untaken later) rs) (map copy_of (keep waits ms)) (keep (untaken (c ∷ later)) n.pending))
      ∙ ap (λ (z : List Record). insert_all z (keep (untaken (c ∷ later)) n.pending)) (sym (first_copies later rs ms))))

  fold_sent : (cs : List Change) (n : Plain) → (forward fate n cs).sent ≡ n.sent + length (fates fate n.options cs)
  unfolding forward fates
  fold_sent [] n = omega arith
  fold_sent (c ∷ later) n =
      let h : (forward fate (effect fate c n) later).sent ≡ (effect fate c n).sent + length (fates fate (options_by n.options c) later) =
      rw (← (one_options fate c n)) (fold_sent later (effect fate c n)) in
      omega (arith, h, one_sent fate c n, length-append (fate_by fate n.options c) (fates fate (options_by n.options c) later))

  -- a counter that each call raises by what the fates say
  module _ (count : Plain → ℕ) (by : Fate → ℕ)
      (one : (c : Change) (n : Plain) → count (effect fate c n) ≡ count n + total by (fate_by fate n.options c)) where
    fold_total : (cs : List Change) (n : Plain) → count (forward fate n cs) ≡ count n + total by (fates fate n.options cs)
    unfolding forward fates total
    fold_total [] n = omega arith
    fold_total (c ∷ later) n =
        let h : count (forward fate (effect fate c n) later) ≡ count (effect fate c n) + total by (fates fate (options_by n.options c) later) =
        rw (← (one_options fate c n)) (fold_total later (effect fate c n)) in
        omega (arith, h, one c n, total-append by (fate_by fate n.options c) (fates fate (options_by n.options c) later))

-- STEP 3

-- the copies that wait, sorted by due tick and then by seq
abbrev pub sorted_copies : Draws → Options → List Change → List Record
sorted_copies fate o st = insert_all (map copy_of (keep waits (made fate o 0 st))) []

module _ (fate : Draws) (o : Options) (st : List Change) where
  sorted_forward : (n : Plain) → n ≡ forward fate (fresh o) (reverse st) → n.pending ≡ sorted_copies fate o (reverse st)
  unfolding keep
  sorted_forward n e = ap (λ (x : Plain). x.pending) e ∙ fold_pending fate (reverse st) (fresh o) (good_fresh o)

  counted_forward : (n : Plain) → n ≡ forward fate (fresh o) (reverse st) → Good n → Fit n → Counted fate o (reverse st) n
  counted_forward n e g t =
      let r : List Change = reverse st in
      let ms : List Made = made fate o 0 r in
      let seq : n.seq ≡ length ms = omega (arith, ap (λ (x : Plain). x.seq) e, fold_seq fate r (fresh o)) in
      let sent : n.sent ≡ sent_rule fate o r = omega (arith, ap (λ (x : Plain). x.sent) e, fold_sent fate r (fresh o)) in
      let lost : n.lost ≡ lost_rule fate o r =
      omega (arith, ap (λ (x : Plain). x.lost) e, fold_total fate (λ (x : Plain). x.lost) lost_by (one_lost fate) r (fresh o)) in
      let replayed : n.replayed ≡ replayed_rule fate o r =
      omega (arith, ap (λ (x : Plain). x.replayed) e, fold_total fate (λ (x : Plain). x.replayed) replayed_by (one_replayed fate) r (fresh o)) in
      let delayed : n.delayed ≡ delayed_rule fate o r =
      omega (arith, ap (λ (x : Plain). x.delayed) e, fold_total fate (λ (x : Plain). x.delayed) delayed_by (one_delayed fate) r (fresh o)) in
      let waiting : length n.pending ≡ length (keep waits ms) =
      ap length (sorted_forward n e) ∙ omega (arith, length-insert_all (map copy_of (keep waits ms)) [], length-map (keep waits ms) copy_of) in
      let delivered : n.delivered ≡ delivered_rule fate o r = omega (arith, g.counted, length_split waits ms) in
      record {
        options = ap (λ (x : Plain). x.options) e ∙ fold_options fate r (fresh o);
        seq = seq;
        sent = sent;
        delivered = delivered;
        lost = lost;
        replayed = replayed;
        delayed = delayed;
        waiting = waiting;
        balance = omega (arith, t.even, g.counted, sent, replayed, delivered, lost, waiting);
      }

  pub pending_sorted : (replay fate o st).pending ≡ sorted_copies fate o (reverse st)
  pending_sorted = sorted_forward (replay fate o st) (replay-forward fate o st)

  pub counted : good_options o ≡ true → Sound fate o st → Counted fate o (reverse st) (replay fate o st)
  counted h s = counted_forward (replay fate o st) (replay-forward fate o st) (good_replay fate o st) (fit_replay fate o st h s)

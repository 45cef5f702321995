-- From a well-formed network, the one that undoing leaves is well formed exactly if the part holds that the record can break: a send's
-- record drops the newest records, so that the others stay good and in order, and writes counters; a take's moves records from the
-- delivered to the pending, so that every sum stays; a change of options writes the options alone. Assumes nothing.
use Prim.Native.Nat.{ℕ, ◌+◌, ◌-◌, ◌≤◌}
use mathlib.Core.Path.{◌≡◌, refl, sym, ◌∙◌}
use mathlib.Core.List.{List, [], ◌∷◌}
use mathlib.Core.Bool.{Bool, true, false, cond, ◌&&◌}
use native.Mathlib.Omega.{arith}
use borrow.Author.Tests.{le-leb, eq-eqb}
use lib.Dec.{leb}
use lib.ListN.{length}
use Rattle.basis.proofs.Laws.{both}
use Rattle.nights.specs.Record.{Record}
use Rattle.nights.specs.Net.{capacity, sent_limit, Plain, keep, insert_all, every, good_record, rising, good_counts, well_formed}
use Rattle.nights.specs.Journal.{unsend, untake, unchoose}
use Rattle.nights.proofs.Order.{length-insert_all, ordered_keep, apart_keep}
use Rattle.nights.proofs.Good.{rises}
use Rattle.nights.proofs.Kept.{counted, good, fit}
use Rattle.journal_tests.specs.Parts.{options_hold, records_hold, counters_hold}

-- ---- the parts are the whole

grouped : (o e r k : Bool) → o && (e && (r && k)) ≡ o && ((e && r) && k)
grouped true true r k = refl
grouped true false r k = refl
grouped false e r k = refl

pub three_parts : (n : Plain) → well_formed n ≡ options_hold n && (records_hold n && counters_hold n)
unfolding well_formed
three_parts n = grouped (options_hold n) (every (good_record n.seq) n.pending) (rising n.pending) (counters_hold n)

right_true : (a b : Bool) → b ≡ true → a && b ≡ a
right_true true b e = e
right_true false b e = refl

-- what is left of the test where two of the parts are known
options_left : (n : Plain) → records_hold n ≡ true → counters_hold n ≡ true → well_formed n ≡ options_hold n
options_left n a b = three_parts n ∙ right_true (options_hold n) (records_hold n && counters_hold n) (rw (a, b))

records_left : (n : Plain) → options_hold n ≡ true → counters_hold n ≡ true → well_formed n ≡ records_hold n
records_left n a b = three_parts n ∙ (rw a (right_true (records_hold n) (counters_hold n) b))

counters_left : (n : Plain) → options_hold n ≡ true → records_hold n ≡ true → well_formed n ≡ counters_hold n
counters_left n a b = three_parts n ∙ rw (a, b)

-- ---- the newest records dropped

-- a good record whose number is at most q is good beside q
still_good : (s q : ℕ) (x : Record) → good_record s x ≡ true → leb x.seq q ≡ true → good_record q x ≡ true
unfolding good_record
still_good s q x g h =
    let a = both (leb 1 x.seq) _ g in
    let b = both (leb x.seq s) _ a.1 in
    rw (a.0, h, b.1)

kept_step : (b : Bool) (s q : ℕ) (x : Record) (l : List Record) → leb x.seq q ≡ b → good_record s x ≡ true
    → every (good_record q) l ≡ true → every (good_record q) (cond b (x ∷ l) l) ≡ true
unfolding every
kept_step true s q x l h g e = rw (still_good s q x g h, e)
kept_step false s q x l h g e = e

kept_good : (s q : ℕ) (l : List Record) → every (good_record s) l ≡ true
    → every (good_record q) (keep (λ (x : Record). leb x.seq q) l) ≡ true
unfolding every keep
kept_good s q [] e = refl
kept_good s q (x ∷ xs) e =
    let h = both (good_record s x) (every (good_record s) xs) e in
    kept_step (leb x.seq q) s q x (keep (λ (y : Record). leb y.seq q) xs) refl h.0 (kept_good s q xs h.1)

-- ---- a well-formed network

module _ (n : Plain) (f : well_formed n ≡ true) where
  held : (options_hold n ≡ true) × (records_hold n ≡ true) × (counters_hold n ≡ true)
  held =
      let a = both (options_hold n) _ (sym (three_parts n) ∙ f) in
      let b = both (records_hold n) (counters_hold n) a.1 in
      (a.0, b.0, b.1)

  all_good : every (good_record n.seq) n.pending ≡ true
  all_good = (both (every (good_record n.seq) n.pending) (rising n.pending) held.1).0

  -- a send undone: the counters alone
  module _ (q l r d : ℕ) where
    dropped_hold : records_hold (unsend q l r d n) ≡ true
    dropped_hold =
        rw (
          kept_good n.seq q n.pending all_good,
          rises (keep (λ (x : Record). leb x.seq q) n.pending)
              (ordered_keep (λ (x : Record). leb x.seq q) n.pending (good n f).ordered)
              (apart_keep (λ (x : Record). leb x.seq q) n.pending (fit n f).apart),
        )

    pub send_breaks : well_formed (unsend q l r d n) ≡ counters_hold (unsend q l r d n)
    send_breaks = counters_left (unsend q l r d n) held.0 dropped_hold

  -- a take undone, of no more records than were delivered and than there is room for: the records alone
  module _ (rs : List Record) (few : length rs ≤ n.delivered) (room : length n.pending + length rs ≤ capacity) where
    sums_stay : counters_hold (untake rs n) ≡ true
    unfolding good_counts
    sums_stay =
        let c = counted n f in
        let z : length (insert_all rs n.pending) ≡ length rs + length n.pending = length-insert_all rs n.pending in
        rw (
          le-leb (length (insert_all rs n.pending)) capacity (omega (arith, z, room)),
          le-leb n.sent sent_limit c.few,
          le-leb n.lost n.sent c.lost,
          le-leb n.replayed n.sent c.replayed,
          eq-eqb (n.sent + n.replayed) (n.delivered - length rs + n.lost + length (insert_all rs n.pending))
              (omega (arith, z, few, c.even)),
          eq-eqb n.seq (n.delivered - length rs + length (insert_all rs n.pending)) (omega (arith, z, few, c.numbered)),
          le-leb n.delayed n.seq c.delayed,
        )

    pub take_breaks : well_formed (untake rs n) ≡ records_hold (untake rs n)
    take_breaks = records_left (untake rs n) held.0 sums_stay

  -- a change of options undone: the options alone
  pub options_break : (w : List ℕ) (b : ℕ) → well_formed (unchoose w b n) ≡ options_hold (unchoose w b n)
  options_break w b = options_left (unchoose w b n) held.1 held.2

-- What every network of a run keeps: the order of its records, and that it is well formed. Assumes nothing.
use Prim.Native.Nat.{ℕ, suc, ◌+◌, ◌≤◌, ◌<◌}
use mathlib.Core.Path.{◌≡◌, refl, ap}
use mathlib.Core.List.{List, [], ◌∷◌}
use mathlib.Core.Bool.{Bool, true}
use native.Mathlib.Omega.{arith}
use borrow.Author.Tests.{le-leb, eq-eqb, ne_eqb}
use lib.ListN.{length}
use Rattle.nights.specs.Record.{Record}
use Rattle.basis.proofs.Laws.{bit_le}
use Rattle.nights.specs.Net.{capacity, sent_limit, last_kind, last_sort, Options, Plain, fresh, every, insert_by, insert_all, Fate, refuse, lose, once, twice, dues, lost_by, replayed_by, delayed_by, Draws, Letter, copies, Change, send, collect, choose, is_due, is_later, send_one, take_due, set_options, effect, good_options, good_record, ahead, rising, good_counts, well_formed}
use Rattle.nights.specs.Tests.{allowed}
use Rattle.nights.proofs.Folding.{replay}
use Rattle.nights.proofs.Order.{Before, All, Ordered, Newer, before_earlier, all_map, all_both, all_keep, all_insert, all_insert_all, length_split, ordered_keep, ordered_insert, length-insert_all, Unlike, Apart, apart_keep, apart_insert}

-- WHAT ANY CALLS KEEP

abbrev pub Numbered : ℕ → List Record → Type 0
Numbered q l = All (λ (x : Record). x.seq ≤ q) l

pub record Good (n : Plain) : Type 0 where
  pub ordered : Ordered n.pending
  pub numbered : Numbered n.seq n.pending
  pub counted : n.seq ≡ n.delivered + length n.pending

abbrev pub copy_at : Letter → ℕ → ℕ → Record
copy_at m q d =
    record { due = d; seq = q + 1; sent_at = m.now; sort = m.sort; origin = m.origin; to = m.to; kind = m.kind; handle = m.handle }

pub raise : (q p : ℕ) → q ≤ p → (l : List Record) → Numbered q l → Numbered p l
raise q p h l a = all_map (λ (x : Record) (k : x.seq ≤ q). omega arith) l a

pub newer : (m : Letter) (q d : ℕ) (l : List Record) → Numbered q l → Newer (copy_at m q d) l
newer m q d l a = all_map (λ (x : Record) (k : x.seq ≤ q). omega arith) l a

pub length-copies : (m : Letter) (q : ℕ) (ds : List ℕ) → length (copies m q ds) ≡ length ds
unfolding copies
length-copies m q [] = refl
length-copies m q (d ∷ ds) = ap suc (length-copies m (q + 1) ds)

-- the numbers of the copies
pub copies_above : (m : Letter) (q p : ℕ) (ds : List ℕ) → p ≤ q → All (λ (x : Record). p < x.seq) (copies m q ds)
unfolding copies
copies_above m q p [] h = tt
copies_above m q p (d ∷ ds) h = (omega arith, copies_above m (q + 1) p ds (omega arith))

copies_below : (m : Letter) (q : ℕ) (ds : List ℕ) → Numbered (q + length ds) (copies m q ds)
unfolding copies
copies_below m q [] = tt
copies_below m q (d ∷ ds) = (omega arith, raise (q + 1 + length ds) (q + length (d ∷ ds)) (omega arith) (copies m (q + 1) ds) (copies_below m (q + 1) ds))

pub copies_ordered : (m : Letter) (q : ℕ) (ds : List ℕ) (l : List Record) → Ordered l → Numbered q l → Ordered (insert_all (copies m q ds) l)
unfolding copies insert_all
copies_ordered m q [] l a b = a
copies_ordered m q (d ∷ ds) l a b =
    copies_ordered m (q + 1) ds (insert_by (copy_at m q d) l)
    (ordered_insert (copy_at m q d) l a (newer m q d l b))
    (all_insert (λ (x : Record). x.seq ≤ q + 1) (copy_at m q d) l (omega arith) (raise q (q + 1) (omega arith) l b))

good_send : (m : Letter) (f : Fate) (n : Plain) → Good n → Good (send_one m f n)
good_send m f n g =
    record {
      ordered = copies_ordered m n.seq (dues f) n.pending g.ordered g.numbered;
      numbered =
          all_insert_all (λ (x : Record). x.seq ≤ n.seq + length (dues f)) (copies m n.seq (dues f)) n.pending
          (copies_below m n.seq (dues f))
          (raise n.seq (n.seq + length (dues f)) (omega arith) n.pending g.numbered);
      counted =
          omega (arith, g.counted, length-insert_all (copies m n.seq (dues f)) n.pending, length-copies m n.seq (dues f));
    }

good_take : (now : ℕ) (n : Plain) → Good n → Good (take_due now n)
good_take now n g =
    record {
      ordered = ordered_keep (is_later now) n.pending g.ordered;
      numbered = all_keep (λ (x : Record). x.seq ≤ n.seq) (is_later now) n.pending g.numbered;
      counted = omega (arith, g.counted, length_split (is_due now) n.pending);
    }

good_set : (o : Options) (n : Plain) → Good n → Good (set_options o n)
good_set o n g = record { ordered = g.ordered; numbered = g.numbered; counted = g.counted }

pub good_effect : (fate : Draws) (c : Change) (n : Plain) → Good n → Good (effect fate c n)
unfolding effect
good_effect fate (send m draws extras) n g = good_send m (fate n.options m.now m.kind draws extras) n g
good_effect fate (collect now room) n g = good_take now n g
good_effect fate (choose o) n g = good_set o n g

pub good_fresh : (o : Options) → Good (fresh o)
good_fresh o = record { ordered = tt; numbered = tt; counted = refl }

pub good_replay : (fate : Draws) (o : Options) (st : List Change) → Good (replay fate o st)
unfolding replay
good_replay fate o [] = good_fresh o
good_replay fate o (c ∷ st) = good_effect fate c (replay fate o st) (good_replay fate o st)

-- WHAT ACCEPTED CALLS KEEP

-- what a call was found to be when it was accepted
pub record PassedSend (m : Letter) (f : Fate) (n : Plain) : Type 0 where
  pub kind : m.kind ≤ 10
  pub sort : m.sort ≤ 1
  pub sent : n.sent < sent_limit
  pub fated : allowed f ≡ true
  pub small : length n.pending + length (dues f) ≤ capacity

abbrev pub Passed : Draws → Change → Plain → Type 0
Passed fate (send m draws extras) n = PassedSend m (fate n.options m.now m.kind draws extras) n
Passed fate (collect now room) n = Unit {0}
Passed fate (choose o) n = good_options o ≡ true

-- a standing list whose calls were accepted, the newest first
abbrev pub Sound : Draws → Options → List Change → Type 0
Sound fate o [] = Unit {0}
Sound fate o (c ∷ older) = Passed fate c (replay fate o older) × Sound fate o older

pub record Fine (x : Record) : Type 0 where
  pub low : 1 ≤ x.seq
  pub kind : x.kind ≤ last_kind
  pub sort : x.sort ≤ last_sort

pub record Fit (n : Plain) : Type 0 where
  pub chances : good_options n.options ≡ true
  pub fine : All Fine n.pending
  pub apart : Apart n.pending
  pub small : length n.pending ≤ capacity
  pub few : n.sent ≤ sent_limit
  pub lost : n.lost ≤ n.sent
  pub replayed : n.replayed ≤ n.sent
  pub even : n.sent + n.replayed ≡ n.lost + n.seq
  pub delayed : n.delayed ≤ n.seq

-- a send that is not refused: one or two by the replay, none by a loss
pub record Fair (f : Fate) : Type 0 where
  pub even : 1 + replayed_by f ≡ lost_by f + length (dues f)
  pub lost : lost_by f ≤ 1
  pub replayed : replayed_by f ≤ 1
  pub delayed : delayed_by f ≤ length (dues f)

fair : (f : Fate) → allowed f ≡ true → Fair f
unfolding replayed_by lost_by delayed_by dues
fair (refuse k) e = let z : ◌≡◌ {A = ℕ} 0 1 = cc in absurd (omega arith)
fair lose e = record { even = refl; lost = omega arith; replayed = omega arith; delayed = omega arith }
fair (once d x) e = record { even = refl; lost = omega arith; replayed = omega arith; delayed = bit_le x }
fair (twice c d x y) e =
    record { even = refl; lost = omega arith; replayed = omega arith; delayed = omega (arith, bit_le x, bit_le y) }

fine_copies : (m : Letter) (q : ℕ) (ds : List ℕ) → m.kind ≤ 10 → m.sort ≤ 1 → All Fine (copies m q ds)
unfolding copies
fine_copies m q [] h k = tt
fine_copies m q (d ∷ ds) h k = (record { low = omega arith; kind = h; sort = k }, fine_copies m (q + 1) ds h k)

apart_copies : (m : Letter) (q : ℕ) (ds : List ℕ) (l : List Record) → Apart l → Numbered q l → Apart (insert_all (copies m q ds) l)
unfolding copies insert_all
apart_copies m q [] l a b = a
apart_copies m q (d ∷ ds) l a b =
    apart_copies m (q + 1) ds (insert_by (copy_at m q d) l)
    (apart_insert (copy_at m q d) l a (newer m q d l b))
    (all_insert (λ (x : Record). x.seq ≤ q + 1) (copy_at m q d) l (omega arith) (raise q (q + 1) (omega arith) l b))

fit_send : (m : Letter) (f : Fate) (n : Plain) → Good n → PassedSend m f n → Fit n → Fit (send_one m f n)
fit_send m f n g p t =
    let a : Fair f = fair f p.fated in
    let l : length (insert_all (copies m n.seq (dues f)) n.pending) ≡ length (dues f) + length n.pending =
    omega (arith, length-insert_all (copies m n.seq (dues f)) n.pending, length-copies m n.seq (dues f)) in
    record {
      chances = t.chances;
      fine = all_insert_all Fine (copies m n.seq (dues f)) n.pending (fine_copies m n.seq (dues f) p.kind p.sort) t.fine;
      apart = apart_copies m n.seq (dues f) n.pending t.apart g.numbered;
      small = omega (arith, l, p.small);
      few = omega (arith, p.sent);
      lost = omega (arith, a.lost, t.lost);
      replayed = omega (arith, a.replayed, t.replayed);
      even = omega (arith, a.even, t.even);
      delayed = omega (arith, a.delayed, t.delayed);
    }

fit_take : (now : ℕ) (n : Plain) → Fit n → Fit (take_due now n)
fit_take now n t =
    record {
      chances = t.chances;
      fine = all_keep Fine (is_later now) n.pending t.fine;
      apart = apart_keep (is_later now) n.pending t.apart;
      small = omega (arith, t.small, length_split (is_due now) n.pending);
      few = t.few;
      lost = t.lost;
      replayed = t.replayed;
      even = t.even;
      delayed = t.delayed;
    }

fit_set : (o : Options) (n : Plain) → good_options o ≡ true → Fit n → Fit (set_options o n)
fit_set o n p t =
    record {
      chances = p;
      fine = t.fine;
      apart = t.apart;
      small = t.small;
      few = t.few;
      lost = t.lost;
      replayed = t.replayed;
      even = t.even;
      delayed = t.delayed;
    }

pub fit_effect : (fate : Draws) (c : Change) (n : Plain) → Good n → Passed fate c n → Fit n → Fit (effect fate c n)
unfolding effect
fit_effect fate (send m draws extras) n g p t = fit_send m (fate n.options m.now m.kind draws extras) n g p t
fit_effect fate (collect now room) n g p t = fit_take now n t
fit_effect fate (choose o) n g p t = fit_set o n p t

pub fit_fresh : (o : Options) → good_options o ≡ true → Fit (fresh o)
fit_fresh o h =
    record {
      chances = h;
      fine = tt;
      apart = tt;
      small = omega arith;
      few = omega arith;
      lost = omega arith;
      replayed = omega arith;
      even = refl;
      delayed = omega arith;
    }

pub fit_replay : (fate : Draws) (o : Options) (st : List Change) → good_options o ≡ true → Sound fate o st → Fit (replay fate o st)
unfolding replay
fit_replay fate o [] h s = fit_fresh o h
fit_replay fate o (c ∷ st) h s = fit_effect fate c (replay fate o st) (good_replay fate o st) s.0 (fit_replay fate o st h s.1)

-- THE TEST passes
pub every_true : (p : Record → Bool) (l : List Record) → All (λ (x : Record). p x ≡ true) l → every p l ≡ true
unfolding every
every_true p [] a = refl
every_true p (x ∷ xs) a = rw (a.0, every_true p xs a.1)

fine_good : (q : ℕ) (x : Record) → Fine x → x.seq ≤ q → good_record q x ≡ true
unfolding good_record
fine_good q x f h = rw (le-leb 1 x.seq f.low, le-leb x.seq q h, le-leb x.kind 10 f.kind, le-leb x.sort 1 f.sort)

apart_ahead : (x y : Record) → Before x y → Unlike x y → ahead x y ≡ true
unfolding ahead
apart_ahead x y b h = rw (before_earlier b, ne_eqb x.seq y.seq h)

pub rises : (l : List Record) → Ordered l → Apart l → rising l ≡ true
unfolding rising
rises [] a b = refl
rises (x ∷ xs) a b =
    rw (
      every_true (ahead x) xs (all_both (λ (y : Record) (p : Before x y) (q : Unlike x y). apart_ahead x y p q) xs a.0 b.0),
      rises xs a.1 b.1,
    )

pub rises_of : (n : Plain) → Good n → Fit n → rising n.pending ≡ true
rises_of n g t = rises n.pending g.ordered t.apart

pub good_counts_lem : (n : Plain) → Good n → Fit n
    → good_counts (length n.pending) n.seq n.sent n.delivered n.lost n.replayed n.delayed ≡ true
unfolding good_counts
good_counts_lem n g t =
    rw (
      le-leb (length n.pending) capacity t.small,
      le-leb n.sent sent_limit t.few,
      le-leb n.lost n.sent t.lost,
      le-leb n.replayed n.sent t.replayed,
      eq-eqb (n.sent + n.replayed) (n.delivered + n.lost + length n.pending) (omega (arith, t.even, g.counted)),
      eq-eqb n.seq (n.delivered + length n.pending) g.counted,
      le-leb n.delayed n.seq t.delayed,
    )

pub well_formed_lem : (n : Plain) → Good n → Fit n → well_formed n ≡ true
unfolding well_formed
well_formed_lem n g t =
    rw (
      t.chances,
      every_true (good_record n.seq) n.pending
          (all_both (λ (x : Record) (p : Fine x) (q : x.seq ≤ n.seq). fine_good n.seq x p q) n.pending t.fine g.numbered),
      rises_of n g t,
      good_counts_lem n g t,
    )

pub well_formed_replay : (fate : Draws) (o : Options) (st : List Change) → good_options o ≡ true → Sound fate o st
    → well_formed (replay fate o st) ≡ true
well_formed_replay fate o st h s = well_formed_lem (replay fate o st) (good_replay fate o st) (fit_replay fate o st h s)

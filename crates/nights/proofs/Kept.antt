-- A well-formed network is what the laws of calls ask of it, and so every accepted call on one leaves a well-formed one. Assumes nothing.
use Prim.Native.Nat.{ℕ, ◌+◌, ◌≤◌}
use mathlib.Core.Path.{◌≡◌}
use mathlib.Core.List.{List, [], ◌∷◌}
use mathlib.Core.Bool.{Bool, true, not}
use native.Mathlib.Omega.{arith}
use borrow.Author.Tests.{leb-true, eqb-true, eqb-false, not-true}
use lib.Dec.{leb, eqb}
use lib.ListN.{length}
use Rattle.basis.proofs.Laws.{both}
use Rattle.nights.specs.Record.{Record}
use Rattle.nights.specs.Net.{capacity, sent_limit, last_kind, last_sort, Options, Plain, fresh, every, Draws, Change, effect, good_options, good_record, earlier, ahead, rising, good_counts, well_formed}
use Rattle.nights.specs.Tests.{done, verdict, tests}
use Rattle.nights.proofs.Order.{Before, All, Ordered, Unlike, Apart, earlier-true, all_map}
use Rattle.nights.proofs.Good.{Good, Fine, Fit, good_effect, fit_effect, good_fresh, fit_fresh, well_formed_lem}
use Rattle.nights.proofs.Run.{passed_tests}

-- ---- what a test that holds says

pub every_all : (p : Record → Bool) (l : List Record) → every p l ≡ true → All (λ (x : Record). p x ≡ true) l
unfolding every
every_all p [] e = tt
every_all p (x ∷ xs) e = let h = both (p x) (every p xs) e in (h.0, every_all p xs h.1)

is_before : (x y : Record) → ahead x y ≡ true → Before x y
unfolding ahead
is_before x y e = earlier-true x y (both (earlier x y.due y.seq) (not (eqb x.seq y.seq)) e).0

is_unlike : (x y : Record) → ahead x y ≡ true → Unlike x y
unfolding ahead
is_unlike x y e =
    eqb-false x.seq y.seq (not-true (eqb x.seq y.seq) (both (earlier x y.due y.seq) (not (eqb x.seq y.seq)) e).1)

pub ordered : (l : List Record) → rising l ≡ true → Ordered l
unfolding rising
ordered [] e = tt
ordered (x ∷ xs) e =
    let h = both (every (ahead x) xs) (rising xs) e in
    (all_map (λ (y : Record) (k : ahead x y ≡ true). is_before x y k) xs (every_all (ahead x) xs h.0), ordered xs h.1)

pub apart : (l : List Record) → rising l ≡ true → Apart l
unfolding rising
apart [] e = tt
apart (x ∷ xs) e =
    let h = both (every (ahead x) xs) (rising xs) e in
    (all_map {Q = Unlike x} (λ (y : Record) (k : ahead x y ≡ true). is_unlike x y k) xs (every_all (ahead x) xs h.0), apart xs h.1)

pub record Ranged (q : ℕ) (x : Record) : Type 0 where
  pub fine : Fine x
  pub high : x.seq ≤ q

pub ranged : (q : ℕ) (x : Record) → good_record q x ≡ true → Ranged q x
unfolding good_record
ranged q x e =
    let a = both (leb 1 x.seq) _ e in
    let b = both (leb x.seq q) _ a.1 in
    let c = both (leb x.kind last_kind) (leb x.sort last_sort) b.1 in
    record {
      fine =
          record {
            low = leb-true 1 x.seq a.0;
            kind = leb-true x.kind last_kind c.0;
            sort = leb-true x.sort last_sort c.1;
          };
      high = leb-true x.seq q b.0;
    }

-- the counters
pub record Counts (p q s d l r y : ℕ) : Type 0 where
  pub small : p ≤ capacity
  pub few : s ≤ sent_limit
  pub lost : l ≤ s
  pub replayed : r ≤ s
  pub even : s + r ≡ d + l + p
  pub numbered : q ≡ d + p
  pub delayed : y ≤ q

pub counts : (p q s d l r y : ℕ) → good_counts p q s d l r y ≡ true → Counts p q s d l r y
unfolding good_counts
counts p q s d l r y e =
    let a = both (leb p capacity) _ e in
    let b = both (leb s sent_limit) _ a.1 in
    let c = both (leb l s) _ b.1 in
    let f = both (leb r s) _ c.1 in
    let g = both (eqb (s + r) (d + l + p)) _ f.1 in
    let h = both (eqb q (d + p)) (leb y q) g.1 in
    record {
      small = leb-true p capacity a.0;
      few = leb-true s sent_limit b.0;
      lost = leb-true l s c.0;
      replayed = leb-true r s f.0;
      even = eqb-true (s + r) (d + l + p) g.0;
      numbered = eqb-true q (d + p) h.0;
      delayed = leb-true y q h.1;
    }

-- ---- a well-formed network

module _ (n : Plain) (e : well_formed n ≡ true) where
  parts : (good_options n.options ≡ true)
      × (every (good_record n.seq) n.pending ≡ true)
      × (rising n.pending ≡ true)
      × (good_counts (length n.pending) n.seq n.sent n.delivered n.lost n.replayed n.delayed ≡ true)
  unfolding well_formed
  parts =
      let a = both (good_options n.options) _ e in
      let b = both (every (good_record n.seq) n.pending) _ a.1 in
      let c = both (rising n.pending) _ b.1 in
      (a.0, b.0, c.0, c.1)

  pub options_good : good_options n.options ≡ true
  options_good = parts.0

  pub rises : rising n.pending ≡ true
  rises = parts.2

  pub counted : Counts (length n.pending) n.seq n.sent n.delivered n.lost n.replayed n.delayed
  counted = counts (length n.pending) n.seq n.sent n.delivered n.lost n.replayed n.delayed parts.3

  ranges : All (Ranged n.seq) n.pending
  ranges =
      all_map (λ (x : Record) (k : good_record n.seq x ≡ true). ranged n.seq x k) n.pending
      (every_all (good_record n.seq) n.pending parts.1)

  pub good : Good n
  good =
      record {
        ordered = ordered n.pending rises;
        numbered = all_map (λ (x : Record) (r : Ranged n.seq x). r.high) n.pending ranges;
        counted = counted.numbered;
      }

  pub fit : Fit n
  fit =
      record {
        chances = options_good;
        fine = all_map (λ (x : Record) (r : Ranged n.seq x). r.fine) n.pending ranges;
        apart = apart n.pending rises;
        small = counted.small;
        few = counted.few;
        lost = counted.lost;
        replayed = counted.replayed;
        even = omega (arith, counted.even, counted.numbered);
        delayed = counted.delayed;
      }

-- every accepted call keeps a network well formed, and a fresh one of good options is
pub call_keeps : (fate : Draws) (c : Change) (n : Plain) → well_formed n ≡ true → verdict (tests fate c n []) ≡ done
    → well_formed (effect fate c n) ≡ true
call_keeps fate c n e a =
    well_formed_lem (effect fate c n) (good_effect fate c n (good n e))
    (fit_effect fate c n (good n e) (passed_tests fate c n [] a).0 (fit n e))

pub fresh_formed : (o : Options) → good_options o ≡ true → well_formed (fresh o) ≡ true
fresh_formed o h = well_formed_lem (fresh o) (good_fresh o) (fit_fresh o h)

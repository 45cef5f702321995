-- The two walks, over the order and over the numbers, together tell what the plain form asks of its records: each good, and all of
-- them rising with no number twice. Assumes nothing.
use Prim.Native.Nat.{ℕ}
use mathlib.Core.Path.{◌≡◌, refl}
use mathlib.Core.List.{List, [], ◌∷◌}
use mathlib.Core.Bool.{Bool, true, false, cond, not, ◌&&◌}
use native.Mathlib.Omega.{arith}
use borrow.Author.Tests.{ltb-true, ltb-false, lt-ltb, le-ltb, eqb-false, ne_eqb, not-true}
use lib.Dec.{ltb, eqb}
use Rattle.nights.specs.Record.{Record}
use Rattle.nights.specs.Net.{every, good_record, rising}
use Rattle.nights.proofs.Order.{Before, sooner, tied, before_trans, All, Ordered, Unlike, Apart, all_map}
use Rattle.nights.proofs.Good.{every_true, rises}
use Rattle.basis.proofs.Laws.{both}
use Rattle.nights.proofs.Kept.{every_all, ordered, apart, ranged}
use Rattle.network_records.specs.Form.{may_follow, in_order, among, distinct}

impossible : {A : Type 0} → false ≡ true → A
impossible e = let z : ◌≡◌ {A = ℕ} 0 1 = cc in absurd (omega arith)

-- ---- the order

-- a record with this key alone
abbrev key : ℕ → ℕ → Record
key d q = record { due = d; seq = q; sent_at = 0; sort = 0; origin = 0; to = 0; kind = 0; handle = 0 }

abbrev key_of : Record → Record
key_of x = key x.due x.seq

by_key : (x y : Record) → Before (key_of x) y → Before x y
by_key x y (sooner a) = sooner a
by_key x y (tied a b) = tied a b

at_key : (x y : Record) → Before x y → Before (key_of x) y
at_key x y (sooner a) = sooner a
at_key x y (tied a b) = tied a b

abbrev Good : ℕ → Record → Type 0
Good last x = good_record last x ≡ true

follower : (last d q : ℕ) (x : Record) → may_follow last d q x ≡ true → Good last x × Before (key d q) x
unfolding may_follow
follower last d q x e = go (good_record last x) (ltb x.due d) (ltb d x.due) refl refl refl e
  where
    go : (a b c : Bool) → good_record last x ≡ a → ltb x.due d ≡ b → ltb d x.due ≡ c
        → cond a (cond b false (cond c true (ltb q x.seq))) false ≡ true → Good last x × Before (key d q) x
    go false b c p r s h = impossible h
    go true true c p r s h = impossible h
    go true false true p r s h = (p, sooner (ltb-true d x.due s))
    go true false false p r s h =
        (p, tied (omega (arith, ltb-false x.due d r, ltb-false d x.due s)) (ltb-true q x.seq h))

follows : (last d q : ℕ) (x : Record) → Good last x → Before (key d q) x → may_follow last d q x ≡ true
unfolding may_follow
follows last d q x g (sooner a) = rw (g, le-ltb x.due d (omega arith), lt-ltb d x.due a)
follows last d q x g (tied a b) =
    rw (g, le-ltb x.due d (omega arith), le-ltb d x.due (omega arith), lt-ltb q x.seq b)

record Walked (last d q : ℕ) (l : List Record) : Type 0 where
  good : All (Good last) l
  in_order : Ordered l
  after : All (Before (key d q)) l

walked_step : (b : Bool) (last d q : ℕ) (x : Record) (xs : List Record) → may_follow last d q x ≡ b
    → cond b (in_order last x.due x.seq xs) false ≡ true
    → (in_order last x.due x.seq xs ≡ true → Walked last x.due x.seq xs) → Walked last d q (x ∷ xs)
walked_step true last d q x xs e h f =
    let g = follower last d q x e in
    let r : Walked last x.due x.seq xs = f h in
    let b : All (Before x) xs = all_map (λ (y : Record) (p : Before (key_of x) y). by_key x y p) xs r.after in
    record {
      good = (g.0, r.good);
      in_order = (b, r.in_order);
      after = (g.1, all_map (λ (y : Record) (p : Before x y). before_trans g.1 p) xs b);
    }
walked_step false last d q x xs e h f = impossible h

walked : (last d q : ℕ) (l : List Record) → in_order last d q l ≡ true → Walked last d q l
unfolding in_order
walked last d q [] h = record { good = tt; in_order = tt; after = tt }
walked last d q (x ∷ xs) h =
    walked_step (may_follow last d q x) last d q x xs refl h
    (λ (e : in_order last x.due x.seq xs ≡ true). walked last x.due x.seq xs e)

walks : (last d q : ℕ) (l : List Record) → All (Good last) l → Ordered l → All (Before (key d q)) l → in_order last d q l ≡ true
unfolding in_order
walks last d q [] g o a = refl
walks last d q (x ∷ xs) g o a =
    rw (follows last d q x g.0 a.0)
    (walks last x.due x.seq xs g.1 o.1 (all_map (λ (y : Record) (p : Before x y). at_key x y p) xs o.0))

-- every good record stands behind the key (0, 0)
behind_start : (last : ℕ) (x : Record) → Good last x → Before (key 0 0) x
behind_start last x g = go (ltb 0 x.due) refl
  where
    go : (b : Bool) → ltb 0 x.due ≡ b → Before (key 0 0) x
    go true e = sooner (ltb-true 0 x.due e)
    go false e = tied (omega (arith, ltb-false 0 x.due e)) (omega (arith, (ranged last x g).fine.low))

-- ---- the numbers

sought_step : (b : Bool) (q : ℕ) (y : Record) (ys : List Record) → eqb y.seq q ≡ b → cond b true (among q ys) ≡ false
    → (among q ys ≡ false → All (λ (z : Record). z.seq ≡ q → ⊥) ys) → All (λ (z : Record). z.seq ≡ q → ⊥) (y ∷ ys)
sought_step true q y ys p h f = let z : ◌≡◌ {A = ℕ} 0 1 = cc in absurd (omega arith)
sought_step false q y ys p h f = (eqb-false y.seq q p, f h)

sought : (q : ℕ) (l : List Record) → among q l ≡ false → All (λ (y : Record). y.seq ≡ q → ⊥) l
unfolding among
sought q [] e = tt
sought q (y ∷ ys) e = sought_step (eqb y.seq q) q y ys refl e (λ (h : among q ys ≡ false). sought q ys h)

pub absent : (q : ℕ) (l : List Record) → All (λ (y : Record). y.seq ≡ q → ⊥) l → among q l ≡ false
unfolding among
absent q [] a = refl
absent q (y ∷ ys) a = rw (ne_eqb y.seq q a.0, absent q ys a.1)

distinct_apart : (l : List Record) → distinct l ≡ true → Apart l
unfolding distinct
distinct_apart [] e = tt
distinct_apart (x ∷ xs) e =
    let h = both (not (among x.seq xs)) (distinct xs) e in (
      all_map {Q = Unlike x} (λ (y : Record) (k : y.seq ≡ x.seq → ⊥) (r : x.seq ≡ y.seq). k (omega arith)) xs
          (sought x.seq xs (not-true (among x.seq xs) h.0)),
      distinct_apart xs h.1,
    )

apart_distinct : (l : List Record) → Apart l → distinct l ≡ true
unfolding distinct
apart_distinct [] a = refl
apart_distinct (x ∷ xs) a =
    rw (
      absent x.seq xs
          (all_map {Q = λ (y : Record). y.seq ≡ x.seq → ⊥} (λ (y : Record) (k : Unlike x y) (r : y.seq ≡ x.seq). k (omega arith)) xs a.0),
      apart_distinct xs a.1,
    )

-- ---- together

same : (a b : Bool) → (a ≡ true → b ≡ true) → (b ≡ true → a ≡ true) → a ≡ b
same true true f g = refl
same true false f g = impossible (f refl)
same false true f g = impossible (g refl)
same false false f g = refl

pub walks_tell : (last : ℕ) (l : List Record) → in_order last 0 0 l && distinct l ≡ every (good_record last) l && rising l
walks_tell last l =
    same (in_order last 0 0 l && distinct l) (every (good_record last) l && rising l)
    (λ (e : in_order last 0 0 l && distinct l ≡ true).
    let h = both (in_order last 0 0 l) (distinct l) e in
    let w = walked last 0 0 l h.0 in
    rw (every_true (good_record last) l w.good, rises l w.in_order (distinct_apart l h.1)))
    (λ (e : every (good_record last) l && rising l ≡ true).
    let h = both (every (good_record last) l) (rising l) e in
    let g = every_all (good_record last) l h.0 in
    rw (
      walks last 0 0 l g (ordered l h.1) (all_map (λ (x : Record) (k : Good last x). behind_start last x k) l g),
      apart_distinct l (apart l h.1),
    ))

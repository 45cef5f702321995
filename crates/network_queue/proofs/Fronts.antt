-- On records in order those that are due stand in front: so the front and the back of the queue are what the plain form keeps.
-- Assumes nothing.
use Prim.Native.Nat.{ℕ, ◌≤◌, ◌<◌}
use mathlib.Core.Path.{◌≡◌, refl, sym, ap}
use mathlib.Core.List.{List, [], ◌∷◌}
use mathlib.Core.Bool.{Bool, true, false, cond, not}
use native.Mathlib.Omega.{arith}
use borrow.Author.Tests.{leb-false, lt-leb}
use lib.Dec.{leb}
use Rattle.nights.specs.Record.{Record}
use Rattle.nights.specs.Net.{keep, is_due, is_later}
use Rattle.nights.proofs.Order.{Before, sooner, tied, All, Ordered, all_map, keep_all}
use Rattle.network_queue.specs.Places.{front, back}

keep_none : (f : Record → Bool) (l : List Record) → All (λ (x : Record). f x ≡ false) l → keep f l ≡ []
unfolding keep
keep_none f [] a = refl
keep_none f (x ∷ xs) a = rw a.0 (keep_none f xs a.1)

before_due : {x y : Record} → Before x y → x.due ≤ y.due
before_due (sooner a) = omega arith
before_due (tied a b) = omega arith

past : (at : ℕ) (x : Record) (l : List Record) → at < x.due → All (Before x) l → All (λ (y : Record). is_due at y ≡ false) l
past at x l h a = all_map (λ (y : Record) (b : Before x y). lt-leb y.due at (omega (arith, before_due b))) l a

late : (at : ℕ) (x : Record) (l : List Record) → at < x.due → All (Before x) l → All (λ (y : Record). is_later at y ≡ true) l
late at x l h a = all_map (λ (y : Record) (e : is_due at y ≡ false). ap not e) l (past at x l h a)

front_step : (b : Bool) (at : ℕ) (x : Record) (xs : List Record) → leb x.due at ≡ b → All (Before x) xs → front at xs ≡ keep (is_due at) xs
    → cond b (x ∷ front at xs) [] ≡ cond b (x ∷ keep (is_due at) xs) (keep (is_due at) xs)
front_step true at x xs e a h = ap (λ (l : List Record). x ∷ l) h
front_step false at x xs e a h = sym (keep_none (is_due at) xs (past at x xs (leb-false x.due at e) a))

pub front_is : (at : ℕ) (l : List Record) → Ordered l → front at l ≡ keep (is_due at) l
unfolding front keep
front_is at [] q = refl
front_is at (x ∷ xs) q = front_step (leb x.due at) at x xs refl q.0 (front_is at xs q.1)

back_step : (b : Bool) (at : ℕ) (x : Record) (xs : List Record) → leb x.due at ≡ b → All (Before x) xs → back at xs ≡ keep (is_later at) xs
    → cond b (back at xs) (x ∷ xs) ≡ cond (not b) (x ∷ keep (is_later at) xs) (keep (is_later at) xs)
back_step true at x xs e a h = h
back_step false at x xs e a h =
    ap (λ (l : List Record). x ∷ l) (sym (keep_all (is_later at) xs (late at x xs (leb-false x.due at e) a)))

pub back_is : (at : ℕ) (l : List Record) → Ordered l → back at l ≡ keep (is_later at) l
unfolding back keep
back_is at [] q = refl
back_is at (x ∷ xs) q = back_step (leb x.due at) at x xs refl q.0 (back_is at xs q.1)

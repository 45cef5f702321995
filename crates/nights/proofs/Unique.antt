-- `Exactly` leaves one list. Assumes nothing.
use mathlib.Core.Path.{◌≡◌, refl, sym, ap₂, ◌∙◌, subst}
use mathlib.Core.Logic.{◌⊎◌, inl, inr}
use mathlib.Core.List.Memᴰ.{cases_cons}
use mathlib.Core.List.Memᴰ.{cast}
use mathlib.Core.List.Memᴰ.{head as here}
use mathlib.Core.List.Memᴰ.{not-nil}
use mathlib.Core.List.Memᴰ.{tail as there}
use mathlib.Core.List.{List, [], ◌∷◌, Memᴰ as Member}
use native.Mathlib.Omega.{arith}
use Rattle.nights.specs.Record.{Record}
use Rattle.nights.specs.Rule.{Made, Exactly}
use Rattle.nights.proofs.Order.{Before, sooner, tied, All, Ordered}
use Rattle.nights.proofs.Kept.{ordered}

never : {x y : Record} → Before x y → Before y x → ⊥
never (sooner a) (sooner b) = omega arith
never (sooner a) (tied b c) = omega arith
never (tied a c) (sooner b) = omega arith
never (tied a c) (tied b d) = omega arith

lookup : (x r : Record) (l : List Record) → All (Before x) l → Member r l → Before x r
lookup x r [] a p = absurd (not-nil p)
lookup x r (y ∷ ys) a p = go (cases_cons p) (λ (q : Member r ys). lookup x r ys a.1 q)
  where
    go : (r ≡ y) ⊎ Member r ys → (Member r ys → Before x r) → Before x r
    go (inl e) f = rw e a.0
    go (inr q) f = f q

same_head : (x y : Record) (xs ys : List Record) → All (Before x) xs → All (Before y) ys → (x ≡ y) ⊎ Member x ys → (y ≡ x) ⊎ Member y xs → x ≡ y
same_head x y xs ys a b (inl e) q = e
same_head x y xs ys a b (inr p) (inl e) = sym e
same_head x y xs ys a b (inr p) (inr q) = absurd (never (lookup x y xs a q) (lookup y x ys b p))

tail_in : (x y r : Record) (xs ys : List Record) → x ≡ y → All (Before x) xs → Member r xs → Member r (y ∷ ys) → Member r ys
tail_in x y r xs ys e a p q = go (cases_cons q)
  where
    go : (r ≡ y) ⊎ Member r ys → Member r ys
    go (inl f) = let b : Before x x = subst (λ (z : Record). Before x z) (f ∙ sym e) (lookup x r xs a p) in absurd (never b b)
    go (inr m) = m

abbrev Within : List Record → List Record → Type 0
Within l m = (r : Record) → Member r l → Member r m

one_list : (l m : List Record) → Ordered l → Ordered m → Within l m → Within m l → l ≡ m
one_list [] [] a b f g = refl
one_list [] (y ∷ ys) a b f g = absurd (not-nil (g y (here refl)))
one_list (x ∷ xs) [] a b f g = absurd (not-nil (f x (here refl)))
one_list (x ∷ xs) (y ∷ ys) a b f g =
    let e : x ≡ y = same_head x y xs ys a.0 b.0 (cases_cons (f x (here refl))) (cases_cons (g y (here refl))) in
    let t : xs ≡ ys =
    one_list xs ys a.1 b.1
    (λ (r : Record) (p : Member r xs). tail_in x y r xs ys e a.0 p (f r (there p)))
    (λ (r : Record) (p : Member r ys). tail_in y x r ys xs (sym e) b.0 p (g r (there p))) in
    ap₂ (λ (z : Record) (w : List Record). z ∷ w) e t

within : (ms : List Made) (l m : List Record) → Exactly ms l → Exactly ms m → Within l m
within ms l m a b r p =
    let x = a.only r p in
    cast (sym x.3) (b.all x.0 x.1 x.2)

pub exactly_one : (ms : List Made) (l m : List Record) → Exactly ms l → Exactly ms m → l ≡ m
exactly_one ms l m a b = one_list l m (ordered l a.rises) (ordered m b.rises) (within ms l m a b) (within ms m l b a)

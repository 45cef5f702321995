-- Laws of what is said of every number below a bound. Each is by induction over the bound. Assumes nothing.
use native.Mathlib.Omega.{arith}
use native.Mathlib.Decide.{dec_lt}
use native.Mathlib.Numerals.{add-one}
use native.Mathlib.Nat.{add-zero}
use mathlib.Core.Bool.{Bool, true, false, ◌&&◌}
use mathlib.Core.List.{[], ◌∷◌, ◌++◌}
use mathlib.Core.Path.{◌≡◌, refl, sym, ap, subst, ◌∙◌}
use Prim.Native.Nat.{ℕ, zero, suc, ◌+◌, ◌-◌, ◌≤◌, ◌<◌, max}
use lib.ListN.{length, get_or, length-append, get_or-append}
use lib.Seq.{get_or_at}
use Rattle.std.specs.Bool.{MatchBool}
use Rattle.std.specs.List.{list_all, range_with_len, AllWithin}
use Rattle.std.proofs.lemmas.Bool.{MatchBool-at_true}
use Rattle.std.proofs.lemmas.List.FromFn.{length-range_with_len, get_or-range_with_len}
use Rattle.basis.proofs.Laws.{both}
use Rattle.properties_snapshots.specs.Below.{numbered, all_below, max_below}

pub length-numbered : {A : Type 0} (n : ℕ) (f : ℕ → A) → length (numbered n f) ≡ n
unfolding numbered
length-numbered zero f = refl
length-numbered (suc n) f = length-append (numbered n f) (f n ∷ []) ∙ (ap (λ (k : ℕ). k + 1) (length-numbered n f) ∙ add-one n)

pub get_d_numbered : {A : Type 0} (n : ℕ) (f : ℕ → A) (k : ℕ) (d : A) → k < n → get_or (numbered n f) k d ≡ f k
unfolding numbered
get_d_numbered zero f k d h = absurd (omega arith)
get_d_numbered (suc n) f k d h =
    elim (dec_lt k n) [
      | yes g ↦
          get_or-append (numbered n f) (f n ∷ []) d k (omega (arith, length-numbered n f)) ∙ get_d_numbered n f k d g
      | no g ↦
          let e : k ≡ n = omega arith in
          get_or_at (numbered n f) (f n) [] d k (length-numbered n f ∙ sym e) ∙ ap f (sym e)
    ]

pub numbered_same : {A : Type 0} (n : ℕ) (f g : ℕ → A) → ((k : ℕ) → k < n → f k ≡ g k) → numbered n f ≡ numbered n g
unfolding numbered
numbered_same zero f g h = refl
numbered_same (suc n) f g h =
    rw (numbered_same n f g (λ k l. h k (omega arith)), h n (omega arith))

-- one number more, as a loop counts
pub numbered_more : {A : Type 0} (n : ℕ) (f : ℕ → A) → numbered (n + 1) f ≡ numbered n f ++ (f n ∷ [])
unfolding numbered
numbered_more n f = rw add-one

-- one number more, as a loop passes it
pub below_more : (P : ℕ → Type 0) (n : ℕ) → ((k : ℕ) → k < n → P k) → P n → (k : ℕ) → k < n + 1 → P k
below_more P n passed this k h =
    elim (dec_lt k n) [ yes g ↦ passed k g | no g ↦ let z : n ≡ k = omega arith in subst P z this ]

yes_side : (x : Bool) → x && true ≡ x
yes_side true = refl
yes_side false = refl

pub all_true : (n : ℕ) (h : ℕ → Bool) → all_below n h ≡ true → (k : ℕ) → k < n → h k ≡ true
unfolding all_below
all_true zero h e k l = absurd (omega arith)
all_true (suc n) h e k l =
    let b = both (all_below n h) (h n) e in
    elim (dec_lt k n) [ yes g ↦ all_true n h b.0 k g | no g ↦ let z : k ≡ n = omega arith in ap h z ∙ b.1 ]

pub all_of : (n : ℕ) (h : ℕ → Bool) → ((k : ℕ) → k < n → h k ≡ true) → all_below n h ≡ true
unfolding all_below
all_of zero h a = refl
all_of (suc n) h a = rw (all_of n h (λ k l. a k (omega arith)), a n (omega arith))

pub all_false : (n : ℕ) (h : ℕ → Bool) (k : ℕ) → k < n → h k ≡ false → all_below n h ≡ false
unfolding all_below
all_false zero h k l e = absurd (omega arith)
all_false (suc n) h k l e =
    elim (dec_lt k n) [
      | yes g ↦ rw (all_false n h k g e)
      | no g ↦
          let z : n ≡ k = omega arith in rw (ap h z ∙ e) (no_side (all_below n h))
    ]
  where
    no_side : (b : Bool) → b && false ≡ false
    no_side true = refl
    no_side false = refl

-- two tests that tell the same of each
pub all_same : (n : ℕ) (f g : ℕ → Bool) → ((k : ℕ) → k < n → f k ≡ g k) → all_below n f ≡ all_below n g
unfolding all_below
all_same zero f g h = refl
all_same (suc n) f g h = rw (all_same n f g (λ k l. h k (omega arith)), h n (omega arith))

-- the first a, and those from there on
pub all_split : (a b : ℕ) (h : ℕ → Bool) → all_below (a + b) h ≡ all_below a h && all_below b (λ k. h (a + k))
unfolding all_below
all_split a zero h = rw add-zero (sym (yes_side (all_below a h)))
all_split a (suc b) h =
    let z : a + suc b ≡ suc (a + b) = omega arith in
    rw (z, all_below, all_split a b h) (grouped (all_below a h) (all_below b (λ k. h (a + k))) (h (a + b)))
  where
    grouped : (x y z : Bool) → x && y && z ≡ x && (y && z)
    grouped true y z = refl
    grouped false y z = refl

pub max_none : (f : ℕ → ℕ) (z : ℕ) → max_below 0 f z ≡ z
unfolding max_below
max_none f z = refl

pub max_more : (n : ℕ) (f : ℕ → ℕ) (z : ℕ) → max_below (n + 1) f z ≡ max (max_below n f z) (f n)
unfolding max_below
max_more n f z = rw add-one

pub max_same : (n : ℕ) (f g : ℕ → ℕ) (z : ℕ) → ((k : ℕ) → k < n → f k ≡ g k) → max_below n f z ≡ max_below n g z
unfolding max_below
max_same zero f g z h = refl
max_same (suc n) f g z h = rw (max_same n f g z (λ k l. h k (omega arith)), h n (omega arith))

pub max_start : (n : ℕ) (f : ℕ → ℕ) (z : ℕ) → z ≤ max_below n f z
unfolding max_below
max_start zero f z = omega arith
max_start (suc n) f z = omega (arith, max_start n f z)

pub max_bound : (n : ℕ) (f : ℕ → ℕ) (z b : ℕ) → z ≤ b → ((k : ℕ) → k < n → f k ≤ b) → max_below n f z ≤ b
unfolding max_below
max_bound zero f z b l h = l
max_bound (suc n) f z b l h = omega (arith, max_bound n f z b l (λ k g. h k (omega arith)), h n (omega arith))

pub max_reaches : (n : ℕ) (f : ℕ → ℕ) (z k : ℕ) → k < n → f k ≤ max_below n f z
unfolding max_below
max_reaches zero f z k h = absurd (omega arith)
max_reaches (suc n) f z k h =
    elim (dec_lt k n) [ yes g ↦ omega (arith, max_reaches n f z k g) | no g ↦ let e : k ≡ n = omega arith in omega (arith, ap f e) ]

-- what is below the greatest and not below z is below one of the others
pub max_reached : (n : ℕ) (f : ℕ → ℕ) (z i : ℕ) → z ≤ i → i < max_below n f z → (k : ℕ) × (k < n) × (i < f k)
unfolding max_below
max_reached zero f z i l h = absurd (omega arith)
max_reached (suc n) f z i l h =
    elim (dec_lt i (f n)) [
      | yes g ↦ (n, omega arith, g)
      | no g ↦
          let r = max_reached n f z i l (omega arith) in (r.0, omega (arith, r.1), r.2)
    ]

pub numbered_none : {A : Type 0} (f : ℕ → A) → numbered 0 f ≡ []
unfolding numbered
numbered_none f = refl

-- a test of all numbers of a range, as an iterator asks it
pub all_range_from : (a n : ℕ) (h : ℕ → Bool) → list_all h (range_with_len a n) ≡ all_below n (λ k. h (a + k))
unfolding all_below
all_range_from a zero h = refl
all_range_from a (suc n) h =
    let g : ℕ → Bool = λ k. h (a + k) in
    let first : h a ≡ h (a + 0) = ap h (omega arith) in
    let rest : list_all h (range_with_len (a + 1) n) ≡ all_below n (λ k. g (1 + k)) =
    all_range_from (a + 1) n h ∙ all_same n (λ k. h (a + 1 + k)) (λ k. g (1 + k)) (λ k l. ap h (omega arith)) in
    let z : 1 + n ≡ suc n = omega arith in
    ap (λ (b : Bool). b && list_all h (range_with_len (a + 1) n)) first
    ∙ (ap (λ (b : Bool). h (a + 0) && b) rest ∙ (sym (all_split 1 n g) ∙ ap (λ (k : ℕ). all_below k g) z))

pub all_range : (n : ℕ) (h : ℕ → Bool) → list_all h (range_with_len 0 n) ≡ all_below n h
all_range n h = all_range_from 0 n h ∙ all_same n (λ k. h (0 + k)) h (λ k l. ap h (omega arith))

-- what an iterator's test that said yes knows of each number of a range
pub all_yes : (P : ℕ → Type 0) (No : Type 0) (r : Bool) (a n : ℕ) → MatchBool r (AllWithin P (range_with_len a n) 0 (length (range_with_len a n))) No
    → r ≡ true → (k : ℕ) → a ≤ k → k < a + n → P k
all_yes P No r a n h e k l m =
    let long = length-range_with_len a n in
    let at : get_or (range_with_len a n) (k - a) 0 ≡ k = omega (arith, get_or-range_with_len a n (k - a) 0 (omega arith)) in
    subst P at (MatchBool-at_true _ _ e h (k - a) 0 (omega arith) (omega arith))

-- With which bytes a number begins: exactly those that some bytes more, or none, make a number. Digits behind others never make a value
-- smaller, so that a beginning of a beginning is one. And what one byte more does to a beginning. Assumes nothing.
use mathlib.Core.Bool.{Bool, true, false, cond, ◌&&◌, false≢true}
use mathlib.Core.List.{List, [], ◌∷◌, ◌++◌, append-nil, append_assoc}
use mathlib.Core.Logic.{inl, inr}
use mathlib.Core.Path.{◌≡◌, refl, sym, ap, subst, ◌∙◌}
use Prim.Native.Nat.{ℕ, zero, suc, ◌+◌, ◌-◌, ◌*◌, ◌^◌, ◌≤◌, ◌<◌}
use native.Mathlib.Nat.{pow-succ', add-mul, mul_assoc, add_assoc, le_trans, le-add_right, mul-one, mul-le-mul_left}
use native.Mathlib.Omega.{arith}
use borrow.Author.Tests.{lt-ltb, ltb-true, eqb-true, eq-eqb, ne_eqb}
use lib.Dec.{T, ltb, eqb}
use lib.ListN.{length, take, drop, length-append}
use lib.Pow.{pow-add}
use lib.Seq.{take-add}
use Rattle.basis.proofs.Laws.{both}
use Rattle.numeral.specs.Digits.{is_digit, is_all_digits, value_of}
use Rattle.numeral.specs.Reading.{unsigned, begins_number, why_at, with_digit, Digits, Says}
use Rattle.numeral.specs.declared.Why.{Why}
use Rattle.numeral.specs.declared.Why.TheVariants.{StrayByte, TooLarge}
use Rattle.std.specs.Prelude.{Ok, Err}

pub is_true : (b : Bool) → T b → b ≡ true
is_true true t = refl
is_true false t = absurd t

pub never : {A : Type 0} → false ≡ true → A
never e = absurd (false≢true e)

-- ---- digits behind digits
digits_append : (p q : List ℕ) → is_all_digits (p ++ q) ≡ (is_all_digits p && is_all_digits q)
unfolding is_all_digits
digits_append [] q = refl
digits_append (b ∷ bs) q = by_byte (is_digit b) (digits_append bs q)
  where
    by_byte : (t : Bool) → is_all_digits (bs ++ q) ≡ (is_all_digits bs && is_all_digits q)
        → (t && is_all_digits (bs ++ q)) ≡ (t && is_all_digits bs && is_all_digits q)
    by_byte true h = h
    by_byte false h = refl

gathered : (d v p q x : ℕ) → d * (p * q) + (v * q + x) ≡ (d * p + v) * q + x
gathered d v p q x = rw (add-mul (d * p) v q, mul_assoc d p q, add_assoc (d * (p * q)) (v * q) x)

-- each digit behind makes ten times as much of what stands before
value_append : (p q : List ℕ) → value_of (p ++ q) ≡ value_of p * 10 ^ length q + value_of q
unfolding value_of
value_append [] q = omega arith
value_append (b ∷ bs) q =
    rw (length-append bs q, pow-add 10 (length bs) (length q), value_append bs q)
    (gathered (b - 48) (value_of bs) (10 ^ length bs) (10 ^ length q) (value_of q))

value_one : (p : List ℕ) (b : ℕ) → value_of (p ++ b ∷ []) ≡ value_of p * 10 + (b - 48)
unfolding value_of
value_one p b = value_append p (b ∷ []) ∙ omega arith

ten_pow_pos : (k : ℕ) → 1 ≤ 10 ^ k
ten_pow_pos zero = omega arith
ten_pow_pos (suc k) = rw (pow-succ' 10 k) (omega (arith, ten_pow_pos k))

value_grows : (p q : List ℕ) → value_of p ≤ value_of (p ++ q)
value_grows p q =
    rw (value_append p q)
    (le_trans (rw mul-one at (mul-le-mul_left (value_of p) (ten_pow_pos (length q)))) (le-add_right (value_of p * 10 ^ length q) (value_of q)))

-- ---- the sign
plus_no_digit : (b : ℕ) (t : Bool) → (is_digit b && t) ≡ true → b ≡ 43 → ⊥
unfolding is_digit
plus_no_digit b t h q = never (rw q at h)

-- what begins with a digit has no sign
pub no_sign : (w : List ℕ) → is_all_digits w ≡ true → unsigned w ≡ w
unfolding unsigned is_all_digits
no_sign [] h = refl
no_sign (b ∷ bs) h = rw (ne_eqb b 43 (plus_no_digit b (is_all_digits bs) h))

-- ---- a number begins with these bytes exactly if some bytes behind them make one

-- digits that go on to a number
front : (p rest : List ℕ) (n : ℕ) → Digits (p ++ rest) n → (is_all_digits p ≡ true) × (value_of p < 2 ^ 64)
front p rest n d =
    let a = both (is_all_digits p) (is_all_digits rest) (sym (digits_append p rest) ∙ is_true (is_all_digits (p ++ rest)) d.digits) in
    (a.0, omega (arith, value_grows p rest, d.value, d.fits))

pub begins_some : (p rest : List ℕ) (n : ℕ) → Says (p ++ rest) n → begins_number p ≡ true
unfolding begins_number unsigned is_all_digits value_of
begins_some p rest n (inl d) =
    let f = front p rest n d in
    rw (no_sign p f.0, f.0, lt-ltb (value_of p) (2 ^ 64) f.1)
begins_some [] rest n (inr s) = refl
begins_some (b ∷ bs) rest n (inr s) =
    let e : b ∷ (bs ++ rest) ≡ 43 ∷ s.0 = s.1 in
    let q : b ≡ 43 = cc in
    let t : s.0 ≡ bs ++ rest = cc in
    let f = front bs rest n (subst (λ (ds : List ℕ). Digits ds n) t s.2) in
    rw (eq-eqb b 43 q, f.0, lt-ltb (value_of bs) (2 ^ 64) f.1)

-- the bytes that do: none, or a digit where there is none yet
pub record Completed (p : List ℕ) : Type 0 where
  pub rest : List ℕ
  pub number : ℕ
  pub says : Says (p ++ rest) number

completed_digits : (ds : List ℕ) → is_all_digits ds ≡ true → value_of ds < 2 ^ 64 → (rest : List ℕ) × (n : ℕ) × Digits (ds ++ rest) n
unfolding is_all_digits value_of is_digit
completed_digits [] a f = (48 ∷ [], 0, record { some = omega arith; digits = tt; value = refl; fits = omega arith })
completed_digits (b ∷ bs) a f =
    let ds = b ∷ bs in
    ([], value_of ds, rw (append-nil ds) (record { some = omega arith; digits = subst T (sym a) tt; value = refl; fits = f }))

pub some_number : (p : List ℕ) → begins_number p ≡ true → Completed p
unfolding begins_number unsigned
some_number [] h =
    let a = both (is_all_digits []) (ltb (value_of []) (2 ^ 64)) h in
    let d = completed_digits [] a.0 (ltb-true (value_of []) (2 ^ 64) a.1) in
    record { rest = d.0; number = d.1; says = inl d.2 }
some_number (b ∷ bs) h = by_sign (eqb b 43) refl h
  where
    by_sign : (t : Bool) → eqb b 43 ≡ t → (is_all_digits (cond t bs (b ∷ bs)) && ltb (value_of (cond t bs (b ∷ bs))) (2 ^ 64)) ≡ true
        → Completed (b ∷ bs)
    by_sign true q k =
        let a = both (is_all_digits bs) (ltb (value_of bs) (2 ^ 64)) k in
        let d = completed_digits bs a.0 (ltb-true (value_of bs) (2 ^ 64) a.1) in
        record { rest = d.0; number = d.1; says = inr (bs ++ d.0, ap (λ (x : ℕ). x ∷ (bs ++ d.0)) (eqb-true b 43 q), d.2) }
    by_sign false q k =
        let a = both (is_all_digits (b ∷ bs)) (ltb (value_of (b ∷ bs)) (2 ^ 64)) k in
        let d = completed_digits (b ∷ bs) a.0 (ltb-true (value_of (b ∷ bs)) (2 ^ 64) a.1) in
        record { rest = d.0; number = d.1; says = inl d.2 }

-- so a beginning of a beginning is one
begins_front : (p q : List ℕ) → begins_number (p ++ q) ≡ true → begins_number p ≡ true
begins_front p q h =
    let s = some_number (p ++ q) h in
    begins_some p (q ++ s.rest) s.number (rw append_assoc at s.says)

pub begins_take : (w : List ℕ) (k m : ℕ) → k ≤ m → begins_number (take m w) ≡ true → begins_number (take k w) ≡ true
begins_take w k m h b =
    let z : m ≡ k + (m - k) = omega arith in
    begins_front (take k w) (take (m - k) (drop k w)) (rw (z, take-add k (m - k) w) at b)

-- ---- one byte more
unsigned_more : (p : List ℕ) (b : ℕ) → (length p ≡ 0 → b ≡ 43 → ⊥) → unsigned (p ++ b ∷ []) ≡ unsigned p ++ b ∷ []
unfolding unsigned
unsigned_more [] b h = rw (ne_eqb b 43 (h refl))
unsigned_more (x ∷ xs) b h = by_sign (eqb x 43)
  where
    by_sign : (t : Bool) → cond t (xs ++ b ∷ []) (x ∷ (xs ++ b ∷ [])) ≡ cond t xs (x ∷ xs) ++ b ∷ []
    by_sign true = refl
    by_sign false = refl

module _ (p : List ℕ) (b : ℕ) (begun : begins_number p ≡ true) (unplussed : length p ≡ 0 → b ≡ 43 → ⊥) where
  abbrev longer : ℕ
  longer = value_of (unsigned p) * 10 + (b - 48)

  pub value_more : value_of (unsigned (p ++ b ∷ [])) ≡ longer
  value_more = ap value_of (unsigned_more p b unplussed) ∙ value_one (unsigned p) b

  pub begins_more : begins_number (p ++ b ∷ []) ≡ (is_digit b && ltb longer (2 ^ 64))
  unfolding begins_number is_all_digits
  begins_more =
      let a = both (is_all_digits (unsigned p)) (ltb (value_of (unsigned p)) (2 ^ 64)) begun in
      rw (unsigned_more p b unplussed, digits_append (unsigned p) (b ∷ []), a.0, value_one (unsigned p) b) (by_byte (is_digit b))
    where
      by_byte : (t : Bool) → (t && true && ltb longer (2 ^ 64)) ≡ (t && ltb longer (2 ^ 64))
      by_byte true = refl
      by_byte false = refl

  -- the byte is a digit that fits: a number begins with it too
  pub goes_on : (n : ℕ) → with_digit (value_of (unsigned p)) b ≡ Ok n
      → (begins_number (p ++ b ∷ []) ≡ true) × (value_of (unsigned (p ++ b ∷ [])) ≡ n)
  unfolding with_digit
  goes_on n e = let t = by_tests (is_digit b) (ltb longer (2 ^ 64)) e in (begins_more ∙ t.0, value_more ∙ t.1)
    where
      by_tests : (d t : Bool) → cond d (cond t (Ok longer) (Err TooLarge)) (Err StrayByte) ≡ Ok n
          → ((d && t) ≡ true) × (longer ≡ n)
      by_tests true true e = (refl, cc)
      by_tests true false e = absurd (cc)
      by_tests false t e = absurd (cc)

  -- it is none, or one too much: none does
  pub stops_here : (why : Why) → with_digit (value_of (unsigned p)) b ≡ Err why → (begins_number (p ++ b ∷ []) ≡ false) × (why_at b ≡ why)
  unfolding with_digit
  stops_here why e = let t = by_tests (is_digit b) (ltb longer (2 ^ 64)) e in (begins_more ∙ t.0, t.1)
    where
      by_tests : (d t : Bool) → cond d (cond t (Ok longer) (Err TooLarge)) (Err StrayByte) ≡ Err why
          → ((d && t) ≡ false) × (cond d TooLarge StrayByte ≡ why)
      by_tests true true e = absurd (cc)
      by_tests true false e = (refl, cc)
      by_tests false t e = (refl, cc)

-- A number's decimal digits: how many there are, that none of them is needless, and that they say the number again.
-- Assumes nothing.
use mathlib.Core.Bool.{Bool, true, false, cond}
use mathlib.Core.List.{List, ◌++◌, append_assoc}
use mathlib.Core.Logic.{inl}
use mathlib.Core.Path.{◌≡◌, refl, sym, ap, subst, ◌∙◌}
use Prim.Native.Nat.{ℕ, zero, suc, ◌+◌, ◌-◌, ◌*◌, ◌/◌, ◌%◌, ◌^◌, ◌≤◌, ◌<◌}
use native.Mathlib.Nat.{pow-suc, pow-succ', div-lt_iff_lt-mul, le-div_iff_mul-le, div-div-eq-div-mul, mod-eq_of_lt, zero-lt-suc, pow-le-pow_right}
use native.Mathlib.Omega.{arith}
use borrow.Author.Tests.{lt-ltb, le-ltb, le-leb, ltb-true, ltb-false}
use lib.Arith.{mod-mul}
use lib.Dec.{T, ltb, lit<}
use lib.ListN.{length, take, drop, set, length-take, length-drop, length-append, take-append-drop}
use lib.Seq.{take-suc, set_at, length-take-le}
use Rattle.numeral.specs.Digits.{is_digit, is_all_digits, value_of, last_digits}
use Rattle.numeral.specs.Reading.{number_of}
use Rattle.numeral.specs.Writing.{digit_count, decimal}
use Rattle.std.specs.Prelude.{Ok}
use Rattle.numeral.proofs.Laws.{complete}

pub length-last_digits : (k n : ℕ) → length (last_digits k n) ≡ k
unfolding last_digits
length-last_digits zero n = refl
length-last_digits (suc k) n = ap suc (length-last_digits k n)

ten_pow_pos : (k : ℕ) → 0 < 10 ^ k
ten_pow_pos zero = omega arith
ten_pow_pos (suc k) = rw (pow-succ' 10 k) (omega (arith, ten_pow_pos k))

-- ---- counting: a number of more than one digit has one more than a tenth of it
tenth : (k n : ℕ) → n < 10 ^ suc k → n / 10 < 10 ^ k
tenth k n h = (div-lt_iff_lt-mul (lit< tt)).1 (rw (pow-suc 10 k) at h)

pub record More (k n : ℕ) : Type 0 where
  pub fuel : 0 < k
  pub fits : n / 10 < 10 ^ suc (k - 1)
  pub counted : digit_count k n ≡ suc (digit_count (k - 1) (n / 10))

pub count_more : (k n : ℕ) → n < 10 ^ suc k → 10 ≤ n → More k n
unfolding digit_count
count_more zero n h t = absurd (omega arith)
count_more (suc k) n h t =
    let z : suc k - 1 ≡ k = omega arith in
    record { fuel = zero-lt-suc k; fits = rw z (tenth (suc k) n h); counted = rw (z, le-ltb n 10 t) }

pub count_last : (k n : ℕ) → n < 10 → digit_count k n ≡ 1
unfolding digit_count
count_last zero n h = refl
count_last (suc k) n h = rw (lt-ltb n 10 h)

-- a number is below ten to the number of its digits
covers : (b : Bool) (k n d : ℕ) → ltb n 10 ≡ b → n / 10 < 10 ^ d → n < 10 ^ cond b 1 (suc d)
covers true k n d e h = ltb-true n 10 e
covers false k n d e h = rw (pow-suc 10 d) ((div-lt_iff_lt-mul (lit< tt)).0 h)

pub count_covers : (k n : ℕ) → n < 10 ^ suc k → n < 10 ^ digit_count k n
unfolding digit_count
count_covers zero n h = h
count_covers (suc k) n h = covers (ltb n 10) k n (digit_count k (n / 10)) refl (count_covers k (n / 10) (tenth (suc k) n h))

-- and no number above 0 is below ten to one less: none begins with a needless zero
reaches : (b : Bool) (n d : ℕ) → ltb n 10 ≡ b → 0 < n → (0 < n / 10 → 10 ^ (d - 1) ≤ n / 10) → 0 < d → 10 ^ (cond b 1 (suc d) - 1) ≤ n
reaches true n d e h i p = h
reaches false n zero e h i p = absurd (omega arith)
reaches false n (suc d) e h i p =
    let y : suc d - 1 ≡ d = omega arith in
    let z : suc (suc d) - 1 ≡ suc d = omega arith in
    let l = ltb-false n 10 e in
    rw (z, pow-suc 10 d) ((le-div_iff_mul-le (lit< tt)).0 (rw y at (i (omega arith))))

one_or_more : (b : Bool) (d : ℕ) → 0 < cond b 1 (suc d)
one_or_more true d = lit< tt
one_or_more false d = zero-lt-suc d

count_pos : (k n : ℕ) → 0 < digit_count k n
unfolding digit_count
count_pos zero n = lit< tt
count_pos (suc k) n = one_or_more (ltb n 10) (digit_count k (n / 10))

count_least : (k n : ℕ) → 0 < n → 10 ^ (digit_count k n - 1) ≤ n
unfolding digit_count
count_least zero n h = h
count_least (suc k) n h = reaches (ltb n 10) n (digit_count k (n / 10)) refl h (count_least k (n / 10)) (count_pos k (n / 10))

pub no_needless_zero : (n : ℕ) → 0 < n → 10 ^ (length (decimal n) - 1) ≤ n
unfolding decimal
no_needless_zero n h = rw (length-last_digits (digit_count 19 n) n) (count_least 19 n h)

-- so the digits are one more than how often ten divides
smaller : {i j : ℕ} → 10 ^ i < 10 ^ j → i < j
smaller {i} {j} h = by_test (ltb i j) refl
  where
    by_test : (b : Bool) → ltb i j ≡ b → i < j
    by_test true e = ltb-true i j e
    by_test false e = absurd (omega (arith, pow-le-pow_right {n = 10} (lit< tt) (ltb-false i j e)))

pub counted : (n d : ℕ) → n < 10 ^ 20 → 10 ^ d ≤ n → n < 10 * 10 ^ d → d + 1 ≡ digit_count 19 n
counted n d small least below =
    let k = digit_count 19 n in
    let some : 0 < n = omega (arith, ten_pow_pos d) in
    let few : k - 1 < suc d = smaller (rw (pow-succ' 10 d) (omega (arith, count_least 19 n some))) in
    let many : d < k = smaller (omega (arith, count_covers 19 n small)) in
    omega arith

-- ---- writing from the last digit on: the digits after place i stand already
abbrev pub shown : List ℕ → ℕ → ℕ → ℕ → ℕ → List ℕ
shown out n place count i = take (place + i) out ++ (last_digits (count - i) n ++ drop (place + count) out)

pub shown_none : (out : List ℕ) (n place count : ℕ) → out ≡ shown out n place count count
unfolding last_digits
shown_none out n place count = let z : count - count ≡ 0 = omega arith in rw (z, take-append-drop)

pub shown_more : (out o : List ℕ) (n place count i : ℕ) → 0 < i → i ≤ count → place + count ≤ length out → o ≡ shown out n place count i
    → set o (place + (i - 1)) (48 + n / 10 ^ (count - i) % 10) ≡ shown out n place count (i - 1)
unfolding last_digits
shown_more out o n place zero i h k l e = absurd (omega arith)
shown_more out o n place (suc c) zero h k l e = absurd (omega arith)
shown_more out o n place (suc c) (suc j) h k l e =
    let y : suc j - 1 ≡ j = omega arith in
    let z : place + suc j ≡ suc (place + j) = omega arith in
    let x : suc c - j ≡ suc (suc c - suc j) = omega arith in
    rw (e, y, z, x, take-suc out (place + j) 0 (omega arith), append_assoc)
    (set_at (take (place + j) out) _ _ _ (place + j) (length-take-le (place + j) out (omega arith)))

pub length-shown : (out : List ℕ) (n place count i : ℕ) → i ≤ count → place + count ≤ length out → length (shown out n place count i) ≡ length out
length-shown out n place count i k l = simp (length-append, length-take, length-drop, length-last_digits) (omega arith)

-- one digit less is left each time
pub divided : (n left k : ℕ) → left ≡ n / 10 ^ k → left / 10 ≡ n / 10 ^ suc k
divided n left k e = rw (e, pow-suc 10 k) (div-div-eq-div-mul n (10 ^ k) 10)

-- ---- reading back
a_digit : (d : ℕ) → d < 10 → is_digit (48 + d) ≡ true
unfolding is_digit
a_digit d h = rw (le-leb 48 (48 + d) (omega arith), le-leb (48 + d) 57 (omega arith))

all_digits : (k n : ℕ) → is_all_digits (last_digits k n) ≡ true
unfolding last_digits is_all_digits
all_digits zero n = refl
all_digits (suc k) n = rw (a_digit (n / 10 ^ k % 10) (omega arith), all_digits k n)

value_last_digits : (k n : ℕ) → value_of (last_digits k n) ≡ n % 10 ^ k
unfolding last_digits value_of
value_last_digits zero n = omega arith
value_last_digits (suc k) n =
    let d = n / 10 ^ k % 10 in
    let z : 48 + d - 48 ≡ d = omega arith in
    rw (z, length-last_digits k n, value_last_digits k n, pow-succ' 10 k) (sym (mod-mul n {m = 10} {c = 10 ^ k} (lit< tt) (ten_pow_pos k)))

pub reads_back : (n : ℕ) → n < 2 ^ 64 → number_of (decimal n) ≡ Ok n
unfolding decimal
reads_back n h =
    let k = digit_count 19 n in
    let v : value_of (last_digits k n) ≡ n = value_last_digits k n ∙ mod-eq_of_lt (count_covers 19 n (omega arith)) in
    let some : 0 < length (last_digits k n) = rw (length-last_digits k n) (count_pos 19 n) in
    complete (last_digits k n) n (inl (record { some = some; digits = subst T (sym (all_digits k n)) tt; value = v; fits = h }))

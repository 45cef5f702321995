-- A byte that is not wrong behind the three before it is read as the table reads it: what a text awaits is told by its last three bytes.
-- Assumes nothing.
use mathlib.Core.Bool.{Bool, beq, true, false, cond, not, ◌&&◌, ◌||◌, false≢true}
use mathlib.Core.List.{List, [], ◌∷◌}
use mathlib.Core.Path.{◌≡◌, refl, sym, ap, ◌∙◌}
use Prim.Native.Nat.{ℕ, suc, ◌+◌, ◌-◌, ◌≤◌, ◌<◌}
use native.Mathlib.Omega.{arith}
use native.Mathlib.Numerals.{add-one}
use borrow.Author.Tests.{le-leb, lt-leb, leb-false, lt-ltb, le-ltb, ltb-false, eq-eqb, eqb-false}
use lib.Dec.{leb, ltb, eqb}
use lib.ListN.{length, drop, get_or, drop_of_length-le}
use lib.Seq.{drop-cons}
use Rattle.script_utf8.specs.Utf8.{Awaiting, between, inside, sequences, after_first, after_this, after_byte, may_end, utf8_from, is_utf8}
use Rattle.script_utf8.specs.Sure.{first_continuation, least_behind_e0, least_behind_f0, most_behind_ed, most_behind_f4, continues, awaited, too_low, too_high, in_none, wrong_at}
use Rattle.script_utf8.proofs.Exact.{in_range_lem, at_1, at_2, at_e0, at_e1, at_ed, at_ee, at_f0, at_f1, at_f4, split}

-- ---- tests

true-false : {P : Type 0} → true ≡ false → P
true-false e = absurd (false≢true (sym e))

pub neither : (t u : Bool) → (t || u) ≡ false → (t ≡ false) × (u ≡ false)
neither true u e = true-false e
neither false u e = (refl, e)

alike : (t u : Bool) → not (beq t u) ≡ false → t ≡ u
alike true true e = refl
alike true false e = true-false e
alike false true e = true-false e
alike false false e = refl

second_fails : (t u : Bool) → t ≡ true → (t && u) ≡ false → u ≡ false
second_fails true u f e = e
second_fails false u f e = true-false (sym f)

-- ---- what a byte that is not wrong satisfies

-- the last three bytes await none
abbrev pub None : ℕ → ℕ → ℕ → Type 0
None r q p = (p < 0xC2) × (q < 0xE0) × (r < 0xF0)

record Fits (r q p e : ℕ) : Type 0 where
  fresh_low : e < 0x80 → None r q p
  fresh_high : 0xC0 ≤ e → None r q p
  goes : 0x80 ≤ e → e < 0xC0 → None r q p → ⊥
  over_e0 : p ≡ 0xE0 → 0xA0 ≤ e
  over_f0 : p ≡ 0xF0 → 0x90 ≤ e
  under_ed : p ≡ 0xED → e ≤ 0x9F
  under_f4 : p ≡ 0xF4 → e ≤ 0x8F
  no_c0 : 0xC0 ≤ e → 0xC2 ≤ e
  last : e ≤ 0xF4

none_awaited : (r q p : ℕ) → awaited r q p ≡ false → None r q p
unfolding awaited
none_awaited r q p h =
    let a = neither (leb 0xC2 p || leb 0xE0 q) (leb 0xF0 r) h in
    let b = neither (leb 0xC2 p) (leb 0xE0 q) a.0 in
    (leb-false 0xC2 p b.0, leb-false 0xE0 q b.1, leb-false 0xF0 r a.1)

awaits_none : (r q p : ℕ) → None r q p → awaited r q p ≡ false
unfolding awaited
awaits_none r q p h = rw (lt-leb 0xC2 p h.0, lt-leb 0xE0 q h.1, lt-leb 0xF0 r h.2)

below : (e : ℕ) → e < 0x80 → continues e ≡ false
unfolding continues
below e h = rw (lt-leb first_continuation e (omega arith))

above : (e : ℕ) → 0xC0 ≤ e → continues e ≡ false
unfolding continues
above e h = rw (le-leb first_continuation e (omega arith), le-ltb e 0xC0 h)

within : (e : ℕ) → 0x80 ≤ e → e < 0xC0 → continues e ≡ true
unfolding continues
within e l h = rw (le-leb first_continuation e (omega arith), lt-ltb e 0xC0 h)

behind : (p b : ℕ) (u : Bool) → p ≡ b → (eqb p b && u) ≡ false → u ≡ false
behind p b u k e = second_fails (eqb p b) u (eq-eqb p b k) e

fits : (r q p e : ℕ) → wrong_at r q p e ≡ false → Fits r q p e
unfolding wrong_at too_low too_high in_none
fits r q p e h =
    let a = neither ((not (beq (continues e) (awaited r q p)) || too_low p e) || too_high p e) (in_none e) h in
    let b = neither (not (beq (continues e) (awaited r q p)) || too_low p e) (too_high p e) a.0 in
    let d = neither (not (beq (continues e) (awaited r q p))) (too_low p e) b.0 in
    let same = alike (continues e) (awaited r q p) d.0 in
    let low = neither (eqb p 0xE0 && ltb e least_behind_e0) (eqb p 0xF0 && ltb e least_behind_f0) d.1 in
    let high = neither (eqb p 0xED && ltb most_behind_ed e) (eqb p 0xF4 && ltb most_behind_f4 e) b.1 in
    let none = neither (eqb e 0xC0 || eqb e 0xC1) (ltb 0xF4 e) a.1 in
    let odd = neither (eqb e 0xC0) (eqb e 0xC1) none.0 in
    record {
      fresh_low = λ k. none_awaited r q p (sym same ∙ below e k);
      fresh_high = λ k. none_awaited r q p (sym same ∙ above e k);
      goes = λ l k n. true-false (sym (within e l k) ∙ same ∙ awaits_none r q p n);
      over_e0 = λ k. let x = ltb-false e least_behind_e0 (behind p 0xE0 (ltb e least_behind_e0) k low.0) in omega (arith, x);
      over_f0 = λ k. let x = ltb-false e least_behind_f0 (behind p 0xF0 (ltb e least_behind_f0) k low.1) in omega (arith, x);
      under_ed = λ k. let x = ltb-false most_behind_ed e (behind p 0xED (ltb most_behind_ed e) k high.0) in omega (arith, x);
      under_f4 = λ k. let x = ltb-false most_behind_f4 e (behind p 0xF4 (ltb most_behind_f4 e) k high.1) in omega (arith, x);
      no_c0 = λ k. split e 0xC0 (λ m. absurd (eqb-false e 0xC0 odd.0 (omega arith)))
          λ m. split e 0xC1 (λ m'. absurd (eqb-false e 0xC1 odd.1 (omega arith))) λ m'. omega arith;
      last = ltb-false 0xF4 e none.1;
    }

-- ---- what the last three bytes await, p the nearest

unfoldable pub awaited_by : ℕ → ℕ → ℕ → Awaiting
awaited_by r q p =
    cond (leb 0xC2 p) (after_first p sequences)
    (cond (leb 0xF0 q) (inside 1 0x80 0xBF)
    (cond (leb 0xE0 q) (inside 0 0x80 0xBF)
    (cond (leb 0xF0 r) (inside 0 0x80 0xBF) between)))

by_first : (r q p : ℕ) → 0xC2 ≤ p → awaited_by r q p ≡ after_first p sequences
unfolding awaited_by
by_first r q p h = rw (le-leb 0xC2 p h)

by_four : (r q p : ℕ) → p < 0xC2 → 0xF0 ≤ q → awaited_by r q p ≡ inside 1 0x80 0xBF
unfolding awaited_by
by_four r q p h k = rw (lt-leb 0xC2 p h, le-leb 0xF0 q k)

by_three : (r q p : ℕ) → p < 0xC2 → 0xE0 ≤ q → q < 0xF0 → awaited_by r q p ≡ inside 0 0x80 0xBF
unfolding awaited_by
by_three r q p h k l = rw (lt-leb 0xC2 p h, lt-leb 0xF0 q l, le-leb 0xE0 q k)

by_third : (r q p : ℕ) → p < 0xC2 → q < 0xE0 → 0xF0 ≤ r → awaited_by r q p ≡ inside 0 0x80 0xBF
unfolding awaited_by
by_third r q p h k l = rw (lt-leb 0xC2 p h, lt-leb 0xF0 q (omega arith), lt-leb 0xE0 q k, le-leb 0xF0 r l)

by_none : (r q p : ℕ) → None r q p → awaited_by r q p ≡ between
unfolding awaited_by
by_none r q p h = let k = h.1 in rw (lt-leb 0xC2 p h.0, lt-leb 0xF0 q (omega (arith, k)), lt-leb 0xE0 q k, lt-leb 0xF0 r h.2)

-- a first byte stands where none was awaited, and is one that characters have
pub record Settled (q p : ℕ) : Type 0 where
  alone : 0xC2 ≤ p → q < 0xC2
  known : p ≤ 0xF4

-- behind a byte of the range
moves : (s : Awaiting) (k lo hi e : ℕ) (s' : Awaiting) → s ≡ inside k lo hi → lo ≤ e → e ≤ hi → after_this k ≡ s' → after_byte s e ≡ s'
unfolding after_byte
moves s k lo hi e s' f l h g = ap (λ z. after_byte z e) f ∙ rw (in_range_lem lo hi e l h) g

-- a character's first byte
begins : (r q p : ℕ) (e : ℕ) → None r q p → (e < 0x80 → after_byte (awaited_by r q p) e ≡ awaited_by q p e)
    × (0xC2 ≤ e → after_byte (awaited_by r q p) e ≡ awaited_by q p e)
unfolding after_byte
begins r q p e n =
    let n0 = n.0 in let n1 = n.1 in (
      λ h. ap (λ z. after_byte z e) (by_none r q p n) ∙ at_1 e (omega arith)
          ∙ sym (by_none q p e (omega arith, omega (arith, n0), omega (arith, n1))),
      λ h. ap (λ z. after_byte z e) (by_none r q p n) ∙ sym (by_first q p e h),
    )

-- a continuation byte
module _ (r q p e : ℕ) (w : Settled q p) (f : Fits r q p e) (l : 0x80 ≤ e) (h : e < 0xC0) where
  Step : Type 0
  Step = after_byte (awaited_by r q p) e ≡ awaited_by q p e

  -- behind a first byte
  by_row : (k lo hi : ℕ) (s : Awaiting) → 0xC2 ≤ p → after_first p sequences ≡ inside k lo hi → lo ≤ e → e ≤ hi
      → after_this k ≡ s → awaited_by q p e ≡ s → Step
  unfolding Step
  by_row k lo hi s a g m n u v = moves (awaited_by r q p) k lo hi e s (by_first r q p a ∙ g) m n u ∙ sym v

  behind_two : 0xC2 ≤ p → p ≤ 0xDF → Step
  unfolding after_this
  behind_two a b = let c = w.alone a in
      by_row 0 0x80 0xBF between a (at_2 p a b) l (omega arith) refl (by_none q p e (omega arith, omega arith, omega (arith, c)))

  behind_three : (lo hi : ℕ) → 0xE0 ≤ p → p ≤ 0xEF → after_first p sequences ≡ inside 1 lo hi → lo ≤ e → e ≤ hi → Step
  unfolding after_this
  behind_three lo hi a b g m n = by_row 1 lo hi (inside 0 0x80 0xBF) (omega arith) g m n refl (by_three q p e (omega arith) a (omega arith))

  behind_four : (lo hi : ℕ) → 0xF0 ≤ p → after_first p sequences ≡ inside 2 lo hi → lo ≤ e → e ≤ hi → Step
  unfolding after_this
  behind_four lo hi a g m n = by_row 2 lo hi (inside 1 0x80 0xBF) (omega arith) g m n refl (by_four q p e (omega arith) a)

  second_byte : 0xC2 ≤ p → Step
  second_byte a =
      split p 0xDF (behind_two a)
      λ b. split p 0xE0
      (λ c. let g : p ≡ 0xE0 = omega arith in behind_three 0xA0 0xBF (omega arith) (omega arith) (at_e0 p g) (f.over_e0 g) (omega arith))
      λ b1. split p 0xEC (λ c. behind_three 0x80 0xBF (omega arith) (omega arith) (at_e1 p (omega arith) c) l (omega arith))
      λ b2. split p 0xED
      (λ c. let g : p ≡ 0xED = omega arith in behind_three 0x80 0x9F (omega arith) (omega arith) (at_ed p g) l (f.under_ed g))
      λ b3. split p 0xEF (λ c. behind_three 0x80 0xBF (omega arith) c (at_ee p (omega arith) c) l (omega arith))
      λ b4. split p 0xF0
      (λ c. let g : p ≡ 0xF0 = omega arith in behind_four 0x90 0xBF (omega arith) (at_f0 p g) (f.over_f0 g) (omega arith))
      λ b5. split p 0xF3 (λ c. behind_four 0x80 0xBF (omega arith) (at_f1 p (omega arith) c) l (omega arith))
      λ b6. let n = w.known in let g : p ≡ 0xF4 = omega (arith, n) in
      behind_four 0x80 0x8F (omega arith) (at_f4 p g) l (f.under_f4 g)

  third_of_four : p < 0xC2 → 0xF0 ≤ q → Step
  unfolding Step after_this
  third_of_four a b =
      moves (awaited_by r q p) 1 0x80 0xBF e (inside 0 0x80 0xBF) (by_four r q p a b) l (omega arith) refl ∙ sym (to_third b)
    where
      to_third : 0xF0 ≤ q → awaited_by q p e ≡ inside 0 0x80 0xBF
      to_third b = by_third q p e (omega arith) (omega (arith, a)) b

  last_byte : p < 0xC2 → q < 0xF0 → awaited_by r q p ≡ inside 0 0x80 0xBF → Step
  unfolding Step after_this
  last_byte a b g =
      moves (awaited_by r q p) 0 0x80 0xBF e between g l (omega arith) refl ∙ sym (by_none q p e (omega arith, omega arith, b))

  later_byte : p < 0xC2 → Step
  later_byte a =
      split q 0xDF
      (λ b. split r 0xEF (λ c. absurd (f.goes l h (a, omega arith, omega arith)))
      λ c. last_byte a (omega arith) (by_third r q p a (omega arith) (omega arith)))
      λ b. split q 0xEF (λ c. last_byte a (omega arith) (by_three r q p a (omega arith) (omega arith))) λ c. third_of_four a (omega arith)

  continued : Step
  continued = split p 0xC1 (λ a. later_byte (omega arith)) λ a. second_byte (omega arith)

-- ---- one byte more

pub step : (r q p e : ℕ) → Settled q p → wrong_at r q p e ≡ false → (after_byte (awaited_by r q p) e ≡ awaited_by q p e) × Settled p e
unfolding Step
step r q p e w b =
    let f = fits r q p e b in
    split e 0x7F
    (λ h. let n = f.fresh_low (omega arith) in ((begins r q p e n).0 (omega arith), settled f (λ a. n.0)))
    λ l. split e 0xBF
    (λ h. (continued r q p e w f l (omega arith), settled f (λ a. omega arith)))
    λ h. let n = f.fresh_high (omega arith) in ((begins r q p e n).1 (f.no_c0 (omega arith)), settled f (λ a. n.0))
  where
    settled : Fits r q p e → (0xC2 ≤ e → p < 0xC2) → Settled p e
    settled f g = record { alone = g; known = f.last }

-- ---- along a text

-- what is left is read as the last three bytes have it
pub record Read (text : List ℕ) (i : ℕ) : Type 0 where
  reads : is_utf8 text ≡ utf8_from (awaited_by (get_or text (i - 3) 0) (get_or text (i - 2) 0) (get_or text (i - 1) 0)) (drop i text)
  settles : Settled (get_or text (i - 2) 0) (get_or text (i - 1) 0)

-- one byte more
pub reads_on : (text : List ℕ) (i : ℕ) → 3 ≤ i → i < length text → Read text i
    → wrong_at (get_or text (i - 3) 0) (get_or text (i - 2) 0) (get_or text (i - 1) 0) (get_or text i 0) ≡ false → Read text (i + 1)
unfolding utf8_from
reads_on text i l h w b =
    let e2 : i + 1 - 3 ≡ i - 2 = omega arith in
    let e1 : i + 1 - 2 ≡ i - 1 = omega arith in
    let e0 : i + 1 - 1 ≡ i = omega arith in
    let s = step (get_or text (i - 3) 0) (get_or text (i - 2) 0) (get_or text (i - 1) 0) (get_or text i 0) w.settles b in
    record {
      reads = w.reads ∙ ap (utf8_from (awaited_by (get_or text (i - 3) 0) (get_or text (i - 2) 0) (get_or text (i - 1) 0))) (drop-cons text i 0 h)
          ∙ rw (e2, e1, e0, add-one i) (ap (λ z. utf8_from z (drop (suc i) text)) s.0);
      settles = rw (e1, e0) s.1;
    }

-- the first three bytes, the first two of them plain
third : (x y z : ℕ) → x < 0x80 → y < 0x80 → Fits 0 0 0 z → after_byte between z ≡ awaited_by x y z
third x y z a b f =
    let n : None 0 x y = (omega arith, omega arith, omega arith) in
    let g = begins 0 x y z n in
    ap (λ s. after_byte s z) (sym (by_none 0 x y n)) ∙ split z 0x7F (λ h. g.0 (omega arith))
    λ l. split z 0xBF (λ h. absurd (f.goes l (omega arith) (omega arith, omega arith, omega arith))) λ h. g.1 (f.no_c0 (omega arith))

pub reads_first : (text : List ℕ) → 3 < length text → get_or text 0 0 < 0x80 → get_or text 1 0 < 0x80
    → wrong_at 0 0 0 (get_or text 2 0) ≡ false → Read text 3
unfolding utf8_from after_byte
reads_first (x ∷ y ∷ z ∷ bs) h a b w =
    let f = fits 0 0 0 z w in
    record {
      reads = ap (λ s. utf8_from (after_byte (after_byte s y) z) bs) (at_1 x (omega arith))
          ∙ ap (λ s. utf8_from (after_byte s z) bs) (at_1 y (omega arith))
          ∙ ap (λ s. utf8_from s bs) (third x y z a b f);
      settles = record { alone = λ c. omega arith; known = f.last };
    }
reads_first (x ∷ y ∷ []) h a b w = absurd (omega arith)
reads_first (x ∷ []) h a b w = absurd (omega arith)
reads_first [] h a b w = absurd (omega arith)

-- the end, where no byte is awaited
pub reads_to_the_end : (text : List ℕ) → Read text (length text)
    → None (get_or text (length text - 3) 0) (get_or text (length text - 2) 0) (get_or text (length text - 1) 0) → is_utf8 text ≡ true
unfolding utf8_from may_end
reads_to_the_end text w b =
    let n : ℕ = length text in
    let r : ℕ = get_or text (n - 3) 0 in
    let q : ℕ = get_or text (n - 2) 0 in
    let p : ℕ = get_or text (n - 1) 0 in
    w.reads ∙ ap (utf8_from (awaited_by r q p)) (drop_of_length-le text {i = n} (omega arith))
    ∙ ap (λ s. utf8_from s []) (by_none r q p b)

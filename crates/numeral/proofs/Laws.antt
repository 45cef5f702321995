-- What the reader's definition means. A word that is accepted says its number in the format's own words, and a word that says a number
-- there is accepted with it; without its reason and its place the answer is the plain one; why and where a word is bad is one of three
-- cases, each said over all bytes up to the place, and at most one fits a word. And the words that people have stumbled on. Assumes
-- nothing.
use mathlib.Core.Bool.{Bool, true, false, cond, ◌&&◌}
use mathlib.Core.List.{List, [], ◌∷◌}
use mathlib.Core.Logic.{◌⊎◌, inl, inr}
use mathlib.Core.Path.{◌≡◌, refl, sym, ap, subst, ◌∙◌}
use Rattle.std.specs.Prelude.{Result, Ok, Err}
use Prim.Native.Nat.{ℕ, suc, ◌+◌, ◌-◌, ◌*◌, ◌^◌, ◌≤◌, ◌<◌}
use native.Mathlib.Nat.{eq-or-lt_of_le}
use native.Mathlib.Omega.{arith}
use borrow.Author.Tests.{lt-ltb, le-ltb, ltb-true, ltb-false, eq-eqb, eqb-true}
use lib.Dec.{T, ltb, eqb}
use lib.ListN.{length, take, get_or}
use lib.Seq.{take-suc, take_all, length-take-le}
use Rattle.basis.proofs.Laws.{both}
use Rattle.numeral.specs.Digits.{is_digit, is_all_digits, value_of}
use Rattle.numeral.specs.Reading.{unsigned, begins_number, stop_from, stop, flaw_at, number_of, is_number, good, bad, word_judged, forgetting, Digits, Says, BadAt, missing, stray, large}
use Rattle.numeral.specs.declared.Why.{Why}
use Rattle.numeral.specs.declared.Why.TheVariants.{StrayByte, TooLarge}
use Rattle.numeral.specs.declared.Flaw.{Flaw}
use Rattle.numeral.proofs.Beginnings.{is_true, never, no_sign, begins_take, begins_more, value_more}
use Rattle.numeral.proofs.Stopping.{StopsAt, stops_at, says_bad, says_value, says_missing}

-- ---- good or bad

digits_sound : (ds : List ℕ) (n : ℕ) → cond (is_number ds) (good (value_of ds)) bad ≡ good n → Digits ds n
unfolding is_number
digits_sound ds n e =
    let a = accepted (ltb 0 (length ds)) (is_all_digits ds) (ltb (value_of ds) (2 ^ 64)) (value_of ds) e in
    record {
      some = ltb-true 0 (length ds) a.0;
      digits = subst T (sym a.1) tt;
      value = a.3;
      fits = rw a.3 at (ltb-true (value_of ds) (2 ^ 64) a.2);
    }
  where
    -- the three tests, each by itself
    accepted : (p q r : Bool) (v : ℕ) → cond (p && q && r) (good v) bad ≡ good n → (p ≡ true) × (q ≡ true) × (r ≡ true) × (v ≡ n)
    accepted true true true v e = (refl, refl, refl, cc)
    accepted true true false v e = absurd (cc)
    accepted true false r v e = absurd (cc)
    accepted false q r v e = absurd (cc)

digits_complete : (ds : List ℕ) (n : ℕ) → Digits ds n → cond (is_number ds) (good (value_of ds)) bad ≡ good n
unfolding is_number
digits_complete ds n d =
    rw (lt-ltb 0 (length ds) d.some, is_true (is_all_digits ds) d.digits, d.value, lt-ltb n (2 ^ 64) d.fits)

judged_sound : (w : List ℕ) (n : ℕ) → word_judged w ≡ good n → Says w n
unfolding word_judged unsigned
judged_sound [] n e = inl (digits_sound [] n e)
judged_sound (b ∷ bs) n e = by_sign (eqb b 43) refl e
  where
    by_sign : (t : Bool) → eqb b 43 ≡ t → cond (is_number (cond t bs (b ∷ bs))) (good (value_of (cond t bs (b ∷ bs)))) bad ≡ good n
        → Says (b ∷ bs) n
    by_sign true q f = inr (bs, ap (λ (x : ℕ). x ∷ bs) (eqb-true b 43 q), digits_sound bs n f)
    by_sign false q f = inl (digits_sound (b ∷ bs) n f)

judged_complete : (w : List ℕ) (n : ℕ) → Says w n → word_judged w ≡ good n
unfolding word_judged unsigned
judged_complete w n (inl d) = rw (no_sign w (is_true (is_all_digits w) d.digits)) (digits_complete w n d)
judged_complete w n (inr s) = rw s.1 (digits_complete s.0 n s.2)

-- ---- without its reason and its place the answer is good or bad

judged_begun : (w : List ℕ) (t : Bool) → begins_number w ≡ t
    → word_judged w ≡ cond (ltb 0 (length (unsigned w)) && t) (good (value_of (unsigned w))) bad
unfolding word_judged is_number begins_number
judged_begun w t e =
    by_tests (ltb 0 (length (unsigned w))) (is_all_digits (unsigned w)) (ltb (value_of (unsigned w)) (2 ^ 64)) e
  where
    by_tests : (p q r : Bool) → (q && r) ≡ t
        → cond (p && q && r) (good (value_of (unsigned w))) bad ≡ cond (p && t) (good (value_of (unsigned w))) bad
    by_tests true q r f = rw f
    by_tests false q r f = refl

pub reason_forgotten : (w : List ℕ) → forgetting (number_of w) ≡ word_judged w
reason_forgotten w = by_place (eq-or-lt_of_le (stops_at w).within)
  where
    by_digits : (t : Bool) → ltb 0 (length (unsigned w)) ≡ t → StopsAt w (length w) → begins_number w ≡ true
        → forgetting (number_of w) ≡ word_judged w
    by_digits true q s b =
        ap forgetting (says_value w s (ltb-true 0 (length (unsigned w)) q)) ∙ sym (judged_begun w true b ∙ rw q)
    by_digits false q s b =
        ap forgetting (says_missing w s (omega (arith, ltb-false 0 (length (unsigned w)) q))) ∙ sym (judged_begun w true b ∙ rw q)

    by_place : (stop w ≡ length w) ⊎ (stop w < length w) → forgetting (number_of w) ≡ word_judged w
    by_place (inl e) =
        let s = subst (StopsAt w) e (stops_at w) in
        by_digits (ltb 0 (length (unsigned w))) refl s (rw (take_all (length w) w (omega arith)) at s.before)
    by_place (inr h) =
        ap forgetting (says_bad w (stop w) (stops_at w) h) ∙ sym (judged_begun w false (not_begun (begins_number w) refl) ∙ last (ltb 0 (length (unsigned w))))
      where
        last : (p : Bool) → cond (p && false) (good (value_of (unsigned w))) bad ≡ bad
        last true = refl
        last false = refl

        not_begun : (t : Bool) → begins_number w ≡ t → t ≡ false
        not_begun true q = never (sym ((stops_at w).here h) ∙ begins_take w (suc (stop w)) (length w) h (rw (take_all (length w) w (omega arith)) q))
        not_begun false q = refl

forgotten_good : (a : Result ℕ Flaw) (n : ℕ) → forgetting a ≡ good n → a ≡ Ok n
forgotten_good (Ok m) n e = let z : m ≡ n = cc in rw z
forgotten_good (Err flaw) n e = absurd (cc)

-- what is accepted has that value
pub sound : (w : List ℕ) (n : ℕ) → number_of w ≡ Ok n → Says w n
sound w n e = judged_sound w n (sym (reason_forgotten w) ∙ ap forgetting e)

-- what says a number is not refused
pub complete : (w : List ℕ) (n : ℕ) → Says w n → number_of w ≡ Ok n
complete w n s = forgotten_good (number_of w) n (reason_forgotten w ∙ judged_complete w n s)

-- a word says one number at most
pub one_value : (w : List ℕ) (m n : ℕ) → Says w m → Says w n → m ≡ n
one_value w m n p q = let d = complete w m p in let e = complete w n q in cc

-- ---- why and where a word is bad

-- what the byte at a place does, where a number begins with the bytes before it
module _ (w : List ℕ) (i : ℕ) (h : i < length w) (begun : begins_number (take i w) ≡ true) (unplussed : i ≡ 0 → get_or w i 0 ≡ 43 → ⊥) where
  abbrev longer : ℕ
  longer = value_of (unsigned (take i w)) * 10 + (get_or w i 0 - 48)

  not_plus : length (take i w) ≡ 0 → get_or w i 0 ≡ 43 → ⊥
  not_plus z e = unplussed (omega (arith, length-take-le i w (omega arith))) e

  with_it : begins_number (take (suc i) w) ≡ (is_digit (get_or w i 0) && ltb longer (2 ^ 64))
  with_it = rw (take-suc w i 0 h) (begins_more (take i w) (get_or w i 0) begun not_plus)

  value_with_it : value_of (unsigned (take (suc i) w)) ≡ longer
  value_with_it = rw (take-suc w i 0 h) (value_more (take i w) (get_or w i 0) begun not_plus)

  stops_with : (is_digit (get_or w i 0) && ltb longer (2 ^ 64)) ≡ false → StopsAt w i
  stops_with e = record { within = omega arith; before = begun; here = λ k. with_it ∙ e }

-- with a `+` alone a number begins, so that a word never stops there
plus_begins : (w : List ℕ) → 0 < length w → get_or w 0 0 ≡ 43 → begins_number (take 1 w) ≡ true
unfolding begins_number unsigned is_all_digits value_of
plus_begins [] h e = absurd (omega arith)
plus_begins (b ∷ bs) h e = rw (eq-eqb b 43 e)

not_at_plus : (w : List ℕ) (i : ℕ) → StopsAt w i → i < length w → i ≡ 0 → get_or w i 0 ≡ 43 → ⊥
not_at_plus w i s h z e =
    let f : begins_number (take 1 w) ≡ false = rw z at (s.here h) in
    let q : get_or w 0 0 ≡ 43 = rw z at e in
    never (sym f ∙ plus_begins w (omega arith) q)

-- a word without a digit, all of which begins a number
bare : (w : List ℕ) → length (unsigned w) ≡ 0 → (w ≡ []) ⊎ (w ≡ 43 ∷ [])
unfolding unsigned
bare [] h = inl refl
bare (b ∷ bs) h = by_sign (eqb b 43) refl bs h
  where
    by_sign : (t : Bool) → eqb b 43 ≡ t → (l : List ℕ) → length (cond t l (b ∷ l)) ≡ 0 → (b ∷ l ≡ []) ⊎ (b ∷ l ≡ 43 ∷ [])
    by_sign true q [] k = inr (ap (λ (x : ℕ). x ∷ []) (eqb-true b 43 q))
    by_sign true q (x ∷ l) k = absurd (omega arith)
    by_sign false q l k = absurd (omega arith)

digit_no_plus : (b : ℕ) → is_digit b ≡ true → b ≡ 43 → ⊥
unfolding is_digit
digit_no_plus b h e = never (rw e at h)

-- a reason and a place that are told are told once
one_flaw : {y z : Why} {p q : ℕ} → ◌≡◌ {A = Result ℕ Flaw} (Err (flaw_at y p)) (Err (flaw_at z q)) → (y ≡ z) × (p ≡ q)
one_flaw {y} {z} {p} {q} e =
    let f : flaw_at y p ≡ flaw_at z q = cc in
    (ap (λ (a : Flaw). a.why) f, ap (λ (a : Flaw). a.byte) f)

-- what is told fits the word
pub bad_tells : (w : List ℕ) (why : Why) (place : ℕ) → number_of w ≡ Err (flaw_at why place) → BadAt w why place
unfolding begins_number
bad_tells w why place e = by_place (eq-or-lt_of_le (stops_at w).within)
  where
    by_digits : (t : Bool) → ltb 0 (length (unsigned w)) ≡ t → StopsAt w (length w) → BadAt w why place
    by_digits true q s =
        let v = says_value w s (ltb-true 0 (length (unsigned w)) q) in
        absurd (cc)
    by_digits false q s =
        let l : length (unsigned w) ≡ 0 = omega (arith, ltb-false 0 (length (unsigned w)) q) in
        let f = one_flaw (sym (says_missing w s l) ∙ e) in
        rw (← f.0, ← f.1) (missing (bare w l))

    by_byte : (t : Bool) → is_digit (get_or w (stop w) 0) ≡ t → stop w < length w
        → ◌≡◌ {A = Result ℕ Flaw} (Err (flaw_at (cond t TooLarge StrayByte) (stop w))) (Err (flaw_at why place))
        → BadAt w why place
    by_byte false q h f =
        let t = one_flaw f in
        rw (← t.0, ← t.1) (stray (record { inside = h; begun = (stops_at w).before; other = q; unplussed = not_at_plus w (stop w) (stops_at w) h }))
    by_byte true q h f =
        let t = one_flaw f in
        let i = stop w in
        let s = stops_at w in
        let n = not_at_plus w i s h in
        let b = both (is_all_digits (unsigned (take i w))) (ltb (value_of (unsigned (take i w))) (2 ^ 64)) s.before in
        let o : ltb (longer w i h s.before n) (2 ^ 64) ≡ false = rw q at (sym (with_it w i h s.before n) ∙ s.here h) in
        rw (← t.0, ← t.1)
        (large
        (record {
          inside = h;
          digits = b.0;
          fits = ltb-true (value_of (unsigned (take i w))) (2 ^ 64) b.1;
          digit = q;
          over = rw (value_with_it w i h s.before n) (ltb-false (longer w i h s.before n) (2 ^ 64) o);
        }))

    by_place : (stop w ≡ length w) ⊎ (stop w < length w) → BadAt w why place
    by_place (inl q) = by_digits (ltb 0 (length (unsigned w))) refl (subst (StopsAt w) q (stops_at w))
    by_place (inr h) = by_byte (is_digit (get_or w (stop w) 0)) refl h (sym (says_bad w (stop w) (stops_at w) h) ∙ e)

-- and what fits it is told
pub tells_bad : (w : List ℕ) {why : Why} {place : ℕ} → BadAt w why place → number_of w ≡ Err (flaw_at why place)
unfolding number_of stop stop_from begins_number unsigned is_all_digits value_of
tells_bad w (missing (inl e)) = rw e
tells_bad w (missing (inr e)) = rw e
tells_bad w (stray {place} s) =
    says_bad w place (stops_with w place s.inside s.begun s.unplussed (rw s.other)) s.inside ∙ rw s.other
tells_bad w (large {place} s) =
    let n : place ≡ 0 → get_or w place 0 ≡ 43 → ⊥ = λ z. digit_no_plus (get_or w place 0) s.digit in
    let begun : begins_number (take place w) ≡ true = rw (s.digits, lt-ltb (value_of (unsigned (take place w))) (2 ^ 64) s.fits) in
    let o : 2 ^ 64 ≤ longer w place s.inside begun n = rw (value_with_it w place s.inside begun n) at s.over in
    says_bad w place (stops_with w place s.inside begun n (rw (s.digit, le-ltb (longer w place s.inside begun n) (2 ^ 64) o))) s.inside
    ∙ rw s.digit

-- at most one reason and one place fit a word
pub one_reason : (w : List ℕ) {y z : Why} {p q : ℕ} → BadAt w y p → BadAt w z q → (y ≡ z) × (p ≡ q)
one_reason w a b = one_flaw (sym (tells_bad w a) ∙ tells_bad w b)

-- a word is bad at one of its bytes or at its end
pub place_within : (w : List ℕ) (why : Why) (place : ℕ) → number_of w ≡ Err (flaw_at why place) → place ≤ length w
place_within w why place e = by_case (bad_tells w why place e)
  where
    by_case : {y : Why} {p : ℕ} → BadAt w y p → p ≤ length w
    by_case (missing m) = omega arith
    by_case (stray s) = omega (arith, s.inside)
    by_case (large s) = omega (arith, s.inside)

-- ---- the words of the rules, by their bytes (crate worked has more)

-- `+007` is 7
pub seven : number_of (43 ∷ 48 ∷ 48 ∷ 55 ∷ []) ≡ Ok 7
unfolding number_of stop stop_from begins_number unsigned is_all_digits is_digit value_of
seven = refl

-- `1,500` is bad at its comma: neither 1500 nor 1
pub comma : number_of (49 ∷ 44 ∷ 53 ∷ 48 ∷ 48 ∷ []) ≡ Err (flaw_at StrayByte 1)
unfolding number_of stop stop_from begins_number unsigned is_all_digits is_digit value_of
comma = refl

-- Where the reading of a word stops: at the first byte with which no number goes on, which is the only place that has a beginning of a
-- number before it and none with it. And what holds while a word is read byte by byte. Assumes nothing.
use mathlib.Core.Bool.{Bool, true, false, cond, ◌&&◌}
use mathlib.Core.List.{List, [], ◌∷◌}
use mathlib.Core.Path.{◌≡◌, refl, sym, ap, ◌∙◌}
use Rattle.std.specs.Prelude.{Ok, Err}
use Prim.Native.Nat.{ℕ, zero, suc, ◌+◌, ◌^◌, ◌≤◌, ◌<◌}
use native.Mathlib.Numerals.{add-one}
use native.Mathlib.Omega.{arith}
use borrow.Author.Tests.{lt-ltb, le-ltb, eq-eqb}
use lib.Dec.{ltb, eqb}
use lib.ListN.{length, take, get_or}
use lib.Seq.{take-suc, take_all}
use Rattle.numeral.specs.Digits.{is_all_digits, value_of}
use Rattle.numeral.specs.Reading.{unsigned, sign_bytes, begins_number, stop_from, stop, why_at, flaw_at, number_of, with_digit}
use Rattle.numeral.specs.declared.Why.{Why}
use Rattle.numeral.specs.declared.Why.TheVariants.{NoDigit}
use Rattle.numeral.proofs.Beginnings.{never, begins_take, goes_on, stops_here}

-- ---- the place where a word stops

-- a number begins with what stands before a place and none with the byte there too; or the place is the word's end
pub record StopsAt (w : List ℕ) (i : ℕ) : Type 0 where
  pub within : i ≤ length w
  pub before : begins_number (take i w) ≡ true
  pub here : i < length w → begins_number (take (suc i) w) ≡ false

stops_from : (left i : ℕ) (w : List ℕ) → i + left ≡ length w → begins_number (take i w) ≡ true → StopsAt w (stop_from left i w)
unfolding stop_from
stops_from zero i w e b = record { within = omega arith; before = b; here = λ h. absurd (omega arith) }
stops_from (suc left) i w e b = by_byte (begins_number (take (suc i) w)) refl (stops_from left (suc i) w (omega arith))
  where
    by_byte : (t : Bool) → begins_number (take (suc i) w) ≡ t → (begins_number (take (suc i) w) ≡ true → StopsAt w (stop_from left (suc i) w))
        → StopsAt w (cond t (stop_from left (suc i) w) i)
    by_byte true q h = h q
    by_byte false q h = record { within = omega arith; before = b; here = λ k. q }

pub none_begins : begins_number [] ≡ true
unfolding begins_number unsigned is_all_digits value_of
none_begins = refl

pub stops_at : (w : List ℕ) → StopsAt w (stop w)
unfolding stop
stops_at w = stops_from (length w) 0 w (omega arith) none_begins

-- it is the only one: of two, the earlier could not stop, since what stands before the later begins a number
not_before : (w : List ℕ) (i j : ℕ) → StopsAt w i → StopsAt w j → i < j → ⊥
not_before w i j a b h =
    let f : begins_number (take (suc i) w) ≡ false = a.here (omega (arith, b.within)) in
    let t : begins_number (take (suc i) w) ≡ true = begins_take w (suc i) j h b.before in
    never (sym f ∙ t)

pub stops_once : (w : List ℕ) (i : ℕ) → StopsAt w i → stop w ≡ i
stops_once w i a = omega (arith, not_before w (stop w) i (stops_at w) a, not_before w i (stop w) a (stops_at w))

-- ---- what a word says, by the place
module _ (w : List ℕ) where
  pub says_bad : (i : ℕ) → StopsAt w i → i < length w → number_of w ≡ Err (flaw_at (why_at (get_or w i 0)) i)
  unfolding number_of
  says_bad i a h = rw (stops_once w i a, lt-ltb i (length w) h)

  pub says_value : StopsAt w (length w) → 0 < length (unsigned w) → number_of w ≡ Ok (value_of (unsigned w))
  unfolding number_of
  says_value a h = rw (stops_once w (length w) a, le-ltb (length w) (length w) (omega arith), lt-ltb 0 (length (unsigned w)) h)

  pub says_missing : StopsAt w (length w) → length (unsigned w) ≡ 0 → number_of w ≡ Err (flaw_at NoDigit (length w))
  unfolding number_of
  says_missing a h = rw (stops_once w (length w) a, le-ltb (length w) (length w) (omega arith), le-ltb 0 (length (unsigned w)) (omega arith))

-- a number begins with the whole of a word
pub whole : (w : List ℕ) → begins_number w ≡ true → StopsAt w (length w)
whole w b = record { within = omega arith; before = rw (take_all (length w) w (omega arith)) b; here = λ h. absurd (omega arith) }

-- ---- the sign, and what stands behind it
length-unsigned : (w : List ℕ) → length w ≡ sign_bytes w + length (unsigned w)
unfolding unsigned sign_bytes
length-unsigned [] = refl
length-unsigned (b ∷ bs) = by_sign (eqb b 43)
  where
    by_sign : (t : Bool) → suc (length bs) ≡ cond t 1 0 + length (cond t bs (b ∷ bs))
    by_sign true = omega arith
    by_sign false = omega arith

-- with the sign alone a number begins, of no digit yet
sign_begins : (w : List ℕ) → (begins_number (take (sign_bytes w) w) ≡ true) × (value_of (unsigned (take (sign_bytes w) w)) ≡ 0)
unfolding sign_bytes begins_number unsigned is_all_digits value_of
sign_begins [] = (refl, refl)
sign_begins (b ∷ bs) = by_sign (eqb b 43) refl
  where
    by_sign : (t : Bool) → eqb b 43 ≡ t
        → let p = take (cond t 1 0) (b ∷ bs) in (is_all_digits (unsigned p) && ltb (value_of (unsigned p)) (2 ^ 64) ≡ true) × (value_of (unsigned p) ≡ 0)
    by_sign true q = rw q (refl, refl)
    by_sign false q = (refl, refl)

-- a byte behind the sign, or where there is none, is no sign itself
no_sign_at : (w : List ℕ) (i : ℕ) → i < length w → sign_bytes w ≤ i → length (take i w) ≡ 0 → get_or w i 0 ≡ 43 → ⊥
unfolding sign_bytes
no_sign_at [] i h s l e = absurd (omega arith)
no_sign_at (b ∷ bs) zero h s l e = absurd (omega (arith, rw (eq-eqb b 43 e) at s))
no_sign_at (b ∷ bs) (suc i) h s l e = absurd (omega arith)

-- ---- reading byte by byte

-- the bytes before a place begin a number, of the value read so far
pub record Reading (w : List ℕ) (value i : ℕ) : Type 0 where
  pub some : sign_bytes w < length w
  pub behind : sign_bytes w ≤ i
  pub within : i ≤ length w
  pub begun : begins_number (take i w) ≡ true
  pub so_far : value_of (unsigned (take i w)) ≡ value

-- the word is a sign or nothing
pub no_digit : (w : List ℕ) (from : ℕ) → from ≡ sign_bytes w → length w ≤ from → Err (flaw_at NoDigit from) ≡ number_of w
no_digit w from e h =
    let l = length-unsigned w in
    let z : length w ≡ from = omega arith in
    let t : begins_number w ≡ true = rw (take_all (sign_bytes w) w (omega arith)) at (sign_begins w).0 in
    sym (says_missing w (whole w t) (omega arith) ∙ ap (λ (p : ℕ). Err (flaw_at NoDigit p)) z)

pub starts : (w : List ℕ) (from : ℕ) → from ≡ sign_bytes w → from < length w → Reading w 0 from
starts w from e h =
    rw e (record { some = rw e at h; behind = omega arith; within = omega arith; begun = (sign_begins w).0; so_far = (sign_begins w).1 })

module _ {w : List ℕ} {value i : ℕ} (r : Reading w value i) where
  module _ (h : i < length w) where
    clear : length (take i w) ≡ 0 → get_or w i 0 ≡ 43 → ⊥
    clear = no_sign_at w i h r.behind

    pub reads_on : (n : ℕ) → with_digit value (get_or w i 0) ≡ Ok n → Reading w n (i + 1)
    reads_on n e =
        let g = goes_on (take i w) (get_or w i 0) r.begun clear n (ap (λ (v : ℕ). with_digit v (get_or w i 0)) r.so_far ∙ e) in
        let t = take-suc w i 0 h in
        record {
          some = r.some;
          behind = omega (arith, r.behind);
          within = omega arith;
          begun = rw (add-one i, t) g.0;
          so_far = rw (add-one i, t) g.1;
        }

    pub stops : (why : Why) → with_digit value (get_or w i 0) ≡ Err why → Err (flaw_at why i) ≡ number_of w
    stops why e =
        let g = stops_here (take i w) (get_or w i 0) r.begun clear why (ap (λ (v : ℕ). with_digit v (get_or w i 0)) r.so_far ∙ e) in
        let s : StopsAt w i = record { within = r.within; before = r.begun; here = λ k. rw (take-suc w i 0 h) g.0 } in
        sym (says_bad w i s h ∙ ap (λ (y : Why). Err (flaw_at y i)) g.1)

  pub ends : length w ≤ i → Ok value ≡ number_of w
  ends h =
      let l = length-unsigned w in
      let a = take_all i w h in
      sym (says_value w (whole w (rw a at r.begun)) (omega (arith, r.some)) ∙ ap Ok (rw a at r.so_far))

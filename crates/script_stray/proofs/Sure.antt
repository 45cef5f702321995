-- A text that is UTF-8 and has plain words has no stray line: a line feed is no continuation byte, so that no character runs over it. Assumes
-- nothing.
use mathlib.Core.Bool.{Bool, true, false, cond, not, false≢true}
use mathlib.Core.List.{List, [], ◌∷◌}
use mathlib.Core.Path.{◌≡◌, refl, sym, ap, ◌∙◌}
use Prim.Native.Nat.{ℕ, zero, suc, ◌≤◌, ◌<◌}
use native.Mathlib.Omega.{arith}
use borrow.Author.Tests.{ltb-false, eqb-true, eqb-false, eq-eqb, ne_eqb, le-ltb}
use lib.Dec.{ltb, eqb}
use lib.ListN.{drop}
use Rattle.script_words.specs.Words.{until}
use Rattle.script_utf8.specs.Utf8.{in_range, Awaiting, between, inside, ill_formed, sequences, after_first, after_this, after_byte, may_end, utf8_from, is_utf8}
use Rattle.script_utf8.proofs.Exact.{at_1, below_range}
use Rattle.script_stray.specs.Stray.{stray_line}
use Rattle.script_stray.specs.Walk.{spot_of, spot_after, spot_ends, stray_from, words_plain}
use Rattle.script_stray.specs.declared.Spot.TheVariants.{Words, Between, Astray}
use Rattle.script_stray.proofs.Walking.{spot_of_lem, walk_finds}

-- ---- what is awaited inside a character is over 127

High : Awaiting → Type 0
High between = Unit {0}
High (inside k lo hi) = 127 < lo
High ill_formed = Unit {0}

high_if : (t : Bool) (x y : Awaiting) → High x → High y → High (cond t x y)
high_if true x y h k = h
high_if false x y h k = k

high_this : (k : ℕ) → High (after_this k)
unfolding after_this High
high_this zero = tt
high_this (suc k) = omega arith

high_first : (b : ℕ) → High (after_first b sequences)
unfolding after_first High
high_first b =
    high_if (in_range 0x00 0x7F b) _ _ tt
    (high_if (in_range 0xC2 0xDF b) _ _ (omega arith)
    (high_if (in_range 0xE0 0xE0 b) _ _ (omega arith)
    (high_if (in_range 0xE1 0xEC b) _ _ (omega arith)
    (high_if (in_range 0xED 0xED b) _ _ (omega arith)
    (high_if (in_range 0xEE 0xEF b) _ _ (omega arith)
    (high_if (in_range 0xF0 0xF0 b) _ _ (omega arith)
    (high_if (in_range 0xF1 0xF3 b) _ _ (omega arith) (high_if (in_range 0xF4 0xF4 b) _ _ (omega arith) tt))))))))

high_after : (s : Awaiting) (b : ℕ) → High (after_byte s b)
unfolding after_byte High
high_after between b = high_first b
high_after (inside k lo hi) b = high_if (in_range lo hi b) (after_this k) ill_formed (high_this k) tt
high_after ill_formed b = tt

ill_stays : (bs : List ℕ) → utf8_from ill_formed bs ≡ false
unfolding utf8_from may_end after_byte
ill_stays [] = refl
ill_stays (b ∷ bs) = ill_stays bs

-- ---- byte by byte

-- no line is stray from here on, in a comment or before one
record Fine (bs : List ℕ) : Type 0 where
  comment : (s : Awaiting) → High s → utf8_from s bs ≡ true → words_plain true bs ≡ true → (n : ℕ) → stray_from n (spot_of s) bs ≡ 0
  words : utf8_from between bs ≡ true → words_plain false bs ≡ true → (n : ℕ) → stray_from n Words bs ≡ 0

fine_end : Fine []
unfolding utf8_from may_end stray_from spot_ends
fine_end = record { comment = at_end; words = λ e f n. refl }
  where
    at_end : (s : Awaiting) → High s → utf8_from s [] ≡ true → words_plain true [] ≡ true → (n : ℕ) → stray_from n (spot_of s) [] ≡ 0
    at_end between h e f n = refl
    at_end (inside k lo hi) h e f n = absurd (false≢true e)
    at_end ill_formed h e f n = absurd (false≢true e)

module _ (b : ℕ) (bs : List ℕ) (next : Fine bs) where
  -- a line feed in a comment: a character ended before it
  feed : (s : Awaiting) → High s → b ≡ 10 → utf8_from (after_byte s b) bs ≡ true → words_plain false bs ≡ true → (n : ℕ)
      → cond (spot_ends (spot_of s)) (stray_from (suc n) Words bs) n ≡ 0
  unfolding after_byte spot_ends High
  feed between h d e f n = next.words (sym (ap (λ t. utf8_from t bs) (at_1 b (omega (arith, d)))) ∙ e) f (suc n)
  feed (inside k lo hi) h d e f n =
      absurd (false≢true (sym (ill_stays bs) ∙ sym (ap (λ t. utf8_from (cond t (after_this k) ill_formed) bs) (below_range lo hi b (omega (arith, d, h)))) ∙ e))
  feed ill_formed h d e f n = absurd (false≢true (sym (ill_stays bs) ∙ e))

  in_comment : (s : Awaiting) → High s → utf8_from s (b ∷ bs) ≡ true → words_plain true (b ∷ bs) ≡ true → (n : ℕ) → stray_from n (spot_of s) (b ∷ bs) ≡ 0
  unfolding utf8_from stray_from words_plain
  in_comment s h e f n = by_feed (eqb b 10) refl
    where
      by_feed : (t : Bool) → eqb b 10 ≡ t
          → cond t (cond (spot_ends (spot_of s)) (stray_from (suc n) Words bs) n) (stray_from n (spot_after (spot_of s) b) bs) ≡ 0
      by_feed true d =
          let z : b ≡ 10 = eqb-true b 10 d in
          feed s h z e (sym (ap (λ q. words_plain (not q) bs) (eq-eqb 10 b (sym z))) ∙ f) n
      by_feed false d =
          let z : 10 ≡ b → ⊥ = λ y. eqb-false b 10 d (sym y) in
          ap (λ p. stray_from n p bs) (spot_of_lem s b)
          ∙ next.comment (after_byte s b) (high_after s b) e (sym (ap (λ q. words_plain (not q) bs) (ne_eqb 10 b z)) ∙ f) n

  in_words : utf8_from between (b ∷ bs) ≡ true → words_plain false (b ∷ bs) ≡ true → (n : ℕ) → stray_from n Words (b ∷ bs) ≡ 0
  unfolding utf8_from stray_from words_plain spot_ends spot_after after_byte High
  in_words e f n = by_over (ltb 127 b) refl f
    where
      by_hash : b ≤ 127 → (q : Bool) → words_plain q bs ≡ true → utf8_from between bs ≡ true → stray_from n (cond q Between Words) bs ≡ 0
      by_hash l true g h = next.comment between tt h g n
      by_hash l false g h = next.words h g n

      by_feed : b ≤ 127 → words_plain (eqb 35 b) bs ≡ true → utf8_from between bs ≡ true → (t : Bool) → eqb b 10 ≡ t
          → cond t (stray_from (suc n) Words bs) (stray_from n (cond (eqb 35 b) Between Words) bs) ≡ 0
      by_feed l g h true d =
          let z : b ≡ 10 = eqb-true b 10 d in
          next.words h (sym (ap (λ q. words_plain q bs) (ne_eqb 35 b (λ y. omega (arith, y, z)))) ∙ g) (suc n)
      by_feed l g h false d = by_hash l (eqb 35 b) g h

      by_over : (o : Bool) → ltb 127 b ≡ o → cond o false (words_plain (eqb 35 b) bs) ≡ true
          → cond (eqb b 10) (stray_from (suc n) Words bs) (stray_from n (cond o Astray (cond (eqb 35 b) Between Words)) bs) ≡ 0
      by_over true d g = absurd (false≢true g)
      by_over false d g =
          let l : b ≤ 127 = ltb-false 127 b d in
          by_feed l g (sym (ap (λ t. utf8_from t bs) (at_1 b l)) ∙ e) (eqb b 10) refl

fine : (bs : List ℕ) → Fine bs
fine [] = fine_end
fine (b ∷ bs) = record { comment = in_comment b bs (fine bs); words = in_words b bs (fine bs) }

pub sure_is_fine : (text : List ℕ) → is_utf8 text ≡ true → words_plain false text ≡ true → stray_line text ≡ 0
sure_is_fine text u w = walk_finds text ∙ (fine text).words u w 1

-- ---- passing over a comment

pub comment_passed : (bs : List ℕ) → words_plain true bs ≡ words_plain false (drop (until (eqb 10) bs) bs)
unfolding words_plain until
comment_passed [] = refl
comment_passed (b ∷ bs) = by_feed (eqb 10 b) refl (comment_passed bs)
  where
    by_feed : (t : Bool) → eqb 10 b ≡ t → words_plain true bs ≡ words_plain false (drop (until (eqb 10) bs) bs)
        → words_plain (not t) bs ≡ words_plain false (drop (cond t 0 (suc (until (eqb 10) bs))) (b ∷ bs))
    by_feed true d h = sym (ap (λ o. cond o false (words_plain (eqb 35 b) bs)) (le-ltb 127 b (omega (arith, eqb-true 10 b d)))
        ∙ ap (λ q. words_plain q bs) (ne_eqb 35 b (λ y. omega (arith, y, eqb-true 10 b d))))
    by_feed false d h = h

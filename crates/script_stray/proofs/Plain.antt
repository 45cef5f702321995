-- What the quick tests tell of a text: the bytes gathered before one test, the line feed behind a comment, and whether the words are plain from a
-- place on. Assumes nothing.
use Rattle.std.proofs.Common.{◌≡◌, refl, sym, ap, ◌∙◌, Bool, true, false, cond, ◌||◌, List, [], ◌∷◌, ◌++◌, ℕ, ◌+◌, ◌-◌, ◌≤◌, ◌<◌, ltb, eqb, length, take, drop, bit_or, fold, Option, None, Some, unwrap_or, arith}
use Rattle.std.specs.List.{position, position_or_len}
use Rattle.std.proofs.lemmas.List.Recursion.{is_position_or_len}
use Rattle.std.proofs.lemmas.List.Sums.{prefix_len-le-length}
use borrow.Author.Tests.{ltb-true, ltb-false, lt-ltb, le-ltb, eqb-true, eqb-false, eq-eqb, ne_eqb}
use lib.Bits.{or_add_and, and_le_l, and_le_r}
use lib.Seq.{take_all, length-take-le, drop-drop}
use lib.ListN.{length-drop, take-append-drop}
use Rattle.script_words.specs.Words.{until}
use Rattle.script_stray.specs.Stray.{has_over, stray_line, line_told}
use Rattle.script_stray.specs.Walk.{words_plain}
use Rattle.script_stray.proofs.Walking.{neither}
use Rattle.script_stray.proofs.Sure.{comment_passed}

-- ---- bytes gathered before one test

-- what was gathered is below 128 only if no byte is over 127
pub gathered_low : (bs : List ℕ) (g : ℕ) → fold bit_or g bs < 128 → (g < 128) × (has_over bs ≡ false)
unfolding has_over
gathered_low [] g h = (h, refl)
gathered_low (b ∷ bs) g h =
    let a = gathered_low bs (bit_or g b) h in
    let l : bit_or g b < 128 = a.0 in
    let low : g < 128 = omega (arith, l, or_add_and g b, and_le_r g b) in
    let byte : b ≤ 127 = omega (arith, l, or_add_and g b, and_le_l g b) in
    (low, rw (le-ltb 127 b byte) a.1)

pub none_over : (text : List ℕ) (g : ℕ) → g ≡ fold bit_or 0 text → ltb g 128 ≡ true → has_over text ≡ false
none_over text g e h = (gathered_low text 0 (rw e at (ltb-true g 128 h))).1

-- whether a byte is a line feed, and the same test from the other side
turned : (b : ℕ) → eqb 10 b ≡ eqb b 10
turned b = go (eqb b 10) refl
  where
    go : (t : Bool) → eqb b 10 ≡ t → eqb 10 b ≡ t
    go true e = eq-eqb 10 b (sym (eqb-true b 10 e))
    go false e = ne_eqb 10 b (λ y. eqb-false b 10 e (sym y))

-- where no line feed was met, what is behind decides
missed : (bs : List ℕ) (hit : Bool) → fold (λ h b. h || eqb b 10) hit bs ≡ false
    → (hit ≡ false) × ((rest : List ℕ) → until (eqb 10) (bs ++ rest) ≡ length bs + until (eqb 10) rest)
unfolding until
missed [] hit e = (e, λ rest. omega arith)
missed (b ∷ bs) hit e =
    let a = missed bs (hit || eqb b 10) e in
    let p = neither hit (eqb b 10) a.0 in
    (p.0, λ rest. let k = a.1 rest in rw (turned b, p.1) (omega (arith, k)))

-- and a block without one is passed
pub block_passed : (l block more : List ℕ) (hit : Bool) → block ≡ take 16 l → more ≡ drop 16 l → length more + 16 ≡ length l
    → hit ≡ fold (λ h b. h || eqb b 10) false block → hit ≡ false → drop (until (eqb 10) l) l ≡ drop (until (eqb 10) more) more
block_passed l block more hit e f n g h =
    let u : until (eqb 10) l ≡ length block + until (eqb 10) more =
    ap (until (eqb 10)) (sym (take-append-drop 16 l) ∙ rw (← e, ← f)) ∙ (missed block false (sym g ∙ h)).1 more in
    let k : length block ≡ 16 = ap length e ∙ length-take-le 16 l (omega arith) in
    ap (λ m. drop m l) (u ∙ ap (λ m. m + until (eqb 10) more) k) ∙ sym (drop-drop (until (eqb 10) more) 16 l) ∙ ap (drop (until (eqb 10) more)) (sym f)

-- ---- the line feed behind a comment

feed_place : (l : List ℕ) → until (eqb 10) l ≡ position_or_len (λ b. eqb b 10) l
unfolding until
feed_place l = is_position_or_len (until (eqb 10)) (λ b. eqb b 10) refl (λ b bs. rw (turned b) (ap (cond (eqb b 10) 0) (omega arith))) l

found_or_end : (p n : ℕ) → p ≤ n → unwrap_or (cond (ltb p n) (Some p) None) n ≡ p
found_or_end p n h = go (ltb p n) refl
  where
    go : (t : Bool) → ltb p n ≡ t → unwrap_or (cond t (Some p) None) n ≡ p
    go true e = refl
    go false e = let k = ltb-false p n e in omega (arith, k)

pub from_feed : (l : List ℕ) (o : Option ℕ) (u n : ℕ) → o ≡ position (λ b. eqb b 10) l → u ≡ unwrap_or o n → n ≡ length l
    → take (n - u) (drop u l) ≡ drop (until (eqb 10) l) l
from_feed l o u n e f g =
    let h : u ≡ until (eqb 10) l =
    f ∙ ap (λ p. unwrap_or p n) e ∙ ap (unwrap_or (position (λ b. eqb b 10) l)) g
    ∙ found_or_end (position_or_len (λ b. eqb b 10) l) (length l) (prefix_len-le-length _ l) ∙ sym (feed_place l) in
    take_all (n - u) (drop u l) (omega (arith, length-drop u l)) ∙ ap (λ k. drop k l) h

-- ---- no stray line

pub none : (text : List ℕ) → stray_line text ≡ 0 → None ≡ line_told (stray_line text)
unfolding line_told
none text e = sym (ap line_told e)

-- ---- plain words, from a place on

-- nothing is left
pub all_passed : (text rest : List ℕ) → words_plain false text ≡ words_plain false rest → length rest ≡ 0 → true ≡ words_plain false text
unfolding words_plain
all_passed text [] w e = sym w
all_passed text (b ∷ bs) w e = absurd (omega arith)

-- a byte over 127 decides
pub over : (text rest : List ℕ) (b : ℕ) (bs : List ℕ) → rest ≡ b ∷ bs → 127 < b → words_plain false text ≡ words_plain false rest
    → false ≡ words_plain false text
unfolding words_plain
over text rest b bs f s l = sym (rw (lt-ltb 127 b s) at (l ∙ ap (words_plain false) f))

-- a `#` passes its comment
pub passed : (text rest : List ℕ) (b : ℕ) (bs : List ℕ) → rest ≡ b ∷ bs → b ≡ 35 → words_plain false text ≡ words_plain false rest
    → words_plain false text ≡ words_plain false (drop (until (eqb 10) bs) bs)
unfolding words_plain
passed text rest b bs f e l = (rw (le-ltb 127 b (omega arith), eq-eqb 35 b (sym e)) at (l ∙ ap (words_plain false) f)) ∙ comment_passed bs

-- another byte is passed
pub other : (text rest : List ℕ) (b : ℕ) (bs : List ℕ) → rest ≡ b ∷ bs → b ≤ 127 → (b ≡ 35 → ⊥) → words_plain false text ≡ words_plain false rest
    → words_plain false text ≡ words_plain false bs
unfolding words_plain
other text rest b bs f s e l = rw (le-ltb 127 b s, ne_eqb 35 b (λ y. e (sym y))) at (l ∙ ap (words_plain false) f)

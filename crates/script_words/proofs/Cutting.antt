-- The words of a line by places: behind the white space at a place stands the next word, and behind it the others. And stripping a line leaves
-- its words as they are. Assumes nothing.
use mathlib.Core.Bool.{Bool, true, false, cond, not}
use mathlib.Core.List.{List, [], ◌∷◌}
use mathlib.Core.Path.{◌≡◌, refl, sym, ap, ◌∙◌}
use Prim.Native.Nat.{ℕ, suc, ◌+◌, ◌-◌, ◌≤◌, ◌<◌}
use native.Mathlib.Omega.{arith}
use lib.ListN.{length, take, drop, length-drop}
use borrow.Author.Tests.{eqb-true, eqb-false, eq-eqb, ne_eqb}
use lib.Dec.{eqb}
use lib.Seq.{drop-drop, length-take-le}
use Rattle.script_words.specs.Words.{is_space, not_space, until, joined, strip_front, kept_before, strip_end, strip, begins, line_words, start_from, word_from, part, lines_of}
use Rattle.script_words.proofs.Walk.{until_in}

-- a word and those after it; where the word is empty there are none
abbrev pub led : List ℕ → List (List ℕ) → List (List ℕ)
led [] ws = []
led (b ∷ bs) ws = (b ∷ bs) ∷ ws

-- a test for a byte is the same either way round
pub eqb_swap : (a b : ℕ) → eqb a b ≡ eqb b a
eqb_swap a b = alike (eqb a b) refl
  where
    alike : (t : Bool) → eqb a b ≡ t → t ≡ eqb b a
    alike true e = sym (eq-eqb b a (sym (eqb-true a b e)))
    alike false e = sym (ne_eqb b a (λ q. eqb-false a b e (sym q)))

-- ---- white space in front plays no part
skip_one : (s : Bool) (b : ℕ) (bs : List ℕ) (n : ℕ) → is_space b ≡ s → line_words (drop n bs) ≡ line_words bs → line_words (drop (cond (not s) 0 (suc n)) (b ∷ bs)) ≡ line_words (b ∷ bs)
unfolding line_words
skip_one true b bs n e h = rw e h
skip_one false b bs n e h = refl

skip_words : (l : List ℕ) → line_words (drop (until not_space l) l) ≡ line_words l
unfolding until not_space
skip_words [] = refl
skip_words (b ∷ bs) = skip_one (is_space b) b bs (until not_space bs) refl (skip_words bs)

-- ---- and then a word begins, or the line ends
begins_or_not : (s : Bool) (b : ℕ) (bs : List ℕ) (n : ℕ) → is_space b ≡ s → (begins (drop n bs) ≡ false → drop n bs ≡ [])
    → begins (drop (cond (not s) 0 (suc n)) (b ∷ bs)) ≡ false → drop (cond (not s) 0 (suc n)) (b ∷ bs) ≡ []
unfolding begins not_space
begins_or_not true b bs n e h f = h f
begins_or_not false b bs n e h f = let g : true ≡ false = rw e at f in absurd (cc)

gap_begins : (l : List ℕ) → begins (drop (until not_space l) l) ≡ false → drop (until not_space l) l ≡ []
unfolding until not_space
gap_begins [] h = refl
gap_begins (b ∷ bs) h = begins_or_not (is_space b) b bs (until not_space bs) refl (gap_begins bs) h

-- ---- a list that begins with a word
no_run : (l : List ℕ) → begins l ≡ false → until is_space l ≡ 0
unfolding until begins not_space
no_run [] h = refl
no_run (b ∷ bs) h = stopped (is_space b) h
  where
    stopped : (s : Bool) → not s ≡ false → cond s 0 (suc (until is_space bs)) ≡ 0
    stopped true e = refl
    stopped false e = absurd (cc)

one_more : (t : Bool) (b : ℕ) (bs : List ℕ) → begins bs ≡ t → (begins bs ≡ true → line_words bs ≡ take (until is_space bs) bs ∷ line_words (drop (until is_space bs) bs))
    → cond t (joined b (line_words bs)) ((b ∷ []) ∷ line_words bs) ≡ (b ∷ take (until is_space bs) bs) ∷ line_words (drop (until is_space bs) bs)
unfolding joined
one_more true b bs e h = rw (h e)
one_more false b bs e h = rw (no_run bs e)

by_space : (s : Bool) (b : ℕ) (bs : List ℕ) → is_space b ≡ s → not s ≡ true
    → (begins bs ≡ true → line_words bs ≡ take (until is_space bs) bs ∷ line_words (drop (until is_space bs) bs))
    → line_words (b ∷ bs) ≡ take (until is_space (b ∷ bs)) (b ∷ bs) ∷ line_words (drop (until is_space (b ∷ bs)) (b ∷ bs))
unfolding line_words until
by_space true b bs e f h = absurd (cc)
by_space false b bs e f h = rw e (one_more (begins bs) b bs refl h)

word_first : (l : List ℕ) → begins l ≡ true → line_words l ≡ take (until is_space l) l ∷ line_words (drop (until is_space l) l)
unfolding begins not_space
word_first [] h = absurd (cc)
word_first (b ∷ bs) h = by_space (is_space b) b bs refl h (word_first bs)

-- ---- so at any place stands the next word, and behind it the others
first_led : (s : Bool) (b : ℕ) (bs : List ℕ) (ws : List (List ℕ)) (k : ℕ) → not s ≡ true → take (cond s 0 (suc k)) (b ∷ bs) ∷ ws ≡ led (take (cond s 0 (suc k)) (b ∷ bs)) ws
first_led true b bs ws k e = absurd (cc)
first_led false b bs ws k e = refl

word_here : (t : Bool) (l : List ℕ) → begins l ≡ t → (begins l ≡ false → l ≡ []) → line_words l ≡ led (take (until is_space l) l) (line_words (drop (until is_space l) l))
unfolding line_words until begins not_space
word_here true [] e h = refl
word_here true (b ∷ bs) e h = word_first (b ∷ bs) e ∙ first_led (is_space b) b bs _ (until is_space bs) e
word_here false l e h = rw (h e)

pub word_at : (l : List ℕ) (place : ℕ) → line_words (drop place l) ≡ led (take ((word_from l place).end - (word_from l place).start) (drop (word_from l place).start l)) (line_words (drop (word_from l place).end l))
unfolding word_from
word_at l place =
    let m = drop place l in
    let g = until not_space m in
    let n = drop (place + g) l in
    let r = until is_space n in
    let d : drop g m ≡ n = drop-drop g place l in
    let z : place + g + r - (place + g) ≡ r = omega arith in
    let b : begins n ≡ false → n ≡ [] = rw d at (gap_begins m) in
    sym (skip_words m)
    ∙ rw (d, z) (word_here (begins n) n refl b ∙ ap (λ (x : List ℕ). led (take r n) (line_words x)) (drop-drop r (place + g) l))

-- ---- stripping a line leaves its words
stripped : (s : Bool) (b : ℕ) (bs front : List ℕ) → is_space b ≡ s → line_words front ≡ line_words bs → line_words (cond s front (b ∷ bs)) ≡ line_words (b ∷ bs)
unfolding line_words
stripped true b bs front e h = rw e h
stripped false b bs front e h = refl

strip_front_lem : (l : List ℕ) → line_words (strip_front l) ≡ line_words l
unfolding strip_front
strip_front_lem [] = refl
strip_front_lem (b ∷ bs) = stripped (is_space b) b bs (strip_front bs) refl (strip_front_lem bs)

-- the words and whether one begins at once: what a byte in front can see of a list
abbrev Alike : List ℕ → List ℕ → Type 0
Alike l m = (line_words l ≡ line_words m) × (begins l ≡ begins m)

in_front : (b : ℕ) (l m : List ℕ) → Alike l m → Alike (b ∷ l) (b ∷ m)
unfolding line_words begins
in_front b l m a = (rw (a.0, a.1), refl)

lone : (s : Bool) (b : ℕ) (m : List ℕ) → is_space b ≡ s → Alike [] m → Alike (cond s [] (b ∷ [])) (b ∷ m)
unfolding line_words begins not_space
lone true b m e a = (rw e a.0, rw e)
lone false b m e a = (rw (e, ← a.0, ← a.1), refl)

kept : (b : ℕ) (l m : List ℕ) → Alike l m → Alike (kept_before b l) (b ∷ m)
unfolding kept_before
kept b [] m a = lone (is_space b) b m refl a
kept b (x ∷ xs) m a = in_front b (x ∷ xs) m a

strip_end_lem : (l : List ℕ) → Alike (strip_end l) l
unfolding strip_end
strip_end_lem [] = (refl, refl)
strip_end_lem (b ∷ bs) = kept b (strip_end bs) bs (strip_end_lem bs)

pub strip_words : (l : List ℕ) → line_words (strip l) ≡ line_words l
unfolding strip
strip_words l = strip_front_lem (strip_end l) ∙ (strip_end_lem l).0

-- ---- the lines of a text by places
abbrev feed : List ℕ → ℕ
feed l = until (eqb 10) l

last_one : (t : Bool) (b : ℕ) (bs : List ℕ) → cond t 0 (suc (feed bs)) ≡ suc (length bs) → (feed bs ≡ length bs → lines_of bs ≡ bs ∷ [])
    → cond t ([] ∷ lines_of bs) (joined b (lines_of bs)) ≡ (b ∷ bs) ∷ []
unfolding joined
last_one true b bs e h = absurd (omega arith)
last_one false b bs e h = rw (h (omega arith))

-- no line feed is left: one line more
pub last_line : (l : List ℕ) → feed l ≡ length l → lines_of l ≡ l ∷ []
unfolding lines_of until
last_line [] h = refl
last_line (b ∷ bs) h = rw (eqb_swap b 10) (last_one (eqb 10 b) b bs h (last_line bs))

next_one : (t : Bool) (b : ℕ) (bs : List ℕ) → cond t 0 (suc (feed bs)) < suc (length bs) → (feed bs < length bs → lines_of bs ≡ take (feed bs) bs ∷ lines_of (drop (suc (feed bs)) bs))
    → cond t ([] ∷ lines_of bs) (joined b (lines_of bs)) ≡ take (cond t 0 (suc (feed bs))) (b ∷ bs) ∷ lines_of (drop (suc (cond t 0 (suc (feed bs)))) (b ∷ bs))
unfolding joined
next_one true b bs e h = refl
next_one false b bs e h = rw (h (omega arith))

-- up to the line feed: a line, and then the others
pub next_line : (l : List ℕ) → feed l < length l → lines_of l ≡ take (feed l) l ∷ lines_of (drop (suc (feed l)) l)
unfolding lines_of until
next_line [] h = absurd (omega arith)
next_line (b ∷ bs) h = rw (eqb_swap b 10) (next_one (eqb 10 b) b bs h (next_line bs))

-- ---- a word stands within the line
pub from_in : (l : List ℕ) (place : ℕ) → place ≤ length l → ((word_from l place).start ≤ (word_from l place).end) × ((word_from l place).end ≤ length l)
unfolding word_from
from_in l place h = (omega arith, until_in is_space l (start_from l place) (until_in not_space l place h))

-- ---- the next word by itself: none is left, or one and those behind it
led_some : (w : List ℕ) (ws : List (List ℕ)) → 0 < length w → led w ws ≡ w ∷ ws
led_some [] ws h = absurd (omega arith)
led_some (b ∷ bs) ws h = refl

pub no_word : (l : List ℕ) (place : ℕ) → (word_from l place).start ≡ (word_from l place).end → line_words (drop place l) ≡ []
no_word l place e =
    let b = word_from l place in
    let z : b.end - b.start ≡ 0 = omega arith in
    rw z at (word_at l place)

pub a_word : (l : List ℕ) (place : ℕ) → place ≤ length l → ((word_from l place).start ≡ (word_from l place).end → ⊥)
    → line_words (drop place l) ≡ part l (word_from l place) ∷ line_words (drop (word_from l place).end l)
a_word l place h e =
    let b = word_from l place in
    let k = from_in l place h in
    word_at l place ∙ led_some (part l b) (line_words (drop b.end l))
    (omega (arith, length-take-le (b.end - b.start) (drop b.start l) (omega (arith, length-drop b.start l)), k))

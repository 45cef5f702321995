-- The words of a line are its bytes that are no white space, in their order, none lost and none made, and each word has a byte. White space is
-- said here by its bytes once more, 9 to 13 and 32. Assumes nothing.
use mathlib.Core.Bool.{Bool, true, false, cond, ◌&&◌, or-true, or-false}
use mathlib.Core.List.{List, [], ◌∷◌, ◌++◌}
use mathlib.Core.Path.{◌≡◌, refl, ap, ◌∙◌}
use Prim.Native.Nat.{ℕ, ◌≤◌}
use borrow.Author.Tests.{leb-true, le-leb, eq-eqb, ne_eqb}
use lib.Dec.{leb}
use Rattle.script_words.specs.Words.{is_space, joined, begins, line_words}

-- a byte is no white space
abbrev pub Mark : ℕ → Type 0
Mark b = (9 ≤ b → b ≤ 13 → ⊥) × (b ≡ 32 → ⊥)

-- every byte of a list is none
unfoldable pub Marks : List ℕ → Type 0
Marks [] = Unit {0}
Marks (b ∷ bs) = Mark b × Marks bs

-- a word has a byte, and no white space
unfoldable pub IsWord : List ℕ → Type 0
IsWord [] = ⊥
IsWord (b ∷ bs) = Mark b × Marks bs

unfoldable pub AllWords : List (List ℕ) → Type 0
AllWords [] = Unit {0}
AllWords (w ∷ ws) = IsWord w × AllWords ws

mark : (b : ℕ) → is_space b ≡ false → Mark b
unfolding is_space
mark b e = (
  λ h k. let f : true ≡ false = rw (le-leb 9 b h, le-leb b 13 k) at e in cc,
  λ h. let f : true ≡ false = rw (eq-eqb b 32 h, or-true) at e in cc,
)

mark_back : (b : ℕ) → Mark b → is_space b ≡ false
unfolding is_space
mark_back b m = rw (ne_eqb b 32 m.1, or-false) (by_bound (leb 9 b) refl (leb b 13) refl)
  where
    by_bound : (p : Bool) → leb 9 b ≡ p → (q : Bool) → leb b 13 ≡ q → p && q ≡ false
    by_bound true e true f = absurd (m.0 (leb-true 9 b e) (leb-true b 13 f))
    by_bound true e false f = refl
    by_bound false e q f = refl

-- white space is exactly the bytes 9 to 13 and 32
pub space_exactly : (b : ℕ) → (is_space b ≡ false → Mark b) × (Mark b → is_space b ≡ false)
space_exactly b = (mark b, mark_back b)

word_marks : (w : List ℕ) → IsWord w → Marks w
unfolding IsWord Marks
word_marks [] h = absurd h
word_marks (b ∷ bs) h = h

joined_words : (b : ℕ) (ws : List (List ℕ)) → Mark b → AllWords ws → AllWords (joined b ws)
unfolding joined AllWords IsWord Marks
joined_words b [] m h = ((m, tt), tt)
joined_words b (w ∷ ws) m h = ((m, word_marks w h.0), h.1)

-- no word of a line is empty or holds white space
pub words_are_words : (l : List ℕ) → AllWords (line_words l)
unfolding line_words AllWords IsWord Marks
words_are_words [] = tt
words_are_words (b ∷ bs) = by_byte (is_space b) refl (begins bs) (words_are_words bs)
  where
    by_byte : (s : Bool) → is_space b ≡ s → (t : Bool) → AllWords (line_words bs)
        → AllWords (cond s (line_words bs) (cond t (joined b (line_words bs)) ((b ∷ []) ∷ line_words bs)))
    by_byte true e t h = h
    by_byte false e true h = joined_words b (line_words bs) (mark b e) h
    by_byte false e false h = ((mark b e, tt), h)

-- ---- no byte is lost

-- the bytes of words, one word after the other, and the bytes of a line that are no white space
unfoldable pub bytes_of : List (List ℕ) → List ℕ
bytes_of [] = []
bytes_of (w ∷ ws) = w ++ bytes_of ws

unfoldable pub marks_of : List ℕ → List ℕ
marks_of [] = []
marks_of (b ∷ bs) = cond (is_space b) (marks_of bs) (b ∷ marks_of bs)

bytes_joined : (b : ℕ) (ws : List (List ℕ)) → bytes_of (joined b ws) ≡ b ∷ bytes_of ws
unfolding bytes_of joined
bytes_joined b [] = refl
bytes_joined b (w ∷ ws) = refl

pub words_keep_bytes : (l : List ℕ) → bytes_of (line_words l) ≡ marks_of l
unfolding line_words bytes_of marks_of
words_keep_bytes [] = refl
words_keep_bytes (b ∷ bs) = by_byte (is_space b) (begins bs) (words_keep_bytes bs)
  where
    by_byte : (s t : Bool) → bytes_of (line_words bs) ≡ marks_of bs
        → bytes_of (cond s (line_words bs) (cond t (joined b (line_words bs)) ((b ∷ []) ∷ line_words bs))) ≡ cond s (marks_of bs) (b ∷ marks_of bs)
    by_byte true t h = h
    by_byte false true h = bytes_joined b (line_words bs) ∙ ap (λ (l : List ℕ). b ∷ l) h
    by_byte false false h = ap (λ (l : List ℕ). b ∷ l) h

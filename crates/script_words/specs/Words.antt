-- A text cut into lines, a line cut at its comment, stripped, and cut into words (RULES, "Fault scripts"). Bytes are numbers.
-- Assumes nothing.
use Rattle.std.specs.Prelude.{Bool, false, cond, not, ◌&&◌, ◌||◌, List, [], ◌∷◌, ℕ, suc, ◌+◌, ◌-◌, ◌<◌, ◌≡◌, leb, eqb, take, drop}
use Rattle.script_words.specs.declared.Bounds.{Bounds}

-- white space: the bytes 9 to 13 and 32
unfoldable pub is_space : ℕ → Bool
is_space b = leb 9 b && leb b 13 || eqb b 32

unfoldable pub not_space : ℕ → Bool
not_space b = not (is_space b)

-- how many bytes stand before the first one that a test stops at; all of them where it stops at none
unfoldable pub until : (ℕ → Bool) → List ℕ → ℕ
until stop [] = 0
until stop (b ∷ bs) = cond (stop b) 0 (suc (until stop bs))

-- what stands before the first byte b, and all where there is none
unfoldable pub cut_at : ℕ → List ℕ → List ℕ
cut_at b l = take (until (eqb b) l) l

-- a byte put in front of the first list of some
unfoldable pub joined : ℕ → List (List ℕ) → List (List ℕ)
joined b [] = (b ∷ []) ∷ []
joined b (l ∷ ls) = (b ∷ l) ∷ ls

-- the lines of a text: each ends at a line feed, byte 10, and the last at the end of the text
unfoldable pub lines_of : List ℕ → List (List ℕ)
lines_of [] = [] ∷ []
lines_of (b ∷ bs) = cond (eqb b 10) ([] ∷ lines_of bs) (joined b (lines_of bs))

-- a line without the white space in front of it
unfoldable pub strip_front : List ℕ → List ℕ
strip_front [] = []
strip_front (b ∷ bs) = cond (is_space b) (strip_front bs) (b ∷ bs)

-- a line without the white space behind it: a byte stays where it is none itself or one stays behind it
unfoldable pub kept_before : ℕ → List ℕ → List ℕ
kept_before b [] = cond (is_space b) [] (b ∷ [])
kept_before b (x ∷ xs) = b ∷ x ∷ xs

unfoldable pub strip_end : List ℕ → List ℕ
strip_end [] = []
strip_end (b ∷ bs) = kept_before b (strip_end bs)

unfoldable pub strip : List ℕ → List ℕ
strip l = strip_front (strip_end l)

-- whether a list begins with a byte that is no white space
unfoldable pub begins : List ℕ → Bool
begins [] = false
begins (b ∷ bs) = not_space b

-- the words of a line: its runs of bytes that are no white space
unfoldable pub line_words : List ℕ → List (List ℕ)
line_words [] = []
line_words (b ∷ bs) =
    cond (is_space b) (line_words bs) (cond (begins bs) (joined b (line_words bs)) ((b ∷ []) ∷ line_words bs))

-- ---- the same by places, for the word finder

-- where the first word at or after a place starts and ends; both are the line's end where there is none
abbrev pub start_from : List ℕ → ℕ → ℕ
start_from l place = place + until not_space (drop place l)

unfoldable pub word_from : List ℕ → ℕ → Bounds
word_from l place = record { start = start_from l place; end = start_from l place + until is_space (drop (start_from l place) l) }

-- the bytes between two places
abbrev pub part : List ℕ → Bounds → List ℕ
part l b = take (b.end - b.start) (drop b.start l)

-- the words of a line from a place on
abbrev pub words_from : List ℕ → ℕ → List (List ℕ)
words_from l place = line_words (drop place l)

-- a closure that is asked of each byte answers as a test does
abbrev pub Stops : (ℕ → Bool → Type 0) → (ℕ → Bool) → Type 0
Stops answers stop = (b : ℕ) (yes : Bool) → b < 256 → answers b yes → yes ≡ stop b

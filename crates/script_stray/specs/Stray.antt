-- The line that refusal 2 tells (RULES, "Fault scripts"): the first with a byte over 127 before its first `#`, or with something behind it that
-- is no UTF-8. A line ends at a line feed, in a comment too. Assumes nothing.
use Rattle.std.specs.Prelude.{Bool, false, cond, not, ◌||◌, List, [], ◌∷◌, ℕ, zero, suc, ltb, eqb, drop, Option, None, Some}
use Rattle.script_words.specs.Words.{until, cut_at, lines_of}
use Rattle.script_utf8.specs.Utf8.{is_utf8}

-- a line's comment: what stands behind its first `#`, byte 35, and nothing where there is none
unfoldable pub comment_of : List ℕ → List ℕ
comment_of l = drop (suc (until (eqb 35) l)) l

-- whether a byte is over 127
unfoldable pub has_over : List ℕ → Bool
has_over [] = false
has_over (b ∷ bs) = ltb 127 b || has_over bs

-- whether a line is stray: its comment begins at its first `#`
unfoldable pub is_stray : List ℕ → Bool
is_stray l = has_over (cut_at 35 l) || not (is_utf8 (comment_of l))

-- the number of the first line that is, the first of the lines being line n, or 0 where none is
unfoldable pub first_stray : ℕ → List (List ℕ) → ℕ
first_stray n [] = 0
first_stray n (l ∷ ls) = cond (is_stray l) n (first_stray (suc n) ls)

unfoldable pub stray_line : List ℕ → ℕ
stray_line text = first_stray 1 (lines_of text)

-- a line's number as the code has it: none for 0
unfoldable pub line_told : ℕ → Option ℕ
line_told zero = None
line_told (suc n) = Some (suc n)

-- Cutting a text into lines loses nothing and leaves no line feed: the lines with a line feed between each two are the text again, and no line
-- holds one. So each line is what stands between two line feeds. Assumes nothing.
use mathlib.Core.Bool.{Bool, true, false, cond}
use mathlib.Core.List.{List, [], ◌∷◌, ◌++◌}
use mathlib.Core.Path.{◌≡◌, refl, ap, ◌∙◌}
use Prim.Native.Nat.{ℕ, ◌≤◌}
use native.Mathlib.Omega.{arith}
use borrow.Author.Tests.{eqb-true, eqb-false}
use lib.Dec.{eqb}
use lib.ListN.{length}
use Rattle.script_words.specs.Words.{joined, lines_of}

-- lines that come after another, each behind a line feed, byte 10
unfoldable pub behind : List (List ℕ) → List ℕ
behind [] = []
behind (l ∷ ls) = 10 ∷ (l ++ behind ls)

-- lines with a line feed between each two
unfoldable pub text_of : List (List ℕ) → List ℕ
text_of [] = []
text_of (l ∷ ls) = l ++ behind ls

-- no byte of a line is a line feed, and so of every line
unfoldable pub NoFeed : List ℕ → Type 0
NoFeed [] = Unit {0}
NoFeed (b ∷ bs) = (b ≡ 10 → ⊥) × NoFeed bs

unfoldable pub AllNoFeed : List (List ℕ) → Type 0
AllNoFeed [] = Unit {0}
AllNoFeed (l ∷ ls) = NoFeed l × AllNoFeed ls

-- a text has a line, be it an empty one
some_joined : (b : ℕ) (ls : List (List ℕ)) → 1 ≤ length (joined b ls)
unfolding joined
some_joined b [] = omega arith
some_joined b (l ∷ ls) = omega arith

pub some_line : (text : List ℕ) → 1 ≤ length (lines_of text)
unfolding lines_of
some_line [] = omega arith
some_line (b ∷ bs) = by_byte (eqb b 10)
  where
    by_byte : (q : Bool) → 1 ≤ length (cond q ([] ∷ lines_of bs) (joined b (lines_of bs)))
    by_byte true = omega arith
    by_byte false = some_joined b (lines_of bs)

-- ---- the lines are the text

text_joined : (b : ℕ) (ls : List (List ℕ)) → text_of (joined b ls) ≡ b ∷ text_of ls
unfolding text_of behind joined
text_joined b [] = refl
text_joined b (l ∷ ls) = refl

feed_first : (ls : List (List ℕ)) → 1 ≤ length ls → behind ls ≡ 10 ∷ text_of ls
unfolding text_of behind
feed_first [] h = absurd (omega arith)
feed_first (l ∷ ls) h = refl

pub lines_are_text : (text : List ℕ) → text_of (lines_of text) ≡ text
unfolding lines_of text_of behind
lines_are_text [] = refl
lines_are_text (b ∷ bs) = by_byte (eqb b 10) refl (lines_are_text bs)
  where
    by_byte : (q : Bool) → eqb b 10 ≡ q → text_of (lines_of bs) ≡ bs → text_of (cond q ([] ∷ lines_of bs) (joined b (lines_of bs))) ≡ b ∷ bs
    by_byte true e h = let z : b ≡ 10 = eqb-true b 10 e in feed_first (lines_of bs) (some_line bs) ∙ rw (z, h)
    by_byte false e h = text_joined b (lines_of bs) ∙ ap (λ (l : List ℕ). b ∷ l) h

-- ---- no line holds a line feed

free_joined : (b : ℕ) (ls : List (List ℕ)) → (b ≡ 10 → ⊥) → AllNoFeed ls → AllNoFeed (joined b ls)
unfolding joined AllNoFeed NoFeed
free_joined b [] n h = ((n, tt), tt)
free_joined b (l ∷ ls) n h = ((n, h.0), h.1)

pub lines_hold_no_feed : (text : List ℕ) → AllNoFeed (lines_of text)
unfolding lines_of AllNoFeed NoFeed
lines_hold_no_feed [] = (tt, tt)
lines_hold_no_feed (b ∷ bs) = by_byte (eqb b 10) refl (lines_hold_no_feed bs)
  where
    by_byte : (q : Bool) → eqb b 10 ≡ q → AllNoFeed (lines_of bs) → AllNoFeed (cond q ([] ∷ lines_of bs) (joined b (lines_of bs)))
    by_byte true e h = (tt, h)
    by_byte false e h = free_joined b (lines_of bs) (eqb-false b 10 e) h

-- The walk finds the line that the definition tells: a line is stray from a spot on exactly if the walk over what is left of it ends where no
-- line may end. Assumes nothing.
use mathlib.Core.Bool.{Bool, true, false, cond, not, ◌||◌, false≢true}
use mathlib.Core.List.{List, [], ◌∷◌}
use mathlib.Core.Path.{◌≡◌, refl, sym, ap, ◌∙◌}
use Prim.Native.Nat.{ℕ, suc}
use native.Mathlib.Omega.{arith}
use borrow.Author.Tests.{ltb-true, ltb-false, ne_eqb}
use lib.Dec.{ltb, eqb}
use Rattle.script_words.specs.Words.{until, cut_at, joined, lines_of}
use Rattle.script_utf8.specs.Utf8.{in_range, Awaiting, between, inside, ill_formed, after_this, after_byte, may_end, utf8_from}
use Rattle.script_stray.specs.Stray.{comment_of, has_over, is_stray, first_stray, stray_line}
use Rattle.script_stray.specs.Walk.{spot_of, spot_after, spot_ends, stray_from}
use Rattle.script_stray.specs.declared.Spot.{Spot}
use Rattle.script_stray.specs.declared.Spot.TheVariants.{Words, Between, Astray}
use Rattle.script_utf8.proofs.Exact.{at_1}

-- whether what is left of a line is stray, from a spot on
unfoldable pub stray_on : Spot → List ℕ → Bool
stray_on p [] = not (spot_ends p)
stray_on p (b ∷ bs) = stray_on (spot_after p b) bs

-- ---- in a comment it is so exactly if the UTF-8 is ill formed

pub spot_of_lem : (s : Awaiting) (b : ℕ) → spot_after (spot_of s) b ≡ spot_of (after_byte s b)
unfolding spot_after after_byte
spot_of_lem between b = refl
spot_of_lem (inside k lo hi) b = by_range (in_range lo hi b)
  where
    by_range : (t : Bool) → cond t (spot_of (after_this k)) Astray ≡ spot_of (cond t (after_this k) ill_formed)
    by_range true = refl
    by_range false = refl
spot_of_lem ill_formed b = refl

comment_stray : (s : Awaiting) (l : List ℕ) → stray_on (spot_of s) l ≡ not (utf8_from s l)
unfolding stray_on utf8_from spot_ends may_end
comment_stray between [] = refl
comment_stray (inside k lo hi) [] = refl
comment_stray ill_formed [] = refl
comment_stray s (b ∷ bs) = ap (λ p. stray_on p bs) (spot_of_lem s b) ∙ comment_stray (after_byte s b) bs

-- ---- and before its `#` by the definition

astray_stays : (l : List ℕ) → stray_on Astray l ≡ true
unfolding stray_on spot_after spot_ends
astray_stays [] = refl
astray_stays (b ∷ bs) = astray_stays bs

line_stray : (l : List ℕ) → stray_on Words l ≡ is_stray l
unfolding stray_on spot_ends spot_after is_stray comment_of cut_at until has_over utf8_from may_end
line_stray [] = refl
line_stray (b ∷ bs) = by_byte (ltb 127 b) refl (eqb 35 b) refl (line_stray bs)
  where
    by_byte : (t : Bool) → ltb 127 b ≡ t → (q : Bool) → eqb 35 b ≡ q → stray_on Words bs ≡ is_stray bs → stray_on (spot_after Words b) bs ≡ is_stray (b ∷ bs)
    by_byte true e q f h =
        let x = ltb-true 127 b e in
        rw (e, ne_eqb 35 b (λ z. omega (arith, x, z)))
        (astray_stays bs ∙ sym (ap (λ t. (t || has_over (cut_at 35 bs)) || not (utf8_from between (comment_of bs))) e))
    by_byte false e true f h = rw (e, f) (comment_stray between bs)
    by_byte false e false f h =
        rw (e, f) (h ∙ sym (ap (λ t. (t || has_over (cut_at 35 bs)) || not (utf8_from between (comment_of bs))) e))

-- ---- line by line

unfoldable pub stray_lines : Spot → ℕ → List (List ℕ) → ℕ
stray_lines p n [] = cond (stray_on p []) n 0
stray_lines p n (l ∷ ls) = cond (stray_on p l) n (first_stray (suc n) ls)

from_words : (n : ℕ) (ls : List (List ℕ)) → stray_lines Words n ls ≡ first_stray n ls
unfolding stray_lines stray_on spot_ends first_stray
from_words n [] = refl
from_words n (l ∷ ls) = rw (line_stray l)

a_byte_more : (p : Spot) (n b : ℕ) (ls : List (List ℕ)) → stray_lines p n (joined b ls) ≡ stray_lines (spot_after p b) n ls
unfolding stray_lines stray_on joined first_stray
a_byte_more p n b [] = refl
a_byte_more p n b (l ∷ ls) = refl

turned : (t : Bool) (x y : ℕ) → cond t x y ≡ cond (not t) y x
turned true x y = refl
turned false x y = refl

pub walks : (n : ℕ) (p : Spot) (bs : List ℕ) → stray_from n p bs ≡ stray_lines p n (lines_of bs)
unfolding stray_from lines_of stray_lines stray_on first_stray
walks n p [] = turned (spot_ends p) 0 n
walks n p (b ∷ bs) = by_byte (eqb b 10) (walks (suc n) Words bs ∙ from_words (suc n) (lines_of bs)) (walks n (spot_after p b) bs)
  where
    by_byte : (q : Bool) → stray_from (suc n) Words bs ≡ first_stray (suc n) (lines_of bs)
        → stray_from n (spot_after p b) bs ≡ stray_lines (spot_after p b) n (lines_of bs)
        → cond q (cond (spot_ends p) (stray_from (suc n) Words bs) n) (stray_from n (spot_after p b) bs)
        ≡ stray_lines p n (cond q ([] ∷ lines_of bs) (joined b (lines_of bs)))
    by_byte true h k = rw h (turned (spot_ends p) (first_stray (suc n) (lines_of bs)) n)
    by_byte false h k = k ∙ sym (a_byte_more p n b (lines_of bs))

pub walk_finds : (text : List ℕ) → stray_line text ≡ stray_from 1 Words text
unfolding stray_line
walk_finds text = sym (walks 1 Words text ∙ from_words 1 (lines_of text))

-- ---- a text without a byte over 127 has none

-- two tests that both fail
pub neither : (p q : Bool) → (p || q) ≡ false → (p ≡ false) × (q ≡ false)
neither true q e = absurd (false≢true (sym e))
neither false q e = (refl, e)

after_plain : (b : ℕ) → ltb 127 b ≡ false → spot_after Between b ≡ Between
unfolding spot_after
after_plain b e = ap spot_of (at_1 b (ltb-false 127 b e))

plain : (n : ℕ) (bs : List ℕ) → has_over bs ≡ false → (stray_from n Words bs ≡ 0) × (stray_from n Between bs ≡ 0)
unfolding stray_from spot_ends spot_after has_over
plain n [] h = (refl, refl)
plain n (b ∷ bs) h =
    let a = neither (ltb 127 b) (has_over bs) h in
    let m = plain (suc n) bs a.1 in
    let k = plain n bs a.1 in
    (in_words (eqb b 10) (eqb 35 b) a.0 m.0 k, in_comment (eqb b 10) a.0 m.0 k.1)
  where
    in_words : (q t : Bool) → ltb 127 b ≡ false → stray_from (suc n) Words bs ≡ 0
        → (stray_from n Words bs ≡ 0) × (stray_from n Between bs ≡ 0)
        → cond q (stray_from (suc n) Words bs) (stray_from n (cond (ltb 127 b) Astray (cond t Between Words)) bs) ≡ 0
    in_words true t e m k = m
    in_words false true e m k = rw e k.1
    in_words false false e m k = rw e k.0

    in_comment : (q : Bool) → ltb 127 b ≡ false → stray_from (suc n) Words bs ≡ 0 → stray_from n Between bs ≡ 0
        → cond q (stray_from (suc n) Words bs) (stray_from n (spot_after Between b) bs) ≡ 0
    in_comment true e m k = m
    in_comment false e m k = ap (λ p. stray_from n p bs) (after_plain b e) ∙ k

pub plain_is_fine : (text : List ℕ) → has_over text ≡ false → stray_line text ≡ 0
plain_is_fine text h = walk_finds text ∙ (plain 1 text h).0

-- The stray line by a walk over the bytes, for the code: where it stands, byte by byte. proofs/Walking says that it finds the line that Stray
-- defines. Assumes nothing.
use Rattle.std.specs.Prelude.{Bool, true, false, cond, not, List, [], ◌∷◌, ℕ, suc, ltb, eqb}
use Rattle.script_utf8.specs.Utf8.{in_range, Awaiting, between, inside, ill_formed, sequences, after_first, after_this}
use Rattle.script_stray.specs.declared.Spot.{Spot}
use Rattle.script_stray.specs.declared.Spot.TheVariants.{Words, Between, Inside, Astray}

-- in a comment, by what its UTF-8 awaits
abbrev pub spot_of : Awaiting → Spot
spot_of between = Between
spot_of (inside k lo hi) = Inside k lo hi
spot_of ill_formed = Astray

-- behind one byte more of the line
unfoldable pub spot_after : Spot → ℕ → Spot
spot_after Words b = cond (ltb 127 b) Astray (cond (eqb 35 b) Between Words)
spot_after Between b = spot_of (after_first b sequences)
spot_after (Inside k lo hi) b = cond (in_range lo hi b) (spot_of (after_this k)) Astray
spot_after Astray b = Astray

-- whether a line may end there
unfoldable pub spot_ends : Spot → Bool
spot_ends Words = true
spot_ends Between = true
spot_ends (Inside k lo hi) = false
spot_ends Astray = false

-- the first stray line, from a spot of line n on
unfoldable pub stray_from : ℕ → Spot → List ℕ → ℕ
stray_from n p [] = cond (spot_ends p) 0 n
stray_from n p (b ∷ bs) = cond (eqb b 10) (cond (spot_ends p) (stray_from (suc n) Words bs) n) (stray_from n (spot_after p b) bs)

-- whether no byte over 127 stands before a `#`, from a place in a line's words, or in a comment, which ends at a line feed
unfoldable pub words_plain : (comment : Bool) → List ℕ → Bool
words_plain comment [] = true
words_plain false (b ∷ bs) = cond (ltb 127 b) false (words_plain (eqb 35 b) bs)
words_plain true (b ∷ bs) = words_plain (not (eqb 10 b)) bs

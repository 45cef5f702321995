-- Between two words of a line there is white space alone, and some of it; the words are the only ones of which that holds; and what is
-- stripped is white space alone, and leaves none at the ends. Assumes nothing.
use mathlib.Core.Bool.{Bool, true, false, cond, not}
use mathlib.Core.List.{List, [], ◌∷◌, ◌++◌, append_assoc}
use mathlib.Core.Path.{◌≡◌, refl, sym, ap, ◌∙◌, subst}
use Prim.Native.Nat.{ℕ}
use native.Mathlib.Omega.{arith}
use Rattle.script_words.specs.Words.{is_space, not_space, joined, strip_front, kept_before, strip_end, strip, begins, line_words}
use Rattle.script_words.proofs.Runs.{Mark, Marks, IsWord, space_exactly}

-- a byte is white space, and every byte of a list is
abbrev pub Space : ℕ → Type 0
Space b = Mark b → ⊥

unfoldable pub Spaces : List ℕ → Type 0
Spaces [] = Unit {0}
Spaces (b ∷ bs) = Space b × Spaces bs

-- a word may end here: at the line's end, or before white space
unfoldable pub Parted : List ℕ → Type 0
Parted [] = Unit {0}
Parted (b ∷ bs) = Space b

-- a line with these words: white space, a word, some white space or the line's end, and so on
pub record Next (w l : List ℕ) : Type 0 where
  pub gap : List ℕ
  pub rest : List ℕ
  pub whole : l ≡ gap ++ (w ++ rest)
  pub spaces : Spaces gap
  pub word : IsWord w
  pub parted : Parted rest

unfoldable pub Laid : List (List ℕ) → List ℕ → Type 0
Laid [] l = Spaces l
Laid (w ∷ ws) l = (n : Next w l) × Laid ws n.rest

-- ---- a byte by its test

space : (b : ℕ) → is_space b ≡ true → Space b
space b e m = let z : true ≡ false = sym e ∙ (space_exactly b).1 m in let f : ◌≡◌ {A = ℕ} 0 1 = cc in omega arith

is_space_lem : (b : ℕ) → Space b → is_space b ≡ true
is_space_lem b h = go (is_space b) refl
  where
    go : (s : Bool) → is_space b ≡ s → s ≡ true
    go true e = refl
    go false e = absurd (h ((space_exactly b).0 e))

-- ---- the words of a line are laid in it

behind : (b : ℕ) (ws : List (List ℕ)) (l : List ℕ) → Space b → Laid ws l → Laid ws (b ∷ l)
unfolding Laid Spaces
behind b [] l s h = (s, h)
behind b (w ∷ ws) l s h =
    let n = h.0 in (
      record {
        gap = b ∷ n.gap;
        rest = n.rest;
        whole = ap (λ (x : List ℕ). b ∷ x) n.whole;
        spaces = (s, n.spaces);
        word = n.word;
        parted = n.parted;
      },
      h.1,
    )

-- a list that begins with a word has no gap in front
no_gap : (g x l : List ℕ) → begins l ≡ true → l ≡ g ++ x → Spaces g → l ≡ x
unfolding begins not_space Spaces
no_gap [] x l h e s = e
no_gap (b ∷ g) x l h e s =
    let k : not (is_space b) ≡ true = subst (λ (m : List ℕ). begins m ≡ true) e h in
    let z : not true ≡ true = rw (is_space_lem b s.0) at k in
    let f : ◌≡◌ {A = ℕ} 0 1 = cc in absurd (omega arith)

all_space : (l : List ℕ) → begins l ≡ true → Spaces l → ⊥
unfolding begins not_space Spaces
all_space [] h s = let f : ◌≡◌ {A = ℕ} 0 1 = cc in omega arith
all_space (b ∷ l) h s =
    let z : not true ≡ true = rw (is_space_lem b s.0) at h in
    let f : ◌≡◌ {A = ℕ} 0 1 = cc in omega arith

with_byte : (b : ℕ) (w : List ℕ) → Mark b → IsWord w → IsWord (b ∷ w)
unfolding IsWord Marks
with_byte b [] m h = absurd h
with_byte b (x ∷ w) m h = (m, h)

longer : (b : ℕ) (ws : List (List ℕ)) (l : List ℕ) → Mark b → begins l ≡ true → Laid ws l → Laid (joined b ws) (b ∷ l)
unfolding Laid joined Spaces
longer b [] l m h k = absurd (all_space l h k)
longer b (w ∷ ws) l m h k =
    let n = k.0 in (
      record {
        gap = [];
        rest = n.rest;
        whole = ap (λ (x : List ℕ). b ∷ x) (no_gap n.gap (w ++ n.rest) l h n.whole n.spaces);
        spaces = tt;
        word = with_byte b w m n.word;
        parted = n.parted;
      },
      k.1,
    )

ends : (l : List ℕ) → begins l ≡ false → Parted l
unfolding begins not_space Parted
ends [] h = tt
ends (b ∷ l) h = go (is_space b) refl
  where
    go : (s : Bool) → is_space b ≡ s → Space b
    go true e = space b e
    go false e = let z : not false ≡ false = rw e at h in let f : ◌≡◌ {A = ℕ} 0 1 = cc in absurd (omega arith)

alone : (b : ℕ) (ws : List (List ℕ)) (l : List ℕ) → Mark b → begins l ≡ false → Laid ws l → Laid ((b ∷ []) ∷ ws) (b ∷ l)
unfolding Laid Spaces IsWord Marks
alone b ws l m h k = (record { gap = []; rest = l; whole = refl; spaces = tt; word = (m, tt); parted = ends l h }, k)

no_word : Laid [] []
unfolding Laid Spaces
no_word = tt

pub words_laid : (l : List ℕ) → Laid (line_words l) l
unfolding line_words
words_laid [] = no_word
words_laid (b ∷ bs) = by_byte (is_space b) refl (begins bs) refl (words_laid bs)
  where
    by_byte : (s : Bool) → is_space b ≡ s → (t : Bool) → begins bs ≡ t → Laid (line_words bs) bs
        → Laid (cond s (line_words bs) (cond t (joined b (line_words bs)) ((b ∷ []) ∷ line_words bs))) (b ∷ bs)
    by_byte true e t f h = behind b (line_words bs) bs (space b e) h
    by_byte false e true f h = longer b (line_words bs) bs ((space_exactly b).0 e) f h
    by_byte false e false f h = alone b (line_words bs) bs ((space_exactly b).0 e) f h

-- ---- and no others are

skipped : (g x : List ℕ) → Spaces g → line_words (g ++ x) ≡ line_words x
unfolding line_words Spaces
skipped [] x s = refl
skipped (b ∷ g) x s = rw (is_space_lem b s.0) (skipped g x s.1)

not_begins : (l : List ℕ) → Parted l → begins l ≡ false
unfolding begins not_space Parted
not_begins [] h = refl
not_begins (b ∷ l) h = rw (is_space_lem b h)

begun : (c : ℕ) (l : List ℕ) → Mark c → begins (c ∷ l) ≡ true
unfolding begins not_space
begun c l m = rw ((space_exactly c).1 m)

put : (b : ℕ) (w : List ℕ) (ws : List (List ℕ)) → joined b (w ∷ ws) ≡ (b ∷ w) ∷ ws
unfolding joined
put b w ws = refl

first : (b : ℕ) (w x : List ℕ) → Mark b → Marks w → Parted x → line_words ((b ∷ w) ++ x) ≡ (b ∷ w) ∷ line_words x
unfolding line_words Marks
first b [] x m ms p = rw ((space_exactly b).1 m, not_begins x p)
first b (c ∷ w) x m ms p =
    rw ((space_exactly b).1 m, begun c (w ++ x) ms.0)
    (ap (λ (ws : List (List ℕ)). joined b ws) (first c w x ms.0 ms.1 p) ∙ put b (c ∷ w) (line_words x))

word_first : (w x : List ℕ) → IsWord w → Parted x → line_words (w ++ x) ≡ w ∷ line_words x
unfolding IsWord
word_first [] x h p = absurd h
word_first (b ∷ w) x h p = first b w x h.0 h.1 p

no_words : (l : List ℕ) → Spaces l → line_words l ≡ []
unfolding line_words Spaces
no_words [] s = refl
no_words (b ∷ l) s = rw (is_space_lem b s.0) (no_words l s.1)

pub only_words : (ws : List (List ℕ)) (l : List ℕ) → Laid ws l → line_words l ≡ ws
unfolding Laid
only_words [] l h = no_words l h
only_words (w ∷ ws) l h =
    let n = h.0 in
    ap line_words n.whole
    ∙ (skipped n.gap (w ++ n.rest) n.spaces
    ∙ (word_first w n.rest n.word n.parted ∙ ap (λ (x : List (List ℕ)). w ∷ x) (only_words ws n.rest h.1)))

-- ---- what is stripped

pub record Stripped (l bare : List ℕ) : Type 0 where
  pub front : List ℕ
  pub back : List ℕ
  pub whole : l ≡ front ++ (bare ++ back)
  pub before : Spaces front
  pub behind : Spaces back

record Ended (l bare : List ℕ) : Type 0 where
  back : List ℕ
  whole : l ≡ bare ++ back
  spaces : Spaces back

kept_ended : (b : ℕ) (l bare : List ℕ) → Ended l bare → Ended (b ∷ l) (kept_before b bare)
unfolding kept_before Spaces
kept_ended b l (x ∷ xs) e = record { back = e.back; whole = ap (λ (m : List ℕ). b ∷ m) e.whole; spaces = e.spaces }
kept_ended b l [] e = go (is_space b) refl
  where
    go : (s : Bool) → is_space b ≡ s → Ended (b ∷ l) (cond s [] (b ∷ []))
    go true q = record { back = b ∷ e.back; whole = ap (λ (m : List ℕ). b ∷ m) e.whole; spaces = (space b q, e.spaces) }
    go false q = record { back = e.back; whole = ap (λ (m : List ℕ). b ∷ m) e.whole; spaces = e.spaces }

end_stripped : (l : List ℕ) → Ended l (strip_end l)
unfolding strip_end Spaces
end_stripped [] = record { back = []; whole = refl; spaces = tt }
end_stripped (b ∷ l) = kept_ended b l (strip_end l) (end_stripped l)

record Fronted (l bare : List ℕ) : Type 0 where
  front : List ℕ
  whole : l ≡ front ++ bare
  spaces : Spaces front

front_stripped : (l : List ℕ) → Fronted l (strip_front l)
unfolding strip_front Spaces
front_stripped [] = record { front = []; whole = refl; spaces = tt }
front_stripped (b ∷ l) = go (is_space b) refl (front_stripped l)
  where
    go : (s : Bool) → is_space b ≡ s → Fronted l (strip_front l) → Fronted (b ∷ l) (cond s (strip_front l) (b ∷ l))
    go true q f = record { front = b ∷ f.front; whole = ap (λ (m : List ℕ). b ∷ m) f.whole; spaces = (space b q, f.spaces) }
    go false q f = record { front = []; whole = refl; spaces = tt }

-- only white space is
pub strip_spaces : (l : List ℕ) → Stripped l (strip l)
unfolding strip
strip_spaces l =
    let e = end_stripped l in
    let f = front_stripped (strip_end l) in
    record {
      front = f.front;
      back = e.back;
      whole =
          e.whole ∙ (ap (λ (m : List ℕ). m ++ e.back) f.whole ∙ append_assoc f.front (strip_front (strip_end l)) e.back);
      before = f.spaces;
      behind = e.spaces;
    }

-- and no end is left with any: the first byte and the last are marks
unfoldable pub FirstMark : List ℕ → Type 0
FirstMark [] = Unit {0}
FirstMark (b ∷ l) = Mark b

unfoldable pub LastMark : List ℕ → Type 0
LastMark [] = Unit {0}
LastMark (b ∷ []) = Mark b
LastMark (b ∷ c ∷ l) = LastMark (c ∷ l)

first_bare : (l : List ℕ) → FirstMark (strip_front l)
unfolding strip_front FirstMark
first_bare [] = tt
first_bare (b ∷ l) = go (is_space b) refl (first_bare l)
  where
    go : (s : Bool) → is_space b ≡ s → FirstMark (strip_front l) → FirstMark (cond s (strip_front l) (b ∷ l))
    go true q f = f
    go false q f = (space_exactly b).0 q

kept_bare : (b : ℕ) (l : List ℕ) → LastMark l → LastMark (kept_before b l)
unfolding kept_before LastMark
kept_bare b (x ∷ xs) h = h
kept_bare b [] h = go (is_space b) refl
  where
    go : (s : Bool) → is_space b ≡ s → LastMark (cond s [] (b ∷ []))
    go true q = tt
    go false q = (space_exactly b).0 q

end_bare : (l : List ℕ) → LastMark (strip_end l)
unfolding strip_end LastMark
end_bare [] = tt
end_bare (b ∷ l) = kept_bare b (strip_end l) (end_bare l)

shorter_bare : (b : ℕ) (l : List ℕ) → LastMark (b ∷ l) → LastMark l
unfolding LastMark
shorter_bare b [] h = tt
shorter_bare b (c ∷ l) h = h

last_bare : (l : List ℕ) → LastMark l → LastMark (strip_front l)
unfolding strip_front
last_bare [] h = h
last_bare (b ∷ l) h = go (is_space b) (last_bare l (shorter_bare b l h))
  where
    go : (s : Bool) → LastMark (strip_front l) → LastMark (cond s (strip_front l) (b ∷ l))
    go true k = k
    go false k = h

pub strip_bare : (l : List ℕ) → FirstMark (strip l) × LastMark (strip l)
unfolding strip
strip_bare l = (first_bare (strip_end l), last_bare (strip_end l) (end_bare l))

-- Whose reason a refusal carries: where a script is refused for a bad tick or a bad id, the line that is told has that word, the first or
-- the third, and the number reader says of the word just what is told. So the byte told lies within the text. Assumes nothing.
use mathlib.Core.Bool.{Bool, true, false, cond}
use mathlib.Core.List.{List, [], ◌∷◌, ◌++◌, map}
use mathlib.Core.Logic.{◌⊎◌, inl, inr}
use mathlib.Core.Path.{◌≡◌, refl, ap, subst, ◌∙◌}
use Prim.Native.Nat.{ℕ, suc, ◌+◌, ◌/◌, ◌≤◌}
use native.Mathlib.Omega.{arith}
use lib.ListN.{length}
use Rattle.numeral.specs.Reading.{number_of}
use Rattle.numeral.specs.declared.Flaw.{Flaw}
use Rattle.std.specs.Prelude.{Option, Some, None, Result, Ok, Err}
use Rattle.numeral.proofs.Laws.{place_within}
use Rattle.script_words.specs.Words.{cut_at, strip, lines_of, line_words}
use Rattle.script.specs.Faults.{named_by, needs_id}
use Rattle.script.specs.Lines.{Line, event, faulty, with_number, with_words, with_name, with_tick, of_words, line_says}
use Rattle.script.specs.Scripts.{refused_at, refusal_byte, longest, events_of, script_answer}
use Rattle.script.specs.declared.fault.Fault.{Fault}
use Rattle.script.specs.declared.line.Refusal.{Refusal}
use Rattle.script.specs.declared.line.Refusal.TheVariants.{TooLong, BadByte, OneWord, BadTick, UnknownFault, MissingId, BadId, NoRoom}
use Rattle.script.proofs.Most.{spread, spread_lines, words_fit}
use Rattle.script.proofs.FirstFault.{IsEvent, TextStops, long, stray, fault, text_stops}

-- the words of a line
abbrev pub words_in : List ℕ → List (List ℕ)
words_in l = line_words (strip (cut_at 35 l))

-- the first word of some, with a word behind it, is no number for this reason
pub record BadFirst (ws : List (List ℕ)) (flaw : Flaw) : Type 0 where
  pub tick : List ℕ
  pub name : List ℕ
  pub rest : List (List ℕ)
  pub words : ws ≡ tick ∷ name ∷ rest
  pub read : number_of tick ≡ Err flaw

-- the third word of some is no number for this reason; the first is one, and the second names a fault that needs an id
pub record BadThird (ws : List (List ℕ)) (flaw : Flaw) : Type 0 where
  pub tick : List ℕ
  pub name : List ℕ
  pub id : List ℕ
  pub rest : List (List ℕ)
  pub words : ws ≡ tick ∷ name ∷ id ∷ rest
  pub now : ℕ
  pub first : number_of tick ≡ Ok now
  pub named : Fault
  pub second : named_by name ≡ Some named
  pub needs : needs_id named ≡ true
  pub read : number_of id ≡ Err flaw

-- ---- one line
one_way : {A : Type 0} → ◌≡◌ {A = ℕ} 0 1 → A
one_way e = absurd (omega arith)

module _ (tick name : List ℕ) (flaw : Flaw) where
  -- past the tick no refusal is a bad tick
  no_number : (now : ℕ) (f : Fault) (n : Result ℕ Flaw) → with_number now f n ≡ faulty (BadTick flaw) → ⊥
  no_number now f (Err told) e = one_way (cc)
  no_number now f (Ok id) e = one_way (cc)

  no_words : (now : ℕ) (f : Fault) (ws : List (List ℕ)) → with_words now f ws ≡ faulty (BadTick flaw) → ⊥
  no_words now f [] e = one_way (cc)
  no_words now f (w ∷ ws) e = no_number now f (number_of w) e

  no_fault : (now : ℕ) (f : Fault) (b : Bool) (ws : List (List ℕ)) → cond b (with_words now f ws) (event now f) ≡ faulty (BadTick flaw) → ⊥
  no_fault now f true ws e = no_words now f ws e
  no_fault now f false ws e = one_way (cc)

  no_name : (now : ℕ) (n : Option Fault) (ws : List (List ℕ)) → with_name now n ws ≡ faulty (BadTick flaw) → ⊥
  no_name now None ws e = one_way (cc)
  no_name now (Some f) ws e = no_fault now f (needs_id f) ws e

  by_tick : (n : Result ℕ Flaw) (ws : List (List ℕ)) → number_of tick ≡ n → with_tick n name ws ≡ faulty (BadTick flaw)
      → BadFirst (tick ∷ name ∷ ws) flaw
  by_tick (Err told) ws q e =
      let z : told ≡ flaw = cc in
      record { tick = tick; name = name; rest = ws; words = refl; read = q ∙ ap (λ (x : Flaw). Err x) z }
  by_tick (Ok now) ws q e = absurd (no_name now (named_by name) ws e)

  -- and a bad id comes of the third word alone
  module _ (now : ℕ) (first : number_of tick ≡ Ok now) where
    by_number : (f : Fault) → named_by name ≡ Some f → needs_id f ≡ true → (id : List ℕ) (ws : List (List ℕ)) (n : Result ℕ Flaw) → number_of id ≡ n
        → with_number now f n ≡ faulty (BadId flaw) → BadThird (tick ∷ name ∷ id ∷ ws) flaw
    by_number f s t id ws (Err told) q e =
        let z : told ≡ flaw = cc in
        record {
          tick = tick;
          name = name;
          id = id;
          rest = ws;
          words = refl;
          now = now;
          first = first;
          named = f;
          second = s;
          needs = t;
          read = q ∙ ap (λ (x : Flaw). Err x) z;
        }
    by_number f s t id ws (Ok i) q e = one_way (cc)

    by_words : (f : Fault) → named_by name ≡ Some f → (b : Bool) → needs_id f ≡ b → (ws : List (List ℕ))
        → cond b (with_words now f ws) (event now f) ≡ faulty (BadId flaw)
        → BadThird (tick ∷ name ∷ ws) flaw
    by_words f s true t [] e = one_way (cc)
    by_words f s true t (id ∷ ws) e = by_number f s t id ws (number_of id) refl e
    by_words f s false t ws e = one_way (cc)

    by_name : (n : Option Fault) → named_by name ≡ n → (ws : List (List ℕ)) → with_name now n ws ≡ faulty (BadId flaw)
        → BadThird (tick ∷ name ∷ ws) flaw
    by_name None s ws e = one_way (cc)
    by_name (Some f) s ws e = by_words f s (needs_id f) refl ws e

  by_first : (n : Result ℕ Flaw) → number_of tick ≡ n → (ws : List (List ℕ)) → with_tick n name ws ≡ faulty (BadId flaw)
      → BadThird (tick ∷ name ∷ ws) flaw
  by_first (Err told) q ws e = one_way (cc)
  by_first (Ok now) q ws e = by_name now q (named_by name) refl ws e

bad_first : (ws : List (List ℕ)) (flaw : Flaw) → of_words ws ≡ faulty (BadTick flaw) → BadFirst ws flaw
unfolding of_words
bad_first [] flaw e = one_way (cc)
bad_first (tick ∷ []) flaw e = one_way (cc)
bad_first (tick ∷ name ∷ ws) flaw e = by_tick tick name flaw (number_of tick) ws refl e

bad_third : (ws : List (List ℕ)) (flaw : Flaw) → of_words ws ≡ faulty (BadId flaw) → BadThird ws flaw
unfolding of_words
bad_third [] flaw e = one_way (cc)
bad_third (tick ∷ []) flaw e = one_way (cc)
bad_third (tick ∷ name ∷ ws) flaw e = by_first tick name flaw (number_of tick) refl ws e

-- ---- the line told

-- the k-th of a text's lines, counted from 1, is faulty by a refusal; the text is not too long
pub record ToldAt (text : List ℕ) (k : ℕ) (r : Refusal) : Type 0 where
  pub short : length text ≤ longest
  pub before : List (List ℕ)
  pub line : List ℕ
  pub after : List (List ℕ)
  pub split : lines_of text ≡ before ++ line ∷ after
  pub place : k ≡ suc (length before)
  pub says : line_says line ≡ faulty r

-- what is said of a line in the middle is said by a line there
record From (ls : List (List ℕ)) (n : ℕ) (l : Line) : Type 0 where
  before : List (List ℕ)
  line : List ℕ
  after : List (List ℕ)
  split : ls ≡ before ++ line ∷ after
  long : length before ≡ n
  says : line_says line ≡ l

said_from : (ls : List (List ℕ)) (front : List Line) (l : Line) (back : List Line) → map line_says ls ≡ front ++ l ∷ back
    → From ls (length front) l
said_from [] [] l back e = one_way (cc)
said_from [] (f ∷ front) l back e = one_way (cc)
said_from (x ∷ ls) [] l back e = let z : line_says x ≡ l = cc in record { before = []; line = x; after = ls; split = refl; long = refl; says = z }
said_from (x ∷ ls) (f ∷ front) l back e =
    let z : map line_says ls ≡ front ++ l ∷ back = cc in
    let s = said_from ls front l back z in
    record {
      before = x ∷ s.before;
      line = s.line;
      after = s.after;
      split = ap (λ (y : List (List ℕ)). x ∷ y) s.split;
      long = ap suc s.long;
      says = s.says;
    }

-- the refusals that a line's own words meet
abbrev OfWords : Refusal → Type 0
OfWords TooLong = ⊥
OfWords BadByte = ⊥
OfWords OneWord = Unit {0}
OfWords (BadTick flaw) = Unit {0}
OfWords UnknownFault = Unit {0}
OfWords MissingId = Unit {0}
OfWords (BadId flaw) = Unit {0}
OfWords NoRoom = ⊥

told_at : (text : List ℕ) (words : ℕ) (r : Refusal) (k : ℕ) → OfWords r → script_answer text words ≡ refused_at r k → ToldAt text k r
told_at text words r k o e = by_stop (text_stops text words r k e) o
  where
    by_stop : {q : Refusal} {n : ℕ} → TextStops text words q n → OfWords q → ToldAt text n q
    by_stop (long h) o = absurd o
    by_stop (stray h f) o = absurd o
    by_stop {q} {n} (fault h f s w) o = by_why s.why
      where
        by_why : (s.line ≡ faulty q) ⊎ ((q ≡ NoRoom) × IsEvent s.line × (0 + length (events_of s.before) ≡ words / 3))
            → ToldAt text n q
        by_why (inl g) =
            let t = said_from (lines_of text) s.before s.line s.after s.split in
            record {
              short = h;
              before = t.before;
              line = t.line;
              after = t.after;
              split = t.split;
              place = omega (arith, s.place, t.long);
              says = t.says ∙ g;
            }
        by_why (inr v) = absurd (subst OfWords v.0 o)

-- a script that is refused for a bad tick is so for the first word of the line told, and what is told of it is what the number reader says
pub tick_reason : (text : List ℕ) (words : ℕ) (flaw : Flaw) (k : ℕ) → script_answer text words ≡ refused_at (BadTick flaw) k
    → (t : ToldAt text k (BadTick flaw)) × BadFirst (words_in t.line) flaw
unfolding line_says
tick_reason text words flaw k e =
    let t = told_at text words (BadTick flaw) k tt e in
    (t, bad_first (words_in t.line) flaw t.says)

-- and for a bad id the third
pub id_reason : (text : List ℕ) (words : ℕ) (flaw : Flaw) (k : ℕ) → script_answer text words ≡ refused_at (BadId flaw) k
    → (t : ToldAt text k (BadId flaw)) × BadThird (words_in t.line) flaw
unfolding line_says
id_reason text words flaw k e =
    let t = told_at text words (BadId flaw) k tt e in
    (t, bad_third (words_in t.line) flaw t.says)

-- ---- so the byte told lies within the text
spread_part : (before : List (List ℕ)) (l : List ℕ) (after : List (List ℕ)) → suc (length l) ≤ spread (before ++ l ∷ after)
unfolding spread
spread_part [] l after = omega arith
spread_part (b ∷ before) l after = omega (arith, spread_part before l after)

word_long : {text : List ℕ} {k : ℕ} {r : Refusal} (t : ToldAt text k r) (front : List (List ℕ)) (w : List ℕ) (rest : List (List ℕ))
    → words_in t.line ≡ front ++ w ∷ rest → length w ≤ longest
word_long {text} t front w rest e =
    omega (
      arith,
      spread_part front w rest,
      ap spread e,
      words_fit t.line,
      spread_part t.before t.line t.after,
      ap spread t.split,
      spread_lines text,
      t.short,
    )

pub refusal_byte_lem : (text : List ℕ) (words : ℕ) (r : Refusal) (k : ℕ) → script_answer text words ≡ refused_at r k → refusal_byte r ≤ longest
refusal_byte_lem text words TooLong k e = omega arith
refusal_byte_lem text words BadByte k e = omega arith
refusal_byte_lem text words OneWord k e = omega arith
refusal_byte_lem text words (BadTick flaw) k e =
    let t = tick_reason text words flaw k e in
    let b = t.1 in
    omega (arith, word_long t.0 [] b.tick (b.name ∷ b.rest) b.words, place_within b.tick flaw.why flaw.byte b.read)
refusal_byte_lem text words UnknownFault k e = omega arith
refusal_byte_lem text words MissingId k e = omega arith
refusal_byte_lem text words (BadId flaw) k e =
    let t = id_reason text words flaw k e in
    let b = t.1 in
    omega (arith, word_long t.0 (b.tick ∷ b.name ∷ []) b.id b.rest b.words, place_within b.id flaw.why flaw.byte b.read)
refusal_byte_lem text words NoRoom k e = omega arith

-- Which line a refused script tells, and which scripts are accepted. Judging goes from line to line and stops at the first that is faulty or
-- that is an event with no room left, so all lines before it are blank or events, and an event is refused only where as many as the room
-- came before it. Assumes nothing.
use mathlib.Core.Bool.{Bool, true, false, cond}
use mathlib.Core.List.{List, [], ◌∷◌, ◌++◌}
use mathlib.Core.Logic.{◌⊎◌, inl, inr}
use mathlib.Core.Path.{◌≡◌, refl, sym, ap, ◌∙◌}
use Prim.Native.Nat.{ℕ, suc, ◌+◌, ◌/◌, ◌≤◌, ◌<◌}
use native.Mathlib.Omega.{arith}
use borrow.Author.Tests.{ltb-true, ltb-false, lt-ltb, eqb-true, eqb-false}
use lib.Dec.{ltb, eqb}
use lib.ListN.{length, length-append, length-map}
use Rattle.script_words.specs.Words.{lines_of}
use Rattle.std.specs.Prelude.{Some, None, Ok, Err}
use Rattle.script.specs.Lines.{Line, faulty, line_says}
use Rattle.script_stray.specs.Stray.{first_stray, stray_line}
use Rattle.script.specs.Scripts.{Script, refused_at, longest, events_of, lines_judged, said, script_answer}
use Rattle.script.specs.declared.line.Refusal.{Refusal}
use Rattle.script.specs.declared.line.Refusal.TheVariants.{TooLong, BadByte, NoRoom}
use Rattle.script.specs.declared.Refused.{Refused}
use Rattle.script.specs.declared.line.Event.{Event}
use Rattle.script.proofs.Judging.{accepted}

-- a line is an event
abbrev pub IsEvent : Line → Type 0
IsEvent (Ok None) = ⊥
IsEvent (Ok (Some e)) = Unit {0}
IsEvent (Err r) = ⊥

-- a line is blank or an event
abbrev pub Sound : Line → Type 0
Sound (Ok None) = Unit {0}
Sound (Ok (Some e)) = Unit {0}
Sound (Err r) = ⊥

-- no line is faulty
unfoldable pub AllSound : List Line → Type 0
AllSound [] = Unit {0}
AllSound (l ∷ ls) = Sound l × AllSound ls

-- lines that begin at line n, with `found` events before them, stop at line k: every line before it is blank or an event, and it is faulty by
-- the refusal told, or it is an event with exactly as many events before it as there is room for, and the refusal is that there is no room
pub record Stops (room n found : ℕ) (ls : List Line) (r : Refusal) (k : ℕ) : Type 0 where
  pub before : List Line
  pub line : Line
  pub after : List Line
  pub split : ls ≡ before ++ line ∷ after
  pub place : k ≡ n + length before
  pub sound : AllSound before
  pub why : (line ≡ faulty r) ⊎ ((r ≡ NoRoom) × IsEvent line × (found + length (events_of before) ≡ room))

-- a refusal and its line are told once
pub one_refusal : {q r : Refusal} {n k : ℕ} → ◌≡◌ {A = Script} (refused_at q n) (refused_at r k) → (q ≡ r) × (n ≡ k)
one_refusal {q} {r} {n} {k} e =
    let f : ◌≡◌ {A = Refused} (record { refusal = q; line = n }) (record { refusal = r; line = k }) = cc in
    (ap (λ (x : Refused). x.refusal) f, ap (λ (x : Refused). x.line) f)

-- the first line is the one
at_first : (room n found : ℕ) (l : Line) (ls : List Line) (r q : Refusal) (k : ℕ) → refused_at q n ≡ refused_at r k
    → (l ≡ faulty q) ⊎ ((q ≡ NoRoom) × IsEvent l × (found ≡ room)) → Stops room n found (l ∷ ls) r k
unfolding AllSound events_of
at_first room n found l ls r q k e w =
    let t = one_refusal e in
    let z = t.0 in
    let p = t.1 in
    record { before = []; line = l; after = ls; split = refl; place = omega arith; sound = tt; why = rw z at (reason w) }
  where
    reason : (l ≡ faulty q) ⊎ ((q ≡ NoRoom) × IsEvent l × (found ≡ room)) → (l ≡ faulty q) ⊎ ((q ≡ NoRoom) × IsEvent l × (found + 0 ≡ room))
    reason (inl f) = inl f
    reason (inr v) = inr (v.0, v.1, omega (arith, v.2))

module _ (room n found : ℕ) (ls : List Line) (r : Refusal) (k : ℕ) where
  -- a sound line before those that stop
  past_blank : Stops room (suc n) found ls r k → Stops room n found (Ok None ∷ ls) r k
  unfolding AllSound events_of
  past_blank s =
      record { before = Ok None ∷ s.before; line = s.line; after = s.after; split = ap (λ (x : List Line). Ok None ∷ x) s.split; place = omega (arith, s.place); sound = (tt, s.sound); why = s.why }

  past_event : (v : Event) → Stops room (suc n) (suc found) ls r k → Stops room n found (Ok (Some v) ∷ ls) r k
  unfolding AllSound events_of
  past_event v s =
      record { before = Ok (Some v) ∷ s.before; line = s.line; after = s.after; split = ap (λ (x : List Line). Ok (Some v) ∷ x) s.split; place = omega (arith, s.place); sound = (tt, s.sound); why = reason s.why }
    where
      reason : (s.line ≡ faulty r) ⊎ ((r ≡ NoRoom) × IsEvent s.line × (suc found + length (events_of s.before) ≡ room))
          → (s.line ≡ faulty r) ⊎ ((r ≡ NoRoom) × IsEvent s.line × (found + suc (length (events_of s.before)) ≡ room))
      reason (inl g) = inl g
      reason (inr v) = inr (v.0, v.1, omega (arith, v.2))

stops : (room n found : ℕ) (ls : List Line) (r : Refusal) (k : ℕ) → found ≤ room → lines_judged room n found ls ≡ refused_at r k → Stops room n found ls r k
unfolding lines_judged
stops room n found [] r k h e = absurd (cc)
stops room n found (Ok None ∷ ls) r k h e = past_blank room n found ls r k (stops room (suc n) found ls r k h e)
stops room n found (Ok (Some v) ∷ ls) r k h e = by_room (ltb found room) refl e (stops room (suc n) (suc found) ls r k)
  where
    by_room : (b : Bool) → ltb found room ≡ b → cond b (lines_judged room (suc n) (suc found) ls) (refused_at NoRoom n) ≡ refused_at r k
        → (suc found ≤ room → lines_judged room (suc n) (suc found) ls ≡ refused_at r k → Stops room (suc n) (suc found) ls r k)
        → Stops room n found (Ok (Some v) ∷ ls) r k
    by_room true b q i = past_event room n found ls r k v (i (omega (arith, ltb-true found room b)) q)
    by_room false b q i = at_first room n found (Ok (Some v)) ls r NoRoom k q (inr (refl, tt, omega (arith, ltb-false found room b)))
stops room n found (Err q ∷ ls) r k h e = at_first room n found (faulty q) ls r q k e (inl refl)

-- a refusal tells the first line that stops, counted from 1, and it is one of the lines
pub first_fault : (room : ℕ) (ls : List Line) (r : Refusal) (k : ℕ) → lines_judged room 1 0 ls ≡ refused_at r k → Stops room 1 0 ls r k × (k ≤ length ls)
first_fault room ls r k e =
    let s = stops room 1 0 ls r k (omega arith) e in
    let n : length ls ≡ length s.before + suc (length s.after) = ap length s.split ∙ length-append s.before (s.line ∷ s.after) in
    (s, omega (arith, s.place))

-- ---- a whole text that is refused

-- which refusal a text meets, and the line told: it is too long, at line 0; or it is not, and has a stray line, first that one; or it has
-- neither, and is refused at the first of its lines that stops
pub data TextStops (text : List ℕ) (words : ℕ) : Refusal → ℕ → Type 0 where
  long : longest < length text → TextStops text words TooLong 0
  stray : length text ≤ longest → (first_stray 1 (lines_of text) ≡ 0 → ⊥) → TextStops text words BadByte (first_stray 1 (lines_of text))
  fault : {r : Refusal} {k : ℕ} → length text ≤ longest → first_stray 1 (lines_of text) ≡ 0 → Stops (words / 3) 1 0 (said text) r k
      → k ≤ length (lines_of text) → TextStops text words r k

stray_is_first : (text : List ℕ) → stray_line text ≡ first_stray 1 (lines_of text)
unfolding stray_line
stray_is_first text = refl

pub text_stops : (text : List ℕ) (words : ℕ) (r : Refusal) (k : ℕ) → script_answer text words ≡ refused_at r k → TextStops text words r k
unfolding script_answer
text_stops text words r k e = by_test (ltb longest (length text)) refl (eqb (stray_line text) 0) refl e
  where
    by_test : (p : Bool) → ltb longest (length text) ≡ p → (q : Bool) → eqb (stray_line text) 0 ≡ q
        → cond p (refused_at TooLong 0) (cond q (lines_judged (words / 3) 1 0 (said text)) (refused_at BadByte (stray_line text))) ≡ refused_at r k
        → TextStops text words r k
    by_test true f q g h =
        let t = one_refusal h in
        rw (← t.0, ← t.1) (long (ltb-true longest (length text) f))
    by_test false f true g h =
        let s = first_fault (words / 3) (said text) r k h in
        fault (ltb-false longest (length text) f) (sym (stray_is_first text) ∙ eqb-true (stray_line text) 0 g) s.0
        (omega (arith, s.1, length-map (lines_of text) line_says))
    by_test false f false g h =
        let t = one_refusal h in
        let b : first_stray 1 (lines_of text) ≡ k = sym (stray_is_first text) ∙ t.1 in
        rw (← t.0, ← b) (stray (ltb-false longest (length text) f) (λ z. eqb-false (stray_line text) 0 g (stray_is_first text ∙ z)))

-- ---- which lines are accepted

all_sound : (room n found m : ℕ) (ls : List Line) → lines_judged room n found ls ≡ Ok m → AllSound ls
unfolding lines_judged AllSound
all_sound room n found m [] e = tt
all_sound room n found m (Ok None ∷ ls) e = (tt, all_sound room (suc n) found m ls e)
all_sound room n found m (Ok (Some v) ∷ ls) e = (tt, by_room (ltb found room) e (all_sound room (suc n) (suc found) m ls))
  where
    by_room : (b : Bool) → cond b (lines_judged room (suc n) (suc found) ls) (refused_at NoRoom n) ≡ Ok m
        → (lines_judged room (suc n) (suc found) ls ≡ Ok m → AllSound ls) → AllSound ls
    by_room true q h = h q
    by_room false q h = absurd (cc)
all_sound room n found m (Err r ∷ ls) e = absurd (cc)

all_taken : (room n found m : ℕ) (ls : List Line) → AllSound ls → m ≡ found + length (events_of ls) → m ≤ room → lines_judged room n found ls ≡ Ok m
unfolding lines_judged AllSound events_of
all_taken room n found m [] s e h = let z : found ≡ m = omega arith in rw z
all_taken room n found m (Ok None ∷ ls) s e h = all_taken room (suc n) found m ls s.1 e h
all_taken room n found m (Ok (Some v) ∷ ls) s e h =
    rw (lt-ltb found room (omega arith)) (all_taken room (suc n) (suc found) m ls s.1 (omega arith) h)
all_taken room n found m (Err r ∷ ls) s e h = absurd s.0

-- no line is faulty, and n is the number of events, which fit the room
pub record Fits (room n : ℕ) (ls : List Line) : Type 0 where
  pub sound : AllSound ls
  pub counted : n ≡ length (events_of ls)
  pub roomy : n ≤ room

-- lines are accepted with n exactly if so
pub accepted_fits : (room n : ℕ) (ls : List Line) → lines_judged room 1 0 ls ≡ Ok n → Fits room n ls
accepted_fits room n ls e =
    let a = accepted room 1 0 n ls e in
    record { sound = all_sound room 1 0 n ls e; counted = omega (arith, a.0); roomy = a.1 (omega arith) }

pub fits_accepted : (room n : ℕ) (ls : List Line) → Fits room n ls → lines_judged room 1 0 ls ≡ Ok n
fits_accepted room n ls s = all_taken room 1 0 n ls s.sound (omega (arith, s.counted)) s.roomy

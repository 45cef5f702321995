-- Going through a text line by line: what is left of it at a place, and what the lines read so far and those left say together.
-- Assumes nothing.
use mathlib.Core.Bool.{Bool, true, false, cond}
use mathlib.Core.List.{List, [], ◌∷◌}
use mathlib.Core.Logic.{◌⊎◌, inl, inr}
use mathlib.Core.Path.{◌≡◌, refl, ap}
use Prim.Native.Nat.{ℕ, suc, ◌+◌, ◌-◌, ◌≤◌, ◌<◌}
use native.Mathlib.Nat.{eq-or-lt_of_le}
use native.Mathlib.Numerals.{add-one}
use native.Mathlib.Omega.{arith}
use borrow.Author.Tests.{le-leb, lt-leb, ltb-true}
use lib.Dec.{leb, ltb, eqb}
use lib.ListN.{length, take, drop, length-drop}
use lib.Seq.{drop-drop, take_all}
use Rattle.script_words.specs.Words.{until}
use Rattle.std.specs.Prelude.{Some, None, Ok, Err}
use Rattle.script.specs.Lines.{Line, line_says}
use Rattle.script.specs.Scripts.{refused_at, events_of, lines_judged, judged_line, said}
use Rattle.script.specs.declared.line.Refusal.{Refusal}
use Rattle.script.specs.declared.line.Refusal.TheVariants.{NoRoom}
use Rattle.script_words.proofs.Walk.{until_within}
use Rattle.script_words.proofs.Cutting.{last_line, next_line}

-- what the lines from a place on say; behind the last line feed there is one line more, and then none
unfoldable pub left : List ℕ → ℕ → List Line
left text place = cond (leb place (length text)) (said (drop place text)) []

-- where the line at a place ends
abbrev pub line_end : List ℕ → ℕ → ℕ
line_end text place = place + until (eqb 10) (drop place text)

pub left_none : (text : List ℕ) (place : ℕ) → length text < place → left text place ≡ []
unfolding left
left_none text place h = rw (lt-leb place (length text) h)

pub left_all : (text : List ℕ) → said text ≡ left text 0
unfolding left
left_all text = rw (le-leb 0 (length text) (omega arith))

-- the line at a place, and what is left behind it
left_next : (text : List ℕ) (place : ℕ) → place ≤ length text
    → left text place ≡ line_says (take (line_end text place - place) (drop place text)) ∷ left text (line_end text place + 1)
unfolding left
left_next text place h =
    let l = drop place text in
    let n = until (eqb 10) l in
    let z : place + n - place ≡ n = omega arith in
    let k : length l ≡ length text - place = length-drop place text in
    rw (le-leb place (length text) h, z) (by_end (eq-or-lt_of_le (until_within (eqb 10) l)) k)
  where
    by_end : let l = drop place text in let n = until (eqb 10) l in
        (n ≡ length l) ⊎ (n < length l) → length l ≡ length text - place
        → said l ≡ line_says (take n l) ∷ cond (leb (place + n + 1) (length text)) (said (drop (place + n + 1) text)) []
    by_end (inl e) k =
        let l = drop place text in
        let n = until (eqb 10) l in
        rw (lt-leb (place + n + 1) (length text) (omega arith), last_line l e, take_all n l (omega arith))
    by_end (inr s) k =
        let l = drop place text in
        let n = until (eqb 10) l in
        let z : place + n + 1 ≡ place + suc n = omega arith in
        rw (le-leb (place + n + 1) (length text) (omega arith), next_line l s, z) (ap (λ (x : List ℕ). line_says (take n l) ∷ said x) (drop-drop (suc n) place text))

pub left_step : (text : List ℕ) (place e : ℕ) → place ≤ length text → e ≡ line_end text place
    → left text place ≡ line_says (take (e - place) (drop place text)) ∷ left text (e + 1)
left_step text place e h q = rw q (left_next text place h)

-- ---- judging
module _ (room n found : ℕ) where
  pub judged_on : (l : Line) (ls : List Line) (next : ℕ) → judged_line room found l ≡ Ok next → lines_judged room n found (l ∷ ls) ≡ lines_judged room (n + 1) next ls
  unfolding lines_judged
  judged_on (Ok None) ls next e = let z : found ≡ next = cc in rw (add-one n, z)
  judged_on (Ok (Some v)) ls next e = by_room (ltb found room) e
    where
      by_room : (b : Bool) → cond b (Ok (found + 1)) (Err NoRoom) ≡ Ok next → cond b (lines_judged room (suc n) (suc found) ls) (refused_at NoRoom n) ≡ lines_judged room (n + 1) next ls
      by_room true q = let z : found + 1 ≡ next = cc in rw (← z, add-one n, add-one found)
      by_room false q = absurd (cc)
  judged_on (Err r) ls next e = absurd (cc)

  pub judged_stop : (l : Line) (ls : List Line) (r : Refusal) → judged_line room found l ≡ Err r → lines_judged room n found (l ∷ ls) ≡ refused_at r n
  unfolding lines_judged
  judged_stop (Ok None) ls r e = absurd (cc)
  judged_stop (Ok (Some v)) ls r e = by_room (ltb found room) e
    where
      by_room : (b : Bool) → cond b (Ok (found + 1)) (Err NoRoom) ≡ Err r → cond b (lines_judged room (suc n) (suc found) ls) (refused_at NoRoom n) ≡ refused_at r n
      by_room true q = absurd (cc)
      by_room false q = let z : NoRoom ≡ r = cc in rw z
  judged_stop (Err q) ls r e = let z : q ≡ r = cc in rw z

-- a script that is accepted has as many events as the answer says, and room for them
pub accepted : (room n found m : ℕ) (ls : List Line) → lines_judged room n found ls ≡ Ok m → (m ≡ found + length (events_of ls)) × (found ≤ room → m ≤ room)
unfolding lines_judged events_of
accepted room n found m [] e = let z : found ≡ m = cc in (omega arith, λ h. omega arith)
accepted room n found m (Ok None ∷ ls) e = accepted room (suc n) found m ls e
accepted room n found m (Ok (Some v) ∷ ls) e = by_room (ltb found room) refl e (accepted room (suc n) (suc found) m ls)
  where
    by_room : (b : Bool) → ltb found room ≡ b → cond b (lines_judged room (suc n) (suc found) ls) (refused_at NoRoom n) ≡ Ok m
        → (lines_judged room (suc n) (suc found) ls ≡ Ok m → (m ≡ suc found + length (events_of ls)) × (suc found ≤ room → m ≤ room))
        → (m ≡ found + suc (length (events_of ls))) × (found ≤ room → m ≤ room)
    by_room true b q h = let i = h q in (omega arith, λ k. i.1 (ltb-true found room b))
    by_room false b q h = absurd (cc)
accepted room n found m (Err r ∷ ls) e = absurd (cc)

-- Reading a text's lines, each once: what one line answers and writes, and what holds between two of them. Assumes nothing.
use mathlib.Core.Bool.{Bool, true, false, cond}
use mathlib.Core.List.{List, [], ◌++◌}
use mathlib.Core.Path.{◌≡◌, refl, sym, ap, ◌∙◌}
use Prim.Native.Nat.{ℕ, ◌+◌, ◌-◌, ◌*◌, ◌≤◌, ◌<◌, ◌^◌}
use native.Mathlib.Omega.{arith}
use lib.Dec.{ltb, eqb}
use lib.ListN.{length, take, drop, length-drop, take-append-drop}
use Rattle.basis.specs.Basis.{laid}
use Rattle.order.specs.Order.{event_words}
use Rattle.script_words.proofs.Walk.{until_in}
use Rattle.std.specs.Prelude.{Some, None, Result, Ok, Err}
use Rattle.script.specs.Lines.{Line, blank, line_says}
use Rattle.script.specs.Scripts.{refused_at, longest, held_words, line_events, events_of, lines_judged, judged_line, said}
use Rattle.script.specs.declared.line.Refusal.{Refusal}
use Rattle.script.specs.declared.line.Refusal.TheVariants.{NoRoom}
use Rattle.script.proofs.Judging.{left, line_end, left_all, left_none, left_step, judged_on, judged_stop}
use Rattle.script.proofs.Filling.{written, length-written, written_all, next_within, next_left, next_written}
use Rattle.script.proofs.Most.{at_most}

-- ---- one line

-- of a blank line nothing is written
pub nothing_laid : (found : ℕ) (held : List ℕ) (l : Line) → l ≡ blank → held ≡ laid held (3 * found) (event_words (line_events l))
unfolding event_words
nothing_laid found held l e =
    let z : 3 * found + 0 ≡ 3 * found = omega arith in
    rw (e, z) (sym (take-append-drop (3 * found) held))

-- a line that does not stop adds its events
more : (room found next : ℕ) (l : Line) → judged_line room found l ≡ Ok next → next ≡ found + length (line_events l)
more room found next (Ok None) e = let z : found ≡ next = cc in omega arith
more room found next (Ok (Some v)) e = by_room (ltb found room) e
  where
    by_room : (b : Bool) → ◌≡◌ {A = Result ℕ Refusal} (cond b (Ok (found + 1)) (Err NoRoom)) (Ok next) → next ≡ found + 1
    by_room true q = let z : found + 1 ≡ next = cc in sym z
    by_room false q = absurd (cc)
more room found next (Err r) e = absurd (cc)

-- ---- between two lines

-- up to a place `found` events stand at the front of the held words, and the lines from there on say the rest
pub record Reading (room : ℕ) (text start held : List ℕ) (line found place : ℕ) : Type 0 where
  pub short : length text ≤ longest
  pub long : held_words (length text) ≤ length start
  pub within : place ≤ length text + 1
  pub below : line ≤ place + 1
  pub some : found ≤ length (events_of (said text))
  pub answer : lines_judged room 1 0 (said text) ≡ lines_judged room line found (left text place)
  pub others : drop found (events_of (said text)) ≡ events_of (left text place)
  pub front : held ≡ written (events_of (said text)) start found

pub starts : (room : ℕ) (text start : List ℕ) → length text ≤ longest → held_words (length text) ≤ length start → Reading room text start start 1 0 0
unfolding event_words
starts room text start short long = record {
  short = short;
  long = long;
  within = omega arith;
  below = omega arith;
  some = omega arith;
  answer = ap (lines_judged room 1 0) (left_all text);
  others = ap events_of (left_all text);
  front = refl;
}

-- the most events that a text can have fit the held words
fits : (text start : List ℕ) → length text ≤ longest → held_words (length text) ≤ length start → 3 * length (events_of (said text)) ≤ length start
fits text start short long = omega (arith, at_most text)

module _ {room : ℕ} {text start held : List ℕ} {line found place : ℕ} (r : Reading room text start held line found place) where
  room_for : 3 * length (events_of (said text)) ≤ length start
  room_for = fits text start r.short r.long

  pub as_long : length held ≡ length start
  as_long = ap length r.front ∙ length-written (events_of (said text)) start room_for found r.some

  pub line_fits : line + 1 < 2 ^ 64
  line_fits = omega (arith, r.short, r.within, r.below)

  -- the line that ends at a place e
  module _ {e : ℕ} (in-text : place ≤ length text) (q : e ≡ line_end text place) where
    abbrev here : Line
    here = line_says (take (e - place) (drop place text))

    pub ends_after : place ≤ e
    ends_after = omega (arith, q)

    pub ends_in : e ≤ length text
    ends_in = rw q (until_in (eqb 10) text place in-text)

    pub end_fits : e + 1 < 2 ^ 64
    end_fits = omega (arith, r.short, ends_in)

    pub nearer : length text + 1 - (e + 1) < length text + 1 - place
    nearer = omega (arith, ends_after, ends_in)

    onward : drop found (events_of (said text)) ≡ line_events here ++ events_of (left text (e + 1))
    unfolding events_of
    onward = r.others ∙ ap events_of (left_step text place e in-text q)

    enough : found + length (line_events here) ≤ length (events_of (said text))
    enough = next_within (events_of (said text)) start room_for (line_events here) (events_of (left text (e + 1))) found onward r.some

    pub roomy : 3 * (found + length (line_events here)) ≤ length held
    roomy = omega (arith, as_long, room_for, enough)

    pub stops : (why : Refusal) → judged_line room found here ≡ Err why → refused_at why line ≡ lines_judged room 1 0 (said text)
    stops why j =
        sym (r.answer ∙ (ap (lines_judged room line found) (left_step text place e in-text q) ∙ judged_stop room line found here (left text (e + 1)) why j))

    pub goes_on : (held' : List ℕ) (next : ℕ) → judged_line room found here ≡ Ok next → held' ≡ laid held (3 * found) (event_words (line_events here))
        → Reading room text start held' (line + 1) next (e + 1)
    goes_on held' next j w =
        let all = events_of (said text) in
        let behind = events_of (left text (e + 1)) in
        let n : next ≡ found + length (line_events here) = more room found next here j in
        record {
          short = r.short;
          long = r.long;
          within = omega (arith, ends_in);
          below = omega (arith, r.below, ends_after);
          some = rw n enough;
          answer = r.answer ∙ (ap (lines_judged room line found) (left_step text place e in-text q) ∙ judged_on room line found here (left text (e + 1)) next j);
          others = rw n (next_left all start room_for (line_events here) behind found onward r.some);
          front = w ∙ rw n (next_written all start room_for (line_events here) behind found onward r.some held r.front);
        }

  -- behind the last line
  pub answers : length text < place → Ok found ≡ lines_judged room 1 0 (said text)
  unfolding lines_judged
  answers h = sym (rw (left_none text place h) at r.answer)

  pub all_written : length text < place → held ≡ laid start 0 (event_words (events_of (said text)))
  unfolding events_of
  all_written h =
      let all = events_of (said text) in
      let none : drop found all ≡ [] = r.others ∙ ap events_of (left_none text place h) in
      r.front ∙ written_all all start room_for found (omega (arith, length-drop found all, ap length none, r.some))

-- How many events a text can hold: the shortest line with one, `5 heal 1`, has 8 bytes and a line feed behind it. So 65,536 bytes hold
-- at most 7,281 of them, which the sort has room for. Assumes nothing.
use mathlib.Core.Bool.{Bool, true, false, cond, ◌&&◌}
use mathlib.Core.List.{List, [], ◌∷◌, map}
use mathlib.Core.Logic.{inl, inr}
use mathlib.Core.Path.{◌≡◌, refl, sym, ap, subst, ◌∙◌}
use Prim.Native.Nat.{ℕ, suc, ◌+◌, ◌*◌, ◌≤◌, ◌<◌}
use native.Mathlib.Omega.{arith}
use lib.Dec.{eqb}
use lib.ListN.{length, take, length-take, length-append}
use Rattle.numeral.specs.Reading.{number_of, Says}
use Rattle.numeral.specs.declared.Flaw.{Flaw}
use Rattle.std.specs.Prelude.{Option, Some, None, Result, Ok, Err}
use Rattle.numeral.proofs.Laws.{sound}
use Rattle.script_words.specs.Words.{is_space, not_space, until, cut_at, joined, lines_of, strip_front, kept_before, strip_end, strip, begins, line_words}
use Rattle.script.specs.Faults.{needs_id, same, crash, restart, reboot, partition, heal, heal_all, named_by}
use Rattle.script.specs.Lines.{Line, event, with_number, with_words, with_name, with_tick, of_words, line_says}
use Rattle.script.specs.Scripts.{line_events, events_of, said}
use Rattle.script.specs.declared.fault.Fault.{Fault}
use Rattle.script.specs.declared.fault.Fault.TheVariants.{Crash, Restart, Reboot, Partition, Heal, HealAll}

-- the room that lists take with one byte between any two, and one behind the last
unfoldable pub spread : List (List ℕ) → ℕ
spread [] = 0
spread (l ∷ ls) = suc (length l) + spread ls

spread-joined : (b : ℕ) (ls : List (List ℕ)) → 0 < spread ls → spread (joined b ls) ≡ suc (spread ls)
unfolding spread joined
spread-joined b [] h = absurd (omega arith)
spread-joined b (l ∷ ls) h = omega arith

-- ---- the lines of a text take all of it
line_more : (t : Bool) (b : ℕ) (bs : List ℕ) → spread (lines_of bs) ≡ suc (length bs) → spread (cond t ([] ∷ lines_of bs) (joined b (lines_of bs))) ≡ suc (suc (length bs))
unfolding spread
line_more true b bs h = omega arith
line_more false b bs h = spread-joined b (lines_of bs) (omega arith) ∙ ap suc h

pub spread_lines : (text : List ℕ) → spread (lines_of text) ≡ suc (length text)
unfolding lines_of spread
spread_lines [] = omega arith
spread_lines (b ∷ bs) = line_more (eqb b 10) b bs (spread_lines bs)

-- ---- the words of a line take no more than it
record Fitting (l : List ℕ) : Type 0 where
  fits : spread (line_words l) ≤ suc (length l)
  spare : begins l ≡ false → spread (line_words l) ≤ length l
  some : begins l ≡ true → 0 < spread (line_words l)

never : {A : Type 0} → true ≡ false → A
never e = absurd (cc)

fitting_word : (t : Bool) (b : ℕ) (bs : List ℕ) → begins bs ≡ t → Fitting bs
    → (spread (cond t (joined b (line_words bs)) ((b ∷ []) ∷ line_words bs)) ≤ suc (suc (length bs))) × (0 < spread (cond t (joined b (line_words bs)) ((b ∷ []) ∷ line_words bs)))
unfolding spread
fitting_word true b bs e f = let j = spread-joined b (line_words bs) (f.some e) in (omega (arith, f.fits), omega arith)
fitting_word false b bs e f = (omega (arith, f.spare e), omega arith)

fitting_byte : (s : Bool) (b : ℕ) (bs : List ℕ) → is_space b ≡ s → Fitting bs → Fitting (b ∷ bs)
unfolding line_words begins not_space
fitting_byte true b bs e f =
    record { fits = rw e (omega (arith, f.fits)); spare = λ n. rw e f.fits; some = λ n. never (sym (rw e at n)) }
fitting_byte false b bs e f =
    let g = fitting_word (begins bs) b bs refl f in
    record { fits = rw e g.0; spare = λ n. never (rw e at n); some = λ n. rw e g.1 }

fitting : (l : List ℕ) → Fitting l
unfolding line_words begins spread
fitting [] = record { fits = omega arith; spare = λ n. omega arith; some = λ n. never (sym n) }
fitting (b ∷ bs) = fitting_byte (is_space b) b bs refl (fitting bs)

-- ---- stripping and cutting make nothing longer
front_shorter : (t : Bool) (b : ℕ) (bs f : List ℕ) → length f ≤ length bs → length (cond t f (b ∷ bs)) ≤ suc (length bs)
front_shorter true b bs f h = omega arith
front_shorter false b bs f h = omega arith

strip_front_lem : (l : List ℕ) → length (strip_front l) ≤ length l
unfolding strip_front
strip_front_lem [] = omega arith
strip_front_lem (b ∷ bs) = front_shorter (is_space b) b bs (strip_front bs) (strip_front_lem bs)

lone : (t : Bool) (b : ℕ) → length (cond t [] (b ∷ [])) ≤ 1
lone true b = omega arith
lone false b = omega arith

kept_longer : (b : ℕ) (l : List ℕ) → length (kept_before b l) ≤ suc (length l)
unfolding kept_before
kept_longer b [] = lone (is_space b) b
kept_longer b (x ∷ xs) = omega arith

strip_end_lem : (l : List ℕ) → length (strip_end l) ≤ length l
unfolding strip_end
strip_end_lem [] = omega arith
strip_end_lem (b ∷ bs) = omega (arith, kept_longer b (strip_end bs), strip_end_lem bs)

shorter : (l : List ℕ) → length (strip (cut_at 35 l)) ≤ length l
unfolding strip cut_at
shorter l =
    let m = take (until (eqb 35) l) l in
    omega (arith, strip_front_lem (strip_end m), strip_end_lem m, length-take (until (eqb 35) l) l)

-- the words of a line, as the definition cuts them
pub words_fit : (l : List ℕ) → spread (line_words (strip (cut_at 35 l))) ≤ suc (length l)
words_fit l = omega (arith, (fitting (strip (cut_at 35 l))).fits, shorter l)

-- ---- the shortest words: a number has a byte, heal has four, heal-all has eight
number_long : (w : List ℕ) (n : ℕ) → number_of w ≡ Ok n → 1 ≤ length w
number_long w n e = by_sign (sound w n e)
  where
    by_sign : Says w n → 1 ≤ length w
    by_sign (inl d) = d.some
    by_sign (inr s) = rw s.1 (omega arith)

same_long : (l m : List ℕ) → same l m ≡ true → length l ≡ length m
unfolding same
same_long [] [] e = refl
same_long [] (y ∷ ys) e = never (sym e)
same_long (x ∷ xs) [] e = never (sym e)
same_long (x ∷ xs) (y ∷ ys) e = ap suc (same_long xs ys (second (eqb x y) (same xs ys) e))
  where
    second : (p q : Bool) → (p && q) ≡ true → q ≡ true
    second true q e = e
    second false q e = never (sym e)

abbrev Long : List ℕ → Fault → Type 0
Long w f = (4 ≤ length w) × (needs_id f ≡ false → 8 ≤ length w)

one_name : (b : Bool) (w : List ℕ) (x f : Fault) (others : Option Fault) → (b ≡ true → Long w x) → (others ≡ Some f → Long w f) → cond b (Some x) others ≡ Some f → Long w f
one_name true w x f others p q e = let z : x ≡ f = cc in subst (Long w) z (p refl)
one_name false w x f others p q e = q e

-- a name of n bytes, which needs an id or has eight
by_name : (w name : List ℕ) (x : Fault) → 4 ≤ length name → (needs_id x ≡ false → 8 ≤ length name) → same w name ≡ true → Long w x
by_name w name x h k e = let l = same_long w name e in (omega arith, λ n. let m = k n in omega arith)

name_long : (w : List ℕ) (f : Fault) → named_by w ≡ Some f → Long w f
unfolding named_by
name_long w f =
    one_name (same w crash) w (Crash 0) f _ (by_name w crash (Crash 0) (omega arith) (λ n. never n))
    (one_name (same w restart) w (Restart 0) f _ (by_name w restart (Restart 0) (omega arith) (λ n. never n))
    (one_name (same w reboot) w (Reboot 0) f _ (by_name w reboot (Reboot 0) (omega arith) (λ n. never n))
    (one_name (same w partition) w (Partition 0) f _ (by_name w partition (Partition 0) (omega arith) (λ n. never n))
    (one_name (same w heal) w (Heal 0) f _ (by_name w heal (Heal 0) (omega arith) (λ n. never n))
    (one_name (same w heal_all) w HealAll f None (by_name w heal_all HealAll (omega arith) (λ n. omega arith))
    (λ n. absurd (cc)))))))

-- ---- so a line with an event has eight bytes
abbrev Costs : Line → ℕ → Type 0
Costs l n = 9 * length (line_events l) ≤ n

with_number_lem : (tick : ℕ) (fault : Fault) (w : List ℕ) (n : Result ℕ Flaw) (k : ℕ) → number_of w ≡ n → (1 ≤ length w → 9 ≤ k) → Costs (with_number tick fault n) k
with_number_lem tick fault w (Err flaw) k e h = omega arith
with_number_lem tick fault w (Ok id) k e h = let x = h (number_long w id e) in omega arith

with_words_lem : (tick : ℕ) (fault : Fault) (ws : List (List ℕ)) (k : ℕ) → 7 ≤ k → Costs (with_words tick fault ws) (k + spread ws)
unfolding spread
with_words_lem tick fault [] k h = omega arith
with_words_lem tick fault (w ∷ ws) k h = with_number_lem tick fault w (number_of w) (k + spread (w ∷ ws)) refl (λ n. omega arith)

with_fault_lem : (b : Bool) (tick : ℕ) (fault : Fault) (name : List ℕ) (ws : List (List ℕ)) (k : ℕ) → needs_id fault ≡ b → Long name fault → 2 ≤ k
    → Costs (cond b (with_words tick fault ws) (event tick fault)) (k + (suc (length name) + spread ws))
with_fault_lem true tick fault name ws k e l h =
    let z : k + (suc (length name) + spread ws) ≡ k + suc (length name) + spread ws = omega arith in
    rw z (with_words_lem tick fault ws (k + suc (length name)) (omega (arith, l.0)))
with_fault_lem false tick fault name ws k e l h = omega (arith, l.1 e)

with_name_lem : (tick : ℕ) (n : Option Fault) (name : List ℕ) (ws : List (List ℕ)) (k : ℕ) → named_by name ≡ n → 2 ≤ k → Costs (with_name tick n ws) (k + (suc (length name) + spread ws))
with_name_lem tick None name ws k e h = omega arith
with_name_lem tick (Some fault) name ws k e h = with_fault_lem (needs_id fault) tick fault name ws k refl (name_long name fault e) h

with_tick_lem : (n : Result ℕ Flaw) (tick name : List ℕ) (ws : List (List ℕ)) → number_of tick ≡ n → Costs (with_tick n name ws) (suc (length tick) + (suc (length name) + spread ws))
with_tick_lem (Err flaw) tick name ws e = omega arith
with_tick_lem (Ok t) tick name ws e = with_name_lem t (named_by name) name ws (suc (length tick)) refl (omega (arith, number_long tick t e))

words_cost : (ws : List (List ℕ)) → Costs (of_words ws) (spread ws)
unfolding of_words spread
words_cost [] = omega arith
words_cost (t ∷ []) = omega arith
words_cost (t ∷ name ∷ ws) = with_tick_lem (number_of t) t name ws refl

line_costs : (l : List ℕ) → Costs (line_says l) (suc (length l))
unfolding line_says
line_costs l = omega (arith, words_cost (line_words (strip (cut_at 35 l))), words_fit l)

lines_cost : (ls : List (List ℕ)) → 9 * length (events_of (map line_says ls)) ≤ spread ls
unfolding events_of spread
lines_cost [] = omega arith
lines_cost (l ∷ ls) =
    omega (arith, length-append (line_events (line_says l)) (events_of (map line_says ls)), line_costs l, lines_cost ls)

-- a text holds an event for nine bytes, where its end counts for one
pub at_most : (text : List ℕ) → 9 * length (events_of (said text)) ≤ length text + 1
at_most text = omega (arith, lines_cost (lines_of text), spread_lines text)

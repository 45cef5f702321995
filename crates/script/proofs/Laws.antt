-- What a reader expects of a script's events: they are those of the file, by tick, equal ticks in file order. And the rules' own samples, by
-- computation. Assumes nothing.
use mathlib.Core.Bool.{Bool, true, false, cond}
use mathlib.Core.List.{List, [], ◌∷◌}
use mathlib.Core.Path.{◌≡◌, refl}
use Prim.Native.Nat.{ℕ, suc, ◌+◌, ◌*◌, ◌/◌, ◌≤◌}
use native.Mathlib.Omega.{arith}
use borrow.Author.Tests.{ltb-false}
use lib.Dec.{ltb, eqb}
use lib.ListN.{length}
use Rattle.std.specs.Prelude.{Ok}
use Rattle.numeral.specs.Digits.{is_digit, is_all_digits, value_of}
use Rattle.numeral.specs.Reading.{unsigned, begins_number, stop_from, stop, flaw_at, number_of}
use Rattle.numeral.specs.declared.Why.TheVariants.{StrayByte}
use Rattle.order.specs.Order.{event_words, inserted, sorted, Rising, Permuted, of_tick}
use Rattle.order.proofs.Laws.{sorted_rising, sorted_permuted, sorted_stable, length-sorted}
use Rattle.script_words.specs.Words.{is_space, not_space, until, cut_at, joined, lines_of, strip_front, kept_before, strip_end, strip, begins}
use Rattle.script_words.specs.Words as words
use Rattle.script_utf8.specs.Utf8.{in_range, after_first, after_this, after_byte, may_end, utf8_from}
use Rattle.script_stray.specs.Stray.{comment_of, has_over, is_stray, first_stray, stray_line}
use Rattle.script.specs.Faults.{same, named_by}
use Rattle.script.specs.Lines.{of_words, line_says}
use Rattle.script.specs.Scripts.{Script, refused_at, longest, events_of, lines_judged, said, script_answer, sorted_events, script_words}
use Rattle.script.specs.declared.line.Refusal.{Refusal}
use Rattle.script.specs.declared.line.Refusal.TheVariants.{TooLong, BadByte, BadTick, BadId}
use Rattle.script.proofs.Judging.{accepted}
use Rattle.script.proofs.Most.{at_most}
use Rattle.script.proofs.FirstFault.{TextStops, long, stray, fault, text_stops}

-- no event has an earlier tick than one before it
pub events_rising : (text : List ℕ) → Rising (sorted_events text)
unfolding sorted_events
events_rising text = sorted_rising (events_of (said text))

-- they are the events of the file, each as often as there
pub events_permuted : (text : List ℕ) → Permuted (sorted_events text) (events_of (said text))
unfolding sorted_events
events_permuted text = sorted_permuted (events_of (said text))

-- those of one tick stand as in the file
pub events_stable : (tick : ℕ) (text : List ℕ) → of_tick tick (sorted_events text) ≡ of_tick tick (events_of (said text))
unfolding sorted_events
events_stable tick text = sorted_stable tick (events_of (said text))

-- a script that is accepted has as many events as the answer says, and they fit the room lent
past_tests : (p q : Bool) (a b j : Script) (m : ℕ) → (a ≡ Ok m → ⊥) → (b ≡ Ok m → ⊥) → cond p a (cond q j b) ≡ Ok m → j ≡ Ok m
past_tests true q a b j m h k e = absurd (h e)
past_tests false true a b j m h k e = e
past_tests false false a b j m h k e = absurd (k e)

no_events : {r : Refusal} {n m : ℕ} → ◌≡◌ {A = Script} (refused_at r n) (Ok m) → ⊥
no_events e = cc

pub events_counted : (text : List ℕ) (words m : ℕ) → script_answer text words ≡ Ok m → (m ≡ length (sorted_events text)) × (m ≤ words / 3)
unfolding script_answer sorted_events
events_counted text words m e =
    let j = past_tests (ltb longest (length text)) (eqb (stray_line text) 0) (refused_at TooLong 0) (refused_at BadByte (stray_line text)) (lines_judged (words / 3) 1 0 (said text)) m no_events no_events e in
    let a = accepted (words / 3) 1 0 m (said text) j in
    (omega (arith, a.0, length-sorted (events_of (said text))), a.1 (omega arith))

-- a stray line is one of the lines
stray_bound : (n : ℕ) (ls : List (List ℕ)) → first_stray (suc n) ls ≤ n + length ls
unfolding first_stray
stray_bound n [] = omega arith
stray_bound n (l ∷ ls) = by_line (is_stray l) (stray_bound (suc n) ls)
  where
    by_line : (p : Bool) {x : ℕ} → x ≤ suc n + length ls → cond p (suc n) x ≤ n + suc (length ls)
    by_line true h = omega arith
    by_line false h = omega arith

joined-long : (b : ℕ) (ls : List (List ℕ)) → length (joined b ls) ≤ suc (length ls)
unfolding joined
joined-long b [] = omega arith
joined-long b (l ∷ ls) = omega arith

some_line : (b : ℕ) (ls : List (List ℕ)) (n : ℕ) → length ls ≤ suc n → length (joined b ls) ≤ suc (suc n)
some_line b ls n h = omega (arith, joined-long b ls)

lines_bound : (text : List ℕ) → length (lines_of text) ≤ suc (length text)
unfolding lines_of
lines_bound [] = omega arith
lines_bound (b ∷ bs) = by_byte (eqb b 10) (lines_bound bs)
  where
    by_byte : (p : Bool) → length (lines_of bs) ≤ suc (length bs) → length (cond p ([] ∷ lines_of bs) (joined b (lines_of bs))) ≤ suc (suc (length bs))
    by_byte true h = omega arith
    by_byte false h = some_line b (lines_of bs) (length bs) h

-- no refusal tells a line past the last that a text can have
pub refusal_line : (text : List ℕ) (words : ℕ) (r : Refusal) (n : ℕ) → script_answer text words ≡ refused_at r n
    → (n ≤ suc (length text)) × (n ≤ suc longest)
refusal_line text words r n e = by_stop (text_stops text words r n e)
  where
    by_stop : {q : Refusal} {k : ℕ} → TextStops text words q k → (k ≤ suc (length text)) × (k ≤ suc longest)
    by_stop (long h) = (omega arith, omega arith)
    by_stop (stray h f) = let b = stray_bound 0 (lines_of text) in let k = lines_bound text in (omega arith, omega arith)
    by_stop (fault h f s k) = let b = lines_bound text in (omega arith, omega arith)

-- an accepted script has no more events than the longest text can hold
pub events_most : (text : List ℕ) (words m : ℕ) → script_answer text words ≡ Ok m → 9 * m ≤ suc longest
unfolding script_answer sorted_events
events_most text words m e =
    let n = events_counted text words m e in
    omega (arith, n.0, length-sorted (events_of (said text)), at_most text, past_first (ltb longest (length text)) refl _ e)
  where
    past_first : (p : Bool) → ltb longest (length text) ≡ p → (j : Script) → cond p (refused_at TooLong 0) j ≡ Ok m → length text ≤ longest
    past_first true q j f = absurd (no_events f)
    past_first false q j f = ltb-false longest (length text) q

-- `20 heal-all`, `5 crash 1 # east`
sample : List ℕ
sample =
    50 ∷ 48 ∷ 32 ∷ 104 ∷ 101 ∷ 97 ∷ 108 ∷ 45 ∷ 97 ∷ 108 ∷ 108 ∷ 10
    ∷ 53 ∷ 32 ∷ 99 ∷ 114 ∷ 97 ∷ 115 ∷ 104 ∷ 32 ∷ 49 ∷ 32 ∷ 35 ∷ 32 ∷ 101 ∷ 97 ∷ 115 ∷ 116 ∷ 10 ∷ []

-- `1,500 crash 1`, and `5 crash 1,500`
comma_tick : List ℕ
comma_tick = 49 ∷ 44 ∷ 53 ∷ 48 ∷ 48 ∷ 32 ∷ 99 ∷ 114 ∷ 97 ∷ 115 ∷ 104 ∷ 32 ∷ 49 ∷ 10 ∷ []

comma_id : List ℕ
comma_id = 53 ∷ 32 ∷ 99 ∷ 114 ∷ 97 ∷ 115 ∷ 104 ∷ 32 ∷ 49 ∷ 44 ∷ 53 ∷ 48 ∷ 48 ∷ 10 ∷ []

-- the sample has two events, the crash of plant 1 at tick 5 first, and what was lent behind them stays; a comma is a bad tick or a bad id,
-- at the second byte
samples :
    (script_answer sample 8 ≡ Ok 2)
    × (script_words sample (9 ∷ 9 ∷ 9 ∷ 9 ∷ 9 ∷ 9 ∷ 9 ∷ 8 ∷ []) ≡ 5 ∷ 0 ∷ 1 ∷ 20 ∷ 5 ∷ 0 ∷ 9 ∷ 8 ∷ [])
    × (script_answer comma_tick 6 ≡ refused_at (BadTick (flaw_at StrayByte 1)) 1)
    × (script_answer comma_id 6 ≡ refused_at (BadId (flaw_at StrayByte 1)) 1)
unfolding sample comma_tick comma_id script_words sorted_events sorted inserted event_words events_of script_answer stray_line first_stray is_stray comment_of has_over in_range after_first after_this after_byte may_end utf8_from lines_judged line_says of_words lines_of joined cut_at until strip strip_end kept_before strip_front is_space not_space begins words.line_words named_by same number_of stop stop_from begins_number unsigned is_all_digits is_digit value_of
samples = (refl, refl, refl, refl)

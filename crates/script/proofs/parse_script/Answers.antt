-- `script::parse_script` meets its contract: the tests come in the definition's order. Assumes nothing.
use borrow.Author.Tests.{lt-ltb, le-ltb, eq-eqb, ne_eqb}
use mathlib.Core.List.{List}
use mathlib.Core.Path.{◌≡◌, refl, sym, ◌∙◌}
use Prim.Native.Nat.{ℕ, ◌/◌, ◌≤◌, ◌<◌}
use lib.ListN.{length}
use Rattle.std.specs.Prelude.{None, Some}
use Rattle.script_stray.specs.Stray.{stray_line, line_told}
use Rattle.script_stray.proofs.Told.{told_some, told_none}
use Rattle.script.specs.Scripts.{Script, refused_at, longest, said, lines_judged, script_answer, words_given, script_words}
use Rattle.script.specs.declared.line.Refusal.{Refusal}
use Rattle.script.specs.declared.line.Refusal.TheVariants.{TooLong, BadByte}
use Rattle.script.proofs.parse_script.Goals as goal

-- ---- the answer, test by test
module _ (text : List ℕ) (n : ℕ) where
  too_long : longest < length text → script_answer text n ≡ refused_at TooLong 0
  unfolding script_answer
  too_long h = rw (lt-ltb longest (length text) h)

  stray : (k : ℕ) → length text ≤ longest → k ≡ stray_line text → (k ≡ 0 → ⊥) → script_answer text n ≡ refused_at BadByte k
  unfolding script_answer
  stray k h e z = rw (le-ltb longest (length text) h, ← e, ne_eqb k 0 z)

  judges : (k : ℕ) → length text ≤ longest → k ≡ stray_line text → k ≡ 0 → script_answer text n ≡ lines_judged (n / 3) 1 0 (said text)
  unfolding script_answer
  judges k h e z = rw (le-ltb longest (length text) h, ← e, eq-eqb k 0 z)

-- ---- the words, by the answer
module _ (text words : List ℕ) where
  refused : (r : Refusal) (n : ℕ) → script_answer text (length words) ≡ refused_at r n → (refused_at r n ≡ script_answer text (length words)) × (words ≡ script_words text words)
  unfolding script_words
  refused r n e = (sym e, rw e)

  answered : (r j : Script) (w : List ℕ) → script_answer text (length words) ≡ j → r ≡ j → w ≡ words_given r text words → (r ≡ script_answer text (length words)) × (w ≡ script_words text words)
  unfolding script_words
  answered r j w e q g = (q ∙ sym e, g ∙ rw (e, q))

pub returns-then-text-gt-LONGEST : goal.returns-then-text-gt-LONGEST
returns-then-text-gt-LONGEST c =
    let a = c.args in
    let told = refused a.text.now a.events.now TooLong 0 (too_long a.text.now (length a.events.now) c.if-text-gt-LONGEST.true) in
    record { answer = told.0; words = told.1 }

-- a stray line is told, or there is none
told : (text : List ℕ) (n k : ℕ) → length text ≤ longest → Some k ≡ line_told (stray_line text) → script_answer text n ≡ refused_at BadByte k
told text n k h e = let m = told_some (stray_line text) k e in stray text n k h m.0 m.1

none : (text : List ℕ) (n : ℕ) → length text ≤ longest → None ≡ line_told (stray_line text) → script_answer text n ≡ lines_judged (n / 3) 1 0 (said text)
none text n h e = let m = told_none (stray_line text) e in judges text n 0 h m refl

pub returns-in-Some : goal.returns-in-Some
returns-in-Some c =
    let a = c.args in
    let t = refused a.text.now a.events.now BadByte c.in-Some.line
    (told a.text.now (length a.events.now) c.in-Some.line c.if-text-gt-LONGEST.false (sym c.in-Some.is ∙ c.stray_line.ensures)) in
    record { answer = t.0; words = t.1 }

pub returns-in-0-to-1024 : goal.returns-in-0-to-1024
returns-in-0-to-1024 c =
    let a = c.args in
    let r = c.read_within in
    let t = answered a.text.now a.events.now r.result (lines_judged (length a.events.now / 3) 1 0 (said a.text.now)) r.new.events
    (none a.text.now (length a.events.now) c.if-text-gt-LONGEST.false (sym c.in_default.is ∙ c.stray_line.ensures)) r.ensures.answer r.ensures.words in
    record { answer = t.0; words = t.1 }

pub returns-in-0-to-8192 : goal.returns-in-0-to-8192
returns-in-0-to-8192 c =
    let a = c.args in
    let r = c.read_within-in-0-to-8192 in
    let t = answered a.text.now a.events.now r.result (lines_judged (length a.events.now / 3) 1 0 (said a.text.now)) r.new.events
    (none a.text.now (length a.events.now) c.if-text-gt-LONGEST.false (sym c.in_default.is ∙ c.stray_line.ensures)) r.ensures.answer r.ensures.words in
    record { answer = t.0; words = t.1 }

pub returns-in_default-len : goal.returns-in_default-len
returns-in_default-len c =
    let a = c.args in
    let r = c.read_within-in_default-len in
    let t = answered a.text.now a.events.now r.result (lines_judged (length a.events.now / 3) 1 0 (said a.text.now)) r.new.events
    (none a.text.now (length a.events.now) c.if-text-gt-LONGEST.false (sym c.in_default.is ∙ c.stray_line.ensures)) r.ensures.answer r.ensures.words in
    record { answer = t.0; words = t.1 }

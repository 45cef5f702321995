-- Events in words, and their lines, one event after the other. Assumes nothing.
use mathlib.Core.List.{List, [], ◌∷◌, ◌++◌, append_assoc, append-nil}
use mathlib.Core.Path.{◌≡◌, refl, sym, ap, ◌∙◌}
use Prim.Native.Nat.{ℕ, zero, suc, ◌+◌, ◌*◌, ◌≤◌, ◌<◌}
use native.Mathlib.Numerals.{add-one}
use native.Mathlib.Omega.{arith}
use lib.ListN.{length, take, get_or}
use lib.Seq.{take_all}
use Rattle.order.specs.Order.{Event, event_words, events_in}
use Rattle.order.specs.Merge.{Whole}
use Rattle.order.proofs.Halves.{whole_of}
use Rattle.order.proofs.Laws.{length_words_of}
use Rattle.script_report.specs.Report.{event_text, events_text}

-- the event at a place of the words
abbrev pub event_at : List ℕ → ℕ → Event
event_at ws i = record { tick = get_or ws (3 * i) 0; fault = get_or ws (3 * i + 1) 0; id = get_or ws (3 * i + 2) 0 }

-- one event more than the first i of them
front_more : (i : ℕ) (ws : List ℕ) → 3 * i + 3 ≤ length ws → take (suc i) (events_in ws) ≡ take i (events_in ws) ++ (event_at ws i ∷ [])
unfolding events_in
front_more i [] h = absurd (omega arith)
front_more i (t ∷ []) h = absurd (omega arith)
front_more i (t ∷ f ∷ []) h = absurd (omega arith)
front_more zero (t ∷ f ∷ d ∷ ws) h = refl
front_more (suc i) (t ∷ f ∷ d ∷ ws) h =
    let x : 3 * suc i ≡ suc (suc (suc (3 * i))) = omega arith in
    let y : suc (suc (suc (3 * i))) + 1 ≡ suc (suc (suc (3 * i + 1))) = omega arith in
    let z : suc (suc (suc (3 * i))) + 2 ≡ suc (suc (suc (3 * i + 2))) = omega arith in
    rw (x, y, z) (ap (λ (l : List Event). record { tick = t; fault = f; id = d } ∷ l) (front_more i ws (omega arith)))

text_append : (xs ys : List Event) → events_text (xs ++ ys) ≡ events_text xs ++ events_text ys
unfolding events_text
text_append [] ys = refl
text_append (x ∷ xs) ys = rw (text_append xs ys) (sym (append_assoc (event_text x) (events_text xs) (events_text ys)))

-- words that are so many events
module _ (words : List ℕ) (count : ℕ) (whole : length words ≡ 3 * count) where
  pub length-events : length (events_in words) ≡ count
  unfolding Whole
  length-events =
      let w : event_words (events_in words) ≡ words = whole_of count words whole in
      omega (arith, length_words_of (events_in words), ap length w)

  pub text_more : (i : ℕ) → i < count
      → events_text (take (i + 1) (events_in words)) ≡ events_text (take i (events_in words)) ++ event_text (event_at words i)
  unfolding events_text
  text_more i h =
      let es = events_in words in
      rw (add-one i, front_more i words (omega arith))
      (text_append (take i es) (event_at words i ∷ []) ∙ ap (λ (x : List ℕ). events_text (take i es) ++ x) (append-nil (event_text (event_at words i))))

  pub text_all : (i : ℕ) → count ≤ i → events_text (take i (events_in words)) ≡ events_text (events_in words)
  text_all i h = ap events_text (take_all i (events_in words) (omega (arith, length-events)))

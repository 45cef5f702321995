-- Writing events one line after the other: the words hold the events of the lines passed, and the lines left have the others.
-- Assumes nothing.
use mathlib.Core.List.{List, ◌++◌, append_assoc}
use mathlib.Core.Path.{◌≡◌, sym, ap, ◌∙◌}
use Prim.Native.Nat.{ℕ, ◌+◌, ◌*◌, ◌≤◌}
use native.Mathlib.Omega.{arith}
use lib.ListN.{length, take, drop, length-drop, length-append}
use lib.Seq.{take_at, drop_at, take-append_seam, drop-append_seam, take-add, drop-drop, length-take-le, take_all}
use Rattle.basis.specs.Basis.{laid}
use Rattle.order.specs.Order.{Event, event_words}
use Rattle.order.proofs.Laws.{length_words_of, words_of_append}

-- the words after the first `count` events of a list were written over others
abbrev pub written : List Event → List ℕ → ℕ → List ℕ
written all words count = event_words (take count all) ++ drop (3 * count) words

module _ (all : List Event) (words : List ℕ) (fits : 3 * length all ≤ length words) where
  length_front : (count : ℕ) → count ≤ length all → length (event_words (take count all)) ≡ 3 * count
  length_front count h = omega (arith, length_words_of (take count all), length-take-le count all h)

  pub length-written : (count : ℕ) → count ≤ length all → length (written all words count) ≡ length words
  length-written count h =
      omega (arith, length-append (event_words (take count all)) (drop (3 * count) words), length_front count h, length-drop (3 * count) words)

  pub written_all : (count : ℕ) → length all ≡ count → written all words count ≡ laid words 0 (event_words all)
  written_all count e =
      let z : 0 + length (event_words all) ≡ 3 * count = omega (arith, length_words_of all) in
      rw (z, take_all count all (omega arith))

  -- the events of one line more
  module _ (now : List Event) (rest : List Event) (count : ℕ) (split : drop count all ≡ now ++ rest) (within : count ≤ length all) where
    pub next_within : count + length now ≤ length all
    next_within = omega (arith, length-drop count all, simp length-append at (ap length split))

    pub next_left : drop (count + length now) all ≡ rest
    next_left = sym (drop-drop (length now) count all) ∙ rw split (drop-append_seam now rest)

    next_front : take (count + length now) all ≡ take count all ++ now
    next_front = take-add count (length now) all ∙ rw split (ap (λ (x : List Event). take count all ++ x) (take-append_seam now rest))

    pub next_written : (w : List ℕ) → w ≡ written all words count → laid w (3 * count) (event_words now) ≡ written all words (count + length now)
    next_written w e =
        let f = event_words (take count all) in
        let k : length (event_words now) ≡ 3 * length now = length_words_of now in
        let z : 3 * count + 3 * length now ≡ 3 * (count + length now) = omega arith in
        let t : take (3 * count) w ≡ f = rw e (take_at f (drop (3 * count) words) (3 * count) (length_front count within)) in
        let d : drop (3 * count) w ≡ drop (3 * count) words = rw e (drop_at f (drop (3 * count) words) (3 * count) (length_front count within)) in
        let r : drop (3 * count + 3 * length now) w ≡ drop (3 * count + 3 * length now) words =
        sym (drop-drop (3 * length now) (3 * count) w) ∙ (ap (drop (3 * length now)) d ∙ drop-drop (3 * length now) (3 * count) words) in
        rw (k, t, r, z, next_front, words_of_append (take count all) now) (sym (append_assoc f (event_words now) (drop (3 * (count + length now)) words)))

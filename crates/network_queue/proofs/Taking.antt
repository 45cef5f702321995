-- Those in front that are due are the first of the words: they are written out, the others move down, and zeros follow. Assumes nothing.
use Prim.Native.Nat.{ℕ, ◌+◌, ◌-◌, ◌*◌, ◌≤◌, ◌<◌}
use mathlib.Core.Path.{◌≡◌, refl, ap, ◌∙◌}
use mathlib.Core.List.{List, [], ◌∷◌, ◌++◌, append_assoc}
use mathlib.Core.Bool.{Bool, true, false, cond}
use native.Mathlib.Numerals.{add-one}
use native.Mathlib.Omega.{arith}
use borrow.Author.Tests.{le-leb, lt-leb}
use lib.Dec.{leb}
use lib.ListN.{length, take, drop, get_or, set, replicate, length-take, length-drop}
use lib.Seq.{length-take-le, take-suc, take-take, take_at, drop-append-add, drop-cons, drop-drop, set_at}
use Rattle.nights.specs.Record.{Record, record_words, recs, record_size}
use Rattle.network_queue.specs.Places.{front, back, due_count, left_words, gone_words}
use Rattle.network_queue.proofs.Inserting.{length-recs, record_words-recs, record_words-take, record_words-drop, peel}

-- a loop that writes the list t over l from the front
abbrev pub filled : List ℕ → List ℕ → ℕ → List ℕ
filled t l m = take m t ++ drop m l

pub fill_step : (t l r : List ℕ) (m v : ℕ) → m < length t → m < length l → v ≡ get_or t m 0 → r ≡ filled t l m → set r m v ≡ filled t l (m + 1)
fill_step t l r m v h k e f =
    let q : length (take m t) ≡ m = length-take-le m t (omega arith) in
    rw (f, e, add-one m, drop-cons l m 0 k, take-suc t m 0 h, append_assoc) (set_at (take m t) _ _ _ m q)

-- the part that `down` moves
pub length_part : (l : List ℕ) (k n : ℕ) → k ≤ n → n ≤ length l → length (drop k (take n l)) ≡ n - k
length_part l k n h q = simp (length-drop, length-take) (omega arith)

-- those that are due are the first of the list
front_step : (b : Bool) (x : Record) (f xs : List Record) → f ≡ take (length f) xs → cond b (x ∷ f) [] ≡ take (length (cond b (x ∷ f) [])) (x ∷ xs)
front_step true x f xs e = ap (λ (l : List Record). x ∷ l) e
front_step false x f xs e = refl

front_is : (at : ℕ) (l : List Record) → front at l ≡ take (due_count at l) l
unfolding front
front_is at [] = refl
front_is at (x ∷ xs) = front_step (leb x.due at) x (front at xs) xs (front_is at xs)

back_step : (b : Bool) (x : Record) (f g xs : List Record) → g ≡ drop (length f) xs → cond b g (x ∷ xs) ≡ drop (length (cond b (x ∷ f) [])) (x ∷ xs)
back_step true x f g xs e = e
back_step false x f g xs e = refl

back_is : (at : ℕ) (l : List Record) → back at l ≡ drop (due_count at l) l
unfolding front back
back_is at [] = refl
back_is at (x ∷ xs) = back_step (leb x.due at) x (front at xs) (back at xs) xs (back_is at xs)

due_le : (at : ℕ) (l : List Record) → due_count at l ≤ length l
due_le at l = omega (arith, simp length-take at (ap length (front_is at l)))

-- and the two together are as many as all
pub parted : (at : ℕ) (l : List Record) → due_count at l + length (back at l) ≡ length l
parted at l =
    omega (arith, ap length (back_is at l), length-drop (due_count at l) l, due_le at l)

pub due_in : (at : ℕ) (w : List ℕ) (n : ℕ) → due_count at (recs w 0 n) ≤ n
due_in at w n = omega (arith, due_le at (recs w 0 n), length-recs w 0 n)

-- the walk of `due_front`
abbrev pub Walked : List ℕ → ℕ → ℕ → ℕ → Type 0
Walked w n at i = due_count at (recs w 0 n) ≡ i + due_count at (recs w (i * record_size) (n - i))

module _ (w : List ℕ) (n at i : ℕ) where
  pub walk_on : i < n → get_or w (i * record_size) 0 ≤ at → Walked w n at i → Walked w n at (i + 1)
  unfolding front
  walk_on h d inv = let j = rw (peel w n 0 0 i h, le-leb _ _ d) at inv in omega arith

  pub walk_stops : i < n → at < get_or w (i * record_size) 0 → Walked w n at i → i ≡ due_count at (recs w 0 n)
  unfolding front
  walk_stops h d inv = let j = rw (peel w n 0 0 i h, lt-leb _ _ d) at inv in omega arith

  pub walk_ends : n ≤ i → Walked w n at i → i ≡ due_count at (recs w 0 n)
  unfolding front recs
  walk_ends h inv = let z : n - i ≡ 0 = omega arith in let j = rw z at inv in omega arith

-- `take_from`
module _ (w : List ℕ) (n at k : ℕ) (fits : n * record_size ≤ length w) (e : k ≡ due_count at (recs w 0 n)) where
  words_is : record_words (recs w 0 n) ≡ take (n * record_size) w
  words_is = record_words-recs w 0 n (omega arith)

  within : k ≤ length (recs w 0 n)
  within = omega (arith, due_le at (recs w 0 n))

  k≤n : k ≤ n
  k≤n = omega (arith, within, length-recs w 0 n)

  pub gone : (o o₀ : List ℕ) → o ≡ take (k * record_size) w ++ drop (k * record_size) o₀ → o ≡ gone_words w n at o₀
  unfolding gone_words
  gone o o₀ f =
      rw (f, front_is at (recs w 0 n), ← e, record_words-take (recs w 0 n) k within, words_is, take-take (k * record_size) (n * record_size) w (omega (arith, k≤n)), length-take-le k (recs w 0 n) within)

  pub left : (a z : List ℕ) → a ≡ drop (k * record_size) (take (n * record_size) w) ++ drop (n * record_size - k * record_size) w
      → z ≡ take ((n - k) * record_size) a ++ (replicate (n * record_size - (n - k) * record_size) 0 ++ drop (n * record_size) a) → z ≡ left_words w n at
  unfolding left_words
  left a z f g =
      let p : List ℕ = drop (k * record_size) (take (n * record_size) w) in
      let h = k≤n in
      let c : length p ≡ (n - k) * record_size = omega (arith, length_part w (k * record_size) (n * record_size) (omega arith) fits) in
      let t : take ((n - k) * record_size) a ≡ p = rw f (take_at p _ _ c) in
      let y : n * record_size - (n - k) * record_size ≡ k * record_size = omega arith in
      let u : n * record_size ≡ length p + k * record_size = omega arith in
      let v : n * record_size - k * record_size + k * record_size ≡ n * record_size = omega arith in
      let d : drop (n * record_size) a ≡ drop (n * record_size) w =
      ap (λ (x : List ℕ). drop (n * record_size) x) f
      ∙ (ap (λ (j : ℕ). drop j (p ++ drop (n * record_size - k * record_size) w)) u
      ∙ (drop-append-add p (drop (n * record_size - k * record_size) w) (k * record_size)
      ∙ (drop-drop (k * record_size) (n * record_size - k * record_size) w ∙ ap (λ (j : ℕ). drop j w) v))) in
      rw (g, t, y, d, back_is at (recs w 0 n), ← e, record_words-drop (recs w 0 n) k within, words_is)

-- Words written one after the other over a part of a row: `paste d at s i` is the row d with the first i of s written from `at` on.
-- Assumes nothing.
use Prim.Native.Nat.{ℕ, ◌+◌, ◌<◌}
use mathlib.Core.Path.{◌≡◌, refl, ap, ◌∙◌}
use mathlib.Core.List.{List, [], ◌∷◌, ◌++◌, append-nil, append_assoc}
use native.Mathlib.Omega.{arith}
use native.Mathlib.Numerals.{add-one}
use lib.ListN.{length, take, drop, get_or, set, length-append, drop_of_length-le}
use lib.Seq.{paste, paste-zero, paste-suc, take_all, take_at}

module _ {A : Type 0} where
  -- one word more: where it goes, and what it is
  pub one_more : (d : List A) (at : ℕ) (s : List A) (i j : ℕ) (v z : A) (l : List A) → j ≡ at + i → v ≡ get_or s i z → at + i < length d → i < length s → l ≡ paste d at s i → set l j v ≡ paste d at s (i + 1)
  one_more d at s i j v z l e f hd hs h = rw (h, e, f, add-one i) (paste-suc d at s i z hd hs)

  -- all of them
  pub all_written : (d : List A) (at : ℕ) (s : List A) (n : ℕ) → length s ≡ n → paste d at s n ≡ take at d ++ (s ++ drop (at + n) d)
  all_written d at s n e = rw (take_all n s (omega arith), append_assoc)

  -- and over a row of as many
  pub all_over : (d s : List A) (n : ℕ) → length s ≡ n → length d ≡ n → paste d 0 s n ≡ s
  all_over d s n e f =
      all_written d 0 s n e ∙ (ap (λ (l : List A). s ++ l) (drop_of_length-le d {i = 0 + n} (omega arith)) ∙ append-nil s)

  -- what then stands in front
  pub front : (d l p s : List A) (at n : ℕ) → length p ≡ at → length s ≡ n → take at d ≡ p → l ≡ take at d ++ (s ++ drop (at + n) d) → take (at + n) l ≡ p ++ s
  front d l p s at n e f h k =
      rw (k, h, ← append_assoc) (take_at (p ++ s) (drop (at + n) d) (at + n) (length-append p s ∙ omega arith))

-- three words at the end of a row
pub last_three : (d p : List ℕ) (at a b c : ℕ) → length d ≡ at + 3 → take at d ≡ p → set (set (set d (at + 0) a) (at + 1) b) (at + 2) c ≡ p ++ (a ∷ b ∷ c ∷ [])
last_three d p at a b c e h =
    one_more d at (a ∷ b ∷ c ∷ []) 2 _ c 0 _ refl refl (omega arith) (omega arith)
    (one_more d at (a ∷ b ∷ c ∷ []) 1 _ b 0 _ refl refl (omega arith) (omega arith)
    (one_more d at (a ∷ b ∷ c ∷ []) 0 _ a 0 _ refl refl (omega arith) (omega arith) (paste-zero d at (a ∷ b ∷ c ∷ []))))
    ∙ (all_written d at (a ∷ b ∷ c ∷ []) 3 refl
    ∙ rw (h, drop_of_length-le d {i = at + 3} (omega arith)))

-- two words at the front of a row, and then the rest of it
pub two_and_more : (d s : List ℕ) (a b : ℕ) → length d ≡ length s + 2 → take 2 (set (set d 0 a) 1 b) ++ (s ++ drop (length d) (set (set d 0 a) 1 b)) ≡ a ∷ b ∷ s
two_and_more [] s a b e = absurd (omega arith)
two_and_more (x ∷ []) s a b e = absurd (omega arith)
two_and_more (x ∷ y ∷ d) s a b e = ap (λ (l : List ℕ). a ∷ b ∷ l) (ap (λ (l : List ℕ). s ++ l) (drop_of_length-le (a ∷ b ∷ d) {i = length (x ∷ y ∷ d)} (omega arith)) ∙ append-nil s)

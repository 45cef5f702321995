-- A state written part by part is its words. Assumes nothing.
use Prim.Native.Nat.{ℕ, ◌+◌, ◌≤◌, ◌<◌}
use mathlib.Core.Path.{◌≡◌, refl, ap, ◌∙◌}
use mathlib.Core.List.{List, [], ◌∷◌, ◌++◌, append_assoc}
use native.Mathlib.Omega.{arith}
use lib.ListN.{length, take, drop, set, length-append, length-take, length-drop, length-set}
use Rattle.plants.specs.declared.Plants.{Plants}
use Rattle.plants_layout.specs.Layout.{bits, state_words}
use Rattle.plants_layout.proofs.Writing.{front, last_three}
use Rattle.plants_layout.proofs.Walking.{length-bits}

pub same_size : (d l s : List ℕ) (at n : ℕ) → length s ≡ n → at + n ≤ length d → l ≡ take at d ++ (s ++ drop (at + n) d) → length l ≡ length d
same_size d l s at n e h k = ap length k ∙ simp (length-append, length-take, length-drop) (omega arith)

first_word : (w : List ℕ) (n : ℕ) → 0 < length w → take 1 (set w 0 n) ≡ n ∷ []
first_word [] n h = absurd (omega arith)
first_word (x ∷ w) n h = refl

module _ (s : Plants) (w : List ℕ) (e : length w ≡ 49) (u : length s.up ≡ 15) (p : length s.partitioned ≡ 15) (t : length s.stable_until ≡ 15)
    (w₁ : List ℕ) (k₁ : w₁ ≡ take 1 (set w 0 s.n) ++ (bits s.up ++ drop 16 (set w 0 s.n))) where
  pub size₁ : length w₁ ≡ 49
  size₁ =
      let z : length (set w 0 s.n) ≡ 49 = simp length-set (omega arith) in
      same_size (set w 0 s.n) w₁ (bits s.up) 1 15 (length-bits s.up ∙ u) (omega arith) k₁ ∙ z

  module _ (w₂ : List ℕ) (k₂ : w₂ ≡ take 16 w₁ ++ (bits s.partitioned ++ drop 31 w₁)) where
    pub size₂ : length w₂ ≡ 49
    size₂ = same_size w₁ w₂ (bits s.partitioned) 16 15 (length-bits s.partitioned ∙ p) (omega (arith, size₁)) k₂ ∙ size₁

    module _ (w₃ : List ℕ) (k₃ : w₃ ≡ take 31 w₂ ++ (s.stable_until ++ drop 46 w₂)) where
      size₃ : length w₃ ≡ 49
      size₃ = same_size w₂ w₃ s.stable_until 31 15 t (omega (arith, size₂)) k₃ ∙ size₂

      front₁ : take 16 w₁ ≡ s.n ∷ bits s.up
      front₁ = front (set w 0 s.n) w₁ (s.n ∷ []) (bits s.up) 1 15 refl (length-bits s.up ∙ u) (first_word w s.n (omega arith)) k₁

      front₂ : take 31 w₂ ≡ (s.n ∷ bits s.up) ++ bits s.partitioned
      front₂ =
          front w₁ w₂ (s.n ∷ bits s.up) (bits s.partitioned) 16 15 (omega (arith, length-bits s.up)) (length-bits s.partitioned ∙ p) front₁ k₂

      front₃ : take 46 w₃ ≡ ((s.n ∷ bits s.up) ++ bits s.partitioned) ++ s.stable_until
      front₃ =
          front w₂ w₃ ((s.n ∷ bits s.up) ++ bits s.partitioned) s.stable_until 31 15
          (length-append (s.n ∷ bits s.up) (bits s.partitioned) ∙ omega (arith, length-bits s.up, length-bits s.partitioned))
          t front₂ k₃

      pub stored : set (set (set w₃ 46 s.crashes) 47 s.restarts) 48 s.reboots ≡ state_words s
      stored =
          last_three w₃ (((s.n ∷ bits s.up) ++ bits s.partitioned) ++ s.stable_until) 46 s.crashes s.restarts s.reboots size₃ front₃
          ∙ simp append_assoc

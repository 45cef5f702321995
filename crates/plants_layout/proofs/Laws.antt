-- What a reader may expect of the layout: a state's words are 49 and have the shape of a state's, and the state that they are is the
-- state that they were; and the numbers of the faults are the script's. Assumes nothing.
use Prim.Native.Nat.{ℕ, zero, suc, ◌+◌, ◌≤◌}
use mathlib.Core.Path.{◌≡◌, refl, sym, ap, ◌∙◌}
use mathlib.Core.Bool.{Bool, true, false}
use mathlib.Core.List.{List, [], ◌∷◌, ◌++◌, append-nil, append_assoc}
use native.Mathlib.Omega.{arith}
use lib.ListN.{length, take, drop, get_or, length-append}
use lib.Seq.{take_at, drop_at, drop-drop, get_or-drop}
use Rattle.script.specs.Faults.{fault_number}
use Rattle.basis.specs.Basis.{plant_count}
use Rattle.plants.specs.declared.Plants.{Plants}
use Rattle.plants_layout.specs.Layout.{bits, flags_in, all_bits, flag_words_fit, plants_in, state_words, shaped, fault_in}
use Rattle.plants_layout.proofs.Walking.{length-bits}

-- flags to words and back
flags_back : (fs : List Bool) → flags_in (bits fs) ≡ fs
unfolding flags_in bits
flags_back [] = refl
flags_back (true ∷ fs) = ap (λ (l : List Bool). true ∷ l) (flags_back fs)
flags_back (false ∷ fs) = ap (λ (l : List Bool). false ∷ l) (flags_back fs)

-- flags' words are 0 or 1
fit_before : (fs : List Bool) (l : List ℕ) → all_bits l ≡ true → all_bits (bits fs ++ l) ≡ true
unfolding all_bits bits
fit_before [] l e = e
fit_before (true ∷ fs) l e = fit_before fs l e
fit_before (false ∷ fs) l e = fit_before fs l e

fit : (fs : List Bool) → all_bits (bits fs) ≡ true
unfolding all_bits
fit fs = ap all_bits (sym (append-nil (bits fs))) ∙ fit_before fs [] refl

-- a row of a word, three parts of 15 and more: each part where it stands
module _ (a b t z : List ℕ) (ea : length a ≡ 15) (eb : length b ≡ 15) (et : length t ≡ 15) where
  at₁₅ : drop 15 (a ++ (b ++ (t ++ z))) ≡ b ++ (t ++ z)
  at₁₅ = drop_at a (b ++ (t ++ z)) 15 ea

  at₃₀ : drop 30 (a ++ (b ++ (t ++ z))) ≡ t ++ z
  at₃₀ = sym (drop-drop 15 15 (a ++ (b ++ (t ++ z)))) ∙ (ap (drop 15) at₁₅ ∙ drop_at b (t ++ z) 15 eb)

  at₄₅ : drop 45 (a ++ (b ++ (t ++ z))) ≡ z
  at₄₅ = sym (drop-drop 15 30 (a ++ (b ++ (t ++ z)))) ∙ (ap (drop 15) at₃₀ ∙ drop_at t z 15 et)

  part₁ : take 15 (a ++ (b ++ (t ++ z))) ≡ a
  part₁ = take_at a (b ++ (t ++ z)) 15 ea

  part₂ : take 15 (drop 15 (a ++ (b ++ (t ++ z)))) ≡ b
  part₂ = ap (take 15) at₁₅ ∙ take_at b (t ++ z) 15 eb

  part₃ : take 15 (drop 30 (a ++ (b ++ (t ++ z)))) ≡ t
  part₃ = ap (take 15) at₃₀ ∙ take_at t z 15 et

  past : (i : ℕ) → get_or (a ++ (b ++ (t ++ z))) (45 + i) 0 ≡ get_or z i 0
  past i = sym (get_or-drop 45 (a ++ (b ++ (t ++ z))) i 0) ∙ ap (λ (l : List ℕ). get_or l i 0) at₄₅

module _ (s : Plants) (u : length s.up ≡ 15) (p : length s.partitioned ≡ 15) (t : length s.stable_until ≡ 15) where
  abbrev counts : List ℕ
  counts = s.crashes ∷ s.restarts ∷ s.reboots ∷ []

  up₁₅ : length (bits s.up) ≡ 15
  up₁₅ = length-bits s.up ∙ u

  partitioned₁₅ : length (bits s.partitioned) ≡ 15
  partitioned₁₅ = length-bits s.partitioned ∙ p

  pub words_length : length (state_words s) ≡ 49
  words_length =
      omega (
        arith,
        up₁₅,
        partitioned₁₅,
        length-append (bits s.up) (bits s.partitioned ++ (s.stable_until ++ counts)),
        length-append (bits s.partitioned) (s.stable_until ++ counts),
        length-append s.stable_until counts,
      )

  pub read_back : plants_in (state_words s) ≡ s
  read_back =
      let q = part₁ (bits s.up) (bits s.partitioned) s.stable_until counts up₁₅ partitioned₁₅ t in
      let r = part₂ (bits s.up) (bits s.partitioned) s.stable_until counts up₁₅ partitioned₁₅ t in
      let v = part₃ (bits s.up) (bits s.partitioned) s.stable_until counts up₁₅ partitioned₁₅ t in
      let z = past (bits s.up) (bits s.partitioned) s.stable_until counts up₁₅ partitioned₁₅ t in
      rw (q, r, v, z 0, z 1, z 2, flags_back s.up, flags_back s.partitioned)

  flags_fit : flag_words_fit (state_words s) ≡ true
  flags_fit =
      let l : List ℕ = s.stable_until ++ counts in
      let z : take 30 (bits s.up ++ (bits s.partitioned ++ l)) ≡ bits s.up ++ bits s.partitioned = rw (← append_assoc) (take_at (bits s.up ++ bits s.partitioned) l 30 (length-append (bits s.up) (bits s.partitioned) ∙ omega (arith, up₁₅, partitioned₁₅))) in
      ap all_bits z ∙ fit_before s.up (bits s.partitioned) (fit s.partitioned)

  pub well_shaped : plant_count s.n ≡ true → shaped (state_words s) ≡ 0
  unfolding shaped
  well_shaped e = rw (e, flags_fit)

pub fault_number_lem : (k id : ℕ) → k ≤ 5 → fault_number (fault_in k id) ≡ k
unfolding fault_in
fault_number_lem zero id h = refl
fault_number_lem (suc zero) id h = refl
fault_number_lem (suc (suc zero)) id h = refl
fault_number_lem (suc (suc (suc zero))) id h = refl
fault_number_lem (suc (suc (suc (suc zero)))) id h = refl
fault_number_lem (suc (suc (suc (suc (suc zero))))) id h = refl
fault_number_lem (suc (suc (suc (suc (suc (suc k)))))) id h = absurd (omega arith)

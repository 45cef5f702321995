-- The flags newly set are as many as the plants below n whose flag is set after and was not before, if none past n is. Assumes nothing.
use mathlib.Core.Bool.{Bool, true, false, not, ◌&&◌, and-false, false≢true}
use mathlib.Core.List.{List, [], ◌∷◌}
use mathlib.Core.Path.{◌≡◌, refl, sym, ap, ◌∙◌}
use Prim.Native.Nat.{ℕ, zero, suc, ◌+◌, ◌≤◌, ◌<◌}
use native.Mathlib.Nat.{add-zero}
use native.Mathlib.Omega.{arith}
use lib.ListN.{length, drop, get_or}
use Rattle.basis.specs.Basis.{bit}
use Rattle.plants.specs.State.{none_set}
use Rattle.plants_lineup.specs.Core.{ids_from, those, tally}
use Rattle.plants_liveness.specs.Choice.{newly_set}
use Rattle.plants_lineup.proofs.Tallies.{tally-cons}

-- none of no flags
none_new : (before after : List Bool) → none_set after ≡ true → newly_set before after ≡ 0
unfolding newly_set none_set
none_new [] [] h = refl
none_new [] (x ∷ xs) h = refl
none_new (b ∷ bs) [] h = refl
none_new (b ∷ bs) (true ∷ xs) h = absurd (false≢true h)
none_new (b ∷ bs) (false ∷ xs) h = omega (arith, ap bit (and-false (not b)), none_new bs xs h)

none_left : (k : ℕ) → none_set (drop k []) ≡ true
unfolding none_set
none_left zero = refl
none_left (suc k) = refl

-- the plants from plant a on, so many; a plant's flags are at its place from there
module _ (test : ℕ → Bool) where
  here : (a : ℕ) → test a ≡ test (a + 0)
  here a = ap test (sym (add-zero a))

  next : (a k : ℕ) → test (suc a + k) ≡ test (a + suc k)
  next a k = ap test (omega arith)

  pub newly_counted : (count a : ℕ) (before after : List Bool) → count ≤ length before → none_set (drop count after) ≡ true
      → ((k : ℕ) → k < count → test (a + k) ≡ (not (get_or before k false) && get_or after k false))
      → newly_set before after ≡ tally test (ids_from a count)
  unfolding newly_set none_set ids_from those
  newly_counted zero a before after h past e = none_new before after past
  newly_counted (suc count) a [] after h past e = absurd (omega arith)
  newly_counted (suc count) a (b ∷ bs) [] h past e =
      omega (
        arith,
        tally-cons test a (ids_from (suc a) count),
        ap bit (here a ∙ (e 0 (omega arith) ∙ and-false (not b))),
        newly_counted count (suc a) bs [] (omega arith) (none_left count) (λ k g. next a k ∙ e (suc k) (omega arith)),
        none_new bs [] refl,
      )
  newly_counted (suc count) a (b ∷ bs) (x ∷ xs) h past e =
      omega (
        arith,
        tally-cons test a (ids_from (suc a) count),
        ap bit (here a ∙ e 0 (omega arith)),
        newly_counted count (suc a) bs xs (omega arith) past (λ k g. next a k ∙ e (suc k) (omega arith)),
      )

-- A fold by `&` over a list asks a test of each of its items. Assumes nothing.
use native.Mathlib.Omega.{arith}
use mathlib.Core.Bool.{Bool, true, false, ◌&&◌}
use mathlib.Core.List.{List, [], ◌∷◌}
use mathlib.Core.Path.{◌≡◌, refl, sym, ap, ◌∙◌}
use Prim.Native.Nat.{ℕ, suc, ◌+◌}
use lib.ListN.{length, get_or}
use Rattle.std.specs.List.{fold}
use Rattle.properties_snapshots.specs.Below.{all_below}
use Rattle.properties_snapshots.proofs.Below.{all_same, all_split}

module _ (test : ℕ → Bool) where
  all_items : (xs : List ℕ) (b : Bool) → fold (λ other x. other && test x) b xs ≡ b && all_below (length xs) (λ j. test (get_or xs j 0))
  unfolding all_below
  all_items [] true = refl
  all_items [] false = refl
  all_items (x ∷ xs) b =
      let g : ℕ → Bool = λ j. test (get_or (x ∷ xs) j 0) in
      let z : suc (length xs) ≡ 1 + length xs = omega arith in
      let rest : all_below (length xs) (λ j. test (get_or xs j 0)) ≡ all_below (length xs) (λ k. g (1 + k)) =
      all_same (length xs) (λ j. test (get_or xs j 0)) (λ k. g (1 + k)) (λ k l.
      let y : suc k ≡ 1 + k = omega arith in ap g y) in
      all_items xs (b && test x)
      ∙ (grouped b (test x) (all_below (length xs) (λ j. test (get_or xs j 0)))
      ∙ (ap (λ (u : Bool). b && (test x && u)) rest
      ∙ ap (λ (u : Bool). b && u) (sym (ap (λ (k : ℕ). all_below k g) z ∙ all_split 1 (length xs) g))))
    where
      grouped : (p q r : Bool) → (p && q) && r ≡ p && (q && r)
      grouped true q r = refl
      grouped false q r = refl

  pub all_folded : (xs : List ℕ) → fold (λ other x. other && test x) true xs ≡ all_below (length xs) (λ j. test (get_or xs j 0))
  all_folded xs = all_items xs true

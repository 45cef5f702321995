-- The first answer that is no pass, exactly: it is the answer at some number, and those at the numbers before it pass. Assumes nothing.
use native.Mathlib.Omega.{arith}
use native.Mathlib.Decide.{dec_lt}
use mathlib.Core.Logic.{◌↔◌}
use mathlib.Core.Path.{◌≡◌, refl, sym, ap, ◌∙◌}
use Prim.Native.Nat.{ℕ, zero, suc, ◌+◌, ◌≤◌, ◌<◌}
use Rattle.std.specs.Prelude.{⊤, Result, Ok, Err}
use Rattle.properties_verdicts.specs.Verdicts.{and_then, first_answer}
use Rattle.properties_verdicts.proofs.First.{no_pass}

-- an error at one of the numbers from `from` up, `count` of them, and a pass at those before it
abbrev pub Found : {E : Type 0} → (ℕ → Result ⊤ E) → (from count : ℕ) → E → Type 0
Found f from count x = (j : ℕ) × (from ≤ j) × (j < from + count) × (f j ≡ Err x) × ((k : ℕ) → from ≤ k → k < j → f k ≡ Ok tt)

module _ {E : Type 0} (x : E) where
  found : (f : ℕ → Result ⊤ E) (from count : ℕ) → first_answer f from count ≡ Err x → Found f from count x
  unfolding first_answer
  found f from zero e = absurd (no_pass x (sym e))
  found f from (suc count) e = go (f from) refl e (found f (suc from) count)
    where
      go : (y : Result ⊤ E) → f from ≡ y → and_then y (first_answer f (suc from) count) ≡ Err x
          → (first_answer f (suc from) count ≡ Err x → Found f (suc from) count x) → Found f from (suc count) x
      go (Ok u) q g more =
          let w = more g in (
            w.0,
            omega (arith, w.1),
            omega (arith, w.2),
            w.3,
            λ k l m.
                elim (dec_lt from k) [ yes o ↦ w.4 k o m | no o ↦ let z : k ≡ from = omega arith in ap f z ∙ q ],
          )
      go (Err y) q g more = (from, omega arith, omega arith, q ∙ g, λ k l m. absurd (omega arith))

  found_first : (f : ℕ → Result ⊤ E) (from count j : ℕ) → from ≤ j → j < from + count → f j ≡ Err x → ((k : ℕ) → from ≤ k → k < j → f k ≡ Ok tt)
      → first_answer f from count ≡ Err x
  unfolding first_answer
  found_first f from zero j l m e before = absurd (omega arith)
  found_first f from (suc count) j l m e before =
      elim (dec_lt from j) [
        | yes o ↦
            rw (before from (omega arith) o)
            (found_first f (suc from) count j o (omega arith) e (λ k g h. before k (omega arith) h))
        | no o ↦
            let z : from ≡ j = omega arith in
            rw (ap f z ∙ e)
      ]

  pub first_exactly : (f : ℕ → Result ⊤ E) (from count : ℕ) → (first_answer f from count ≡ Err x) ↔ Found f from count x
  first_exactly f from count = (found f from count, λ w. found_first f from count w.0 w.1 w.2 w.3 w.4)

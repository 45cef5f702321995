-- The call's answer, by where it ends: at its options, at its kind, or at its decision. Assumes nothing.
use Prim.Native.Nat.{ℕ, ◌≤◌, ◌<◌}
use mathlib.Core.Path.{◌≡◌, refl, sym, ap, ◌∙◌}
use mathlib.Core.Bool.{Bool, true, false}
use mathlib.Core.List.{List, [], ◌∷◌}
use native.Mathlib.Omega.{arith}
use borrow.Author.Tests.{le-leb, lt-leb}
use lib.Dec.{leb}
use Rattle.std.specs.Prelude.{Result, Ok, Err}
use Rattle.basis.proofs.Laws.{both}
use Rattle.chance.specs.Probability.{good_word}
use Rattle.nights.specs.Net.{Options, Fate, last_kind, good_options}
use Rattle.nights.specs.Draws.{Decided, decided}
use Rattle.nights.specs.Tests.{done, refused, Test, verdict, option_tests, allowed, refusal}
use Rattle.network_options.specs.declared.Refusal.{Refusal}
use Rattle.network_options.proofs.OptionForms.{good_done}
use Rattle.network_fates.specs.declared.Decision.{Decision}
use Rattle.network_fates.specs.declared.Decision.TheVariants.{Lost, Once, Twice}
use Rattle.network_fates.specs.Answers.{decided_by, decision_of}
use Rattle.network_fate.specs.Fates.{fate_answered, Decides}

-- the tests of options before others: a refusal answers, and what passes them is left to the others
module _ (o : Options) (more : List Test) where
  stops : (k : ℕ) → refused k ≡ verdict (option_tests o []) → verdict (option_tests o more) ≡ refused k
  unfolding verdict
  stops k e = go (good_word o.loss) (good_word o.replay) (leb o.least o.mean) e
    where
      go : (a b c : Bool)
          → refused k ≡ verdict (record { passes = a; number = 20 } ∷ record { passes = b; number = 21 } ∷ record { passes = c; number = 22 } ∷ [])
          → verdict (record { passes = a; number = 20 } ∷ record { passes = b; number = 21 } ∷ record { passes = c; number = 22 } ∷ more) ≡ refused k
      go true true true q = let z : ◌≡◌ {A = ℕ} 0 1 = cc in absurd (omega arith)
      go true true false q = sym q
      go true false c q = sym q
      go false b c q = sym q

  goes_on : verdict (option_tests o []) ≡ done → verdict (option_tests o more) ≡ verdict more
  unfolding verdict good_options
  goes_on e =
      let a = both (good_word o.loss) _ (good_done o e) in
      let b = both (good_word o.replay) _ a.1 in
      rw (a.0, b.0, b.1)

-- what is decided is no refusal
accepts : (d : Decision) → allowed (decided_by d).fate ≡ true
accepts (Lost d) = refl
accepts (Once t l d x) = refl
accepts (Twice c t k l d x) = refl

module _ (o : Options) (now kind : ℕ) (draws extras : List ℕ) where
  -- the tests behind those of the options
  abbrev others : Fate → List Test
  others f = record { passes = leb kind last_kind; number = 24 } ∷ record { passes = allowed f; number = refusal f } ∷ []

  abbrev here : List Test
  here = others (decided o now kind draws extras).fate

  pub bad_options : (k : ℕ) → refused k ≡ verdict (option_tests o []) → fate_answered o now kind draws extras ≡ refused k
  bad_options k e = stops o here k e

  module _ (g : verdict (option_tests o []) ≡ done) where
    pub bad_kind : last_kind < kind → fate_answered o now kind draws extras ≡ refused 24
    unfolding verdict
    bad_kind h = let z : verdict here ≡ refused 24 = rw (lt-leb kind last_kind h) in goes_on o here g ∙ z

    pub decides : kind ≤ last_kind → (r : Result Decision Refusal) → decision_of r ≡ decided o now kind draws extras
        → Decides r o now kind draws extras
    unfolding verdict
    decides h (Ok d) e =
        let y : verdict here ≡ verdict (others (decided_by d).fate) = ap (λ (x : Decided). verdict (others x.fate)) (sym e) in
        let z : verdict (others (decided_by d).fate) ≡ done = rw (le-leb kind last_kind h, accepts d) in
        (goes_on o here g ∙ (y ∙ z), e)
    decides h (Err r) e =
        let y : verdict here ≡ verdict (others (decision_of (Err r)).fate) = ap (λ (x : Decided). verdict (others x.fate)) (sym e) in
        goes_on o here g ∙ (y ∙ rw (le-leb kind last_kind h))

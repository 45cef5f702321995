-- An answer judges places: it is a pass where all of them hold, and else tells the first one that fails. Answers one after the other
-- judge their places together, if the places of each come before those of the next. Assumes nothing.
use native.Mathlib.Omega.{arith}
use native.Mathlib.Decide.{dec_lt}
use mathlib.Core.Bool.{Bool, true, false, cond, false≢true}
use mathlib.Core.List.{[], ◌∷◌}
use mathlib.Core.Logic.{◌↔◌, inl, inr, ⊎_elim}
use mathlib.Core.Path.{◌≡◌, refl, sym, ap, ◌∙◌, subst}
use Prim.Native.Nat.{ℕ, ◌+◌, ◌≤◌, ◌<◌}
use lib.ListN.{get_or}
use Rattle.properties_snapshots.specs.Cluster.{Cluster}
use Rattle.std.specs.Prelude.{⊤, Result, Ok, Err}
use Rattle.properties_verdicts.specs.Verdicts.{property_number, and_then, first_answer, broken}
use Rattle.properties_verdicts.proofs.First.{no_pass, first_pass}
use Rattle.properties.specs.Places.{Place, Before, HoldsAt}
use Rattle.properties.proofs.Found.{first_exactly}
use Rattle.properties_verdicts.specs.declared.Break.{Break}
use Rattle.properties_verdicts.specs.declared.Property.{Property}
use Rattle.properties_verdicts.specs.declared.Property.TheVariants.{CommitNumber, PrefixAgreement, NoDuplicates, Durability, Convergence}

-- ---- the order of places
abbrev pub number : Place → ℕ
number a = property_number a.property

-- a property by its number
pub same_number : (p q : Property) → property_number p ≡ property_number q → p ≡ q
unfolding property_number
same_number p q e = sym (back p) ∙ (ap at e ∙ back q)
  where
    at : ℕ → Property
    at k =
        get_or
        (CommitNumber ∷ CommitNumber ∷ CommitNumber ∷ PrefixAgreement ∷ NoDuplicates ∷ Durability ∷ Durability ∷ Convergence ∷ [])
        k CommitNumber

    back : (p : Property) → at (property_number p) ≡ p
    back CommitNumber = refl
    back PrefixAgreement = refl
    back NoDuplicates = refl
    back Durability = refl
    back Convergence = refl

module _ (a b : Place) where
  pub same_place : a.property ≡ b.property → a.plant ≡ b.plant → a.index ≡ b.index → a.test ≡ b.test → a ≡ b
  same_place p r i t = λ k. record { property = p k; plant = r k; index = i k; test = t k }

  -- what is known of a place that comes before another
  module _ (h : Before a b) where
    pub before_number : number a ≤ number b
    before_number = ⊎_elim (λ l. omega arith) (λ m. omega (arith, ap property_number m.0)) h

    pub before_plant : number a ≡ number b → a.plant ≤ b.plant
    before_plant e = ⊎_elim (λ l. absurd (omega arith)) (λ m. ⊎_elim (λ l. omega arith) (λ k. omega arith) m.1) h

    pub before_index : number a ≡ number b → a.plant ≡ b.plant → a.index ≤ b.index
    before_index e f =
        ⊎_elim (λ l. absurd (omega arith))
        (λ m. ⊎_elim (λ l. absurd (omega arith)) (λ k. ⊎_elim (λ l. omega arith) (λ o. omega arith) k.1) m.1) h

    pub before_test : number a ≡ number b → a.plant ≡ b.plant → a.index ≡ b.index → a.test < b.test
    before_test e f g =
        ⊎_elim (λ l. absurd (omega arith))
        (λ m.
        ⊎_elim (λ l. absurd (omega arith)) (λ k. ⊎_elim (λ l. absurd (omega arith)) (λ o. o.1) k.1) m.1) h

  -- two places of which neither comes before the other are one
  neither_before : (Before a b → ⊥) → (Before b a → ⊥) → a ≡ b
  neither_before x y =
      let p = same_number a.property b.property (meet (number a) (number b) (λ h. x (inl h)) (λ h. y (inl h))) in
      let r = meet a.plant b.plant (λ h. x (inr (p, inl h))) (λ h. y (inr (sym p, inl h))) in
      let i = meet a.index b.index (λ h. x (inr (p, inr (r, inl h)))) (λ h. y (inr (sym p, inr (sym r, inl h)))) in
      let t = meet a.test b.test (λ h. x (inr (p, inr (r, inr (i, h))))) (λ h. y (inr (sym p, inr (sym r, inr (sym i, h))))) in
      same_place p r i t
    where
      meet : (m n : ℕ) → (m < n → ⊥) → (n < m → ⊥) → m ≡ n
      meet m n l k = omega arith

-- ---- an answer and its places
abbrev pub broken_at : Place → Result ⊤ Break
broken_at a = Err (broken a.property a.plant a.index a.test)

same_broken : (a b : Place) → broken_at a ≡ broken_at b → a ≡ b
same_broken a b e = let q : broken a.property a.plant a.index a.test ≡ broken b.property b.plant b.index b.test = cc in
    same_place a b (ap (λ (x : Break). x.property) q) (ap (λ (x : Break). x.plant) q) (ap (λ (x : Break). x.index) q) (ap (λ (x : Break). x.test) q)

module _ (c : Cluster) where
  -- the first of some places that fails
  pub record FirstIn (S : Place → Type 0) (a : Place) : Type 0 where
    pub asked : S a
    pub fails : HoldsAt c a → ⊥
    pub before : (b : Place) → S b → Before b a → HoldsAt c b

  -- an answer that judges them
  pub data Judged (S : Place → Type 0) (x : Result ⊤ Break) : Type 0 where
    passes : x ≡ Ok tt → ((b : Place) → S b → HoldsAt c b) → Judged S x
    breaks : (a : Place) → x ≡ broken_at a → FirstIn S a → Judged S x

  -- what it answers tells what holds, and the other way round
  module _ (S : Place → Type 0) where
    only_one : (a b : Place) → FirstIn S a → FirstIn S b → a ≡ b
    only_one a b f g =
        neither_before a b (λ h. f.fails (g.before a f.asked h)) (λ h. g.fails (f.before b g.asked h))

    pub broken_is : (x : Result ⊤ Break) → Judged S x → (a : Place) → (x ≡ broken_at a) ↔ FirstIn S a
    broken_is x (passes e h) a = (
      λ q. absurd (no_pass (broken a.property a.plant a.index a.test) (sym q ∙ e)),
      λ f. absurd (f.fails (h a f.asked)),
    )
    broken_is x (breaks b e f) a = (λ q. subst (FirstIn S) (same_broken b a (sym e ∙ q)) f, λ g. e ∙ ap broken_at (only_one b a f g))

    pub pass_is : (x : Result ⊤ Break) → Judged S x → (x ≡ Ok tt) ↔ ((b : Place) → S b → HoldsAt c b)
    pass_is x (passes e h) = (λ q. h, λ q. e)
    pass_is x (breaks a e f) = (
      λ q. absurd (no_pass (broken a.property a.plant a.index a.test) (sym e ∙ q)),
      λ h. absurd (f.fails (h a f.asked)),
    )

    -- a test of the only place
    pub one_judged : (a : Place) (b : Bool) → S a → ((d : Place) → S d → d ≡ a) → (b ≡ true) ↔ HoldsAt c a → Judged S (cond b (Ok tt) (broken_at a))
    one_judged a true s only h = passes refl (λ d m. subst (HoldsAt c) (sym (only d m)) (h.0 refl))
    one_judged a false s only h =
        breaks a refl
        (record {
          asked = s;
          fails = λ g. false≢true (h.1 g);
          before = λ d m o.
              let l = before_test a a (subst (λ (b : Place). Before b a) (only d m) o) refl refl refl in absurd (omega arith);
        })

  -- the same places
  pub same_judged : (S T : Place → Type 0) (x : Result ⊤ Break) → ((d : Place) → S d ↔ T d) → Judged S x → Judged T x
  same_judged S T x e (passes q h) = passes q (λ d m. h d ((e d).1 m))
  same_judged S T x e (breaks a q f) =
      breaks a q
      (record { asked = (e a).0 f.asked; fails = f.fails; before = λ b m. f.before b ((e b).1 m) })

  -- places that have a number which does not fall in their order
  module _ (S : Place → Type 0) (key : Place → ℕ) (rises : (a b : Place) → S a → S b → Before a b → key a ≤ key b) where
    -- those up to a bound, and then those over it
    pub then_judged : (bound : ℕ) (x y : Result ⊤ Break) → Judged (λ d. S d × (key d ≤ bound)) x → Judged (λ d. S d × (bound < key d)) y
        → Judged S (and_then x y)
    then_judged bound x y (passes e h) (passes q g) =
        passes (rw e q) (λ b m. elim (dec_lt bound (key b)) [ yes o ↦ g b (m, o) | no o ↦ h b (m, omega arith) ])
    then_judged bound x y (passes e h) (breaks a q f) =
        breaks a (rw e q)
        (record {
          asked = f.asked.0;
          fails = f.fails;
          before = λ b m o.
              elim (dec_lt bound (key b)) [ yes l ↦ f.before b (m, l) o | no l ↦ h b (m, omega arith) ];
        })
    then_judged bound x y (breaks a e f) w =
        breaks a (rw e)
        (record {
          asked = f.asked.0;
          fails = f.fails;
          before = λ b m o. f.before b (m, omega (arith, rises b a m f.asked.0 o, f.asked.1)) o;
        })

    -- those of each number in turn
    pub first_judged : (f : ℕ → Result ⊤ Break) (from count : ℕ) → ((d : Place) → S d → (from ≤ key d) × (key d < from + count))
        → ((j : ℕ) → from ≤ j → j < from + count → Judged (λ d. S d × (key d ≡ j)) (f j)) → Judged S (first_answer f from count)
    first_judged f from count range each = go (first_answer f from count) refl
      where
        held : (d : Place) → S d → f (key d) ≡ Ok tt → HoldsAt c d
        held d m e =
            let r = range d m in
            (pass_is (λ b. S b × (key b ≡ key d)) (f (key d)) (each (key d) r.0 r.1)).0 e d (m, refl)

        go : (x : Result ⊤ Break) → first_answer f from count ≡ x → Judged S (first_answer f from count)
        go (Ok x) e = passes e (λ d m. let r = range d m in held d m (first_pass f from count e (key d) r.0 r.1))
        go (Err x) e =
            let a : Place = record { property = x.property; plant = x.plant; index = x.index; test = x.test } in
            let w = (first_exactly x f from count).0 e in
            let g = (broken_is (λ b. S b × (key b ≡ w.0)) (f w.0) (each w.0 w.1 w.2) a).0 w.3 in
            breaks a e
            (record {
              asked = g.asked.0;
              fails = g.fails;
              before = λ b m o.
                  elim (dec_lt (key b) w.0) [
                    | yes l ↦ held b m (w.4 (key b) (range b m).0 l)
                    | no l ↦ g.before b (m, omega (arith, rises b a m g.asked.0 o, g.asked.1)) o
                  ];
            })

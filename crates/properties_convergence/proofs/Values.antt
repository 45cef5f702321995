-- The test of two values says whether they are equal. Assumes nothing.
use mathlib.Core.Bool.{true, false, false≢true}
use mathlib.Core.Path.{◌≡◌, refl}
use Rattle.properties_convergence.specs.Convergence.{is_yes}

pub told_same : {A : Type 0} (d : Dec A) → A → is_yes d ≡ true
told_same (yes e) a = refl
told_same (no h) a = absurd (h a)

pub told_other : {A : Type 0} (d : Dec A) → (A → ⊥) → is_yes d ≡ false
told_other (yes e) h = absurd (h e)
told_other (no k) h = refl

pub same_told : {A : Type 0} (d : Dec A) → is_yes d ≡ true → A
same_told (yes a) e = a
same_told (no h) e = absurd (false≢true e)

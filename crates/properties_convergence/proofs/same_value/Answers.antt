-- `properties_convergence::same_value` meets its contract: two numbers are equal exactly if their bits are. Assumes nothing.
use borrow.Author.Tests.{eq-eqb, ne_eqb}
use mathlib.Core.Path.{◌≡◌, sym, ap, ◌∙◌}
use mir.Facts.{to_z-of_z}
use mir.Syntax.{Width, w64}
use mir.Val.{SFits, to_z, of_z}
use lib.Dec.{eqb}
use lib.IntN.{ℤ, ℤ_discrete}
use Rattle.properties_convergence.specs.Convergence.{is_yes, same_value}
use Rattle.properties_convergence.proofs.same_value.Goals as goal

-- the code compares bits
same_bits : {w : Width} (a b : ℤ) → SFits w a → SFits w b → of_z w a ≡ of_z w b → a ≡ b
same_bits {w} a b f g e = sym (to_z-of_z f) ∙ (ap (to_z w) e ∙ to_z-of_z g)

compared : (a b : ℤ) → SFits w64 a → SFits w64 b → (d : Dec (a ≡ b)) → eqb (of_z w64 a) (of_z w64 b) ≡ is_yes d
compared a b f g (yes e) = eq-eqb (of_z w64 a) (of_z w64 b) (ap (of_z w64) e)
compared a b f g (no h) = ne_eqb (of_z w64 a) (of_z w64 b) (λ e. h (same_bits a b f g e))

pub returns : goal.returns
unfolding same_value
returns c = compared c.args.a c.args.b c.ranges.a c.ranges.b (ℤ_discrete c.args.a c.args.b)

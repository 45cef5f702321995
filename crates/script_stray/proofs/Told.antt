-- What a stray line that is told, or none, says of its number. Assumes nothing.
use Rattle.std.proofs.Common.{◌≡◌, refl, sym, ◌∙◌, ℕ, zero, suc, Option, None, Some, arith}
use Rattle.script_stray.specs.Stray.{line_told}

pub told_some : (m n : ℕ) → Some n ≡ line_told m → (n ≡ m) × (n ≡ 0 → ⊥)
unfolding line_told
told_some zero n e = absurd (cc)
told_some (suc m) n e = let f : n ≡ suc m = cc in (f, λ z. omega (arith, f, z))

pub told_none : (m : ℕ) → None ≡ line_told m → 0 ≡ m
unfolding line_told
told_none zero e = refl
told_none (suc m) e = absurd (cc)

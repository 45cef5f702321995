-- A conjunction with a part that fails. Assumes nothing.
use mathlib.Core.Path.{◌≡◌, refl}
use mathlib.Core.Bool.{Bool, true, false, ◌&&◌}

pub first : (a b : Bool) → a ≡ false → a && b ≡ false
first a b e = rw e

pub second : (a b : Bool) → b ≡ false → a && b ≡ false
second true b e = e
second false b e = refl

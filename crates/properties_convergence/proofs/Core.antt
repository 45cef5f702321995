-- What the test of the core leaves known of it. Assumes nothing.
use borrow.Author.Tests.{ltb-true}
use native.Mathlib.Omega.{arith}
use mathlib.Core.Bool.{true, ◌&&◌}
use mathlib.Core.List.{List, [], ◌∷◌}
use mathlib.Core.Path.{◌≡◌}
use Prim.Native.Nat.{ℕ, zero, suc, ◌<◌}
use lib.Dec.{leb, ltb}
use lib.ListN.{length, get_or}
use Rattle.basis.proofs.Laws.{both}
use Rattle.properties_convergence.specs.Core.{rises_below, core_fits}

-- a core that rises below n has ids below n, and one at least
rising : (n least : ℕ) (core : List ℕ) → rises_below n least core ≡ true → (k : ℕ) → k < length core → get_or core k 0 < n
unfolding rises_below
rising n least [] e k h = absurd (omega arith)
rising n least (id ∷ ids) e zero h =
    let a = both (leb least id && ltb id n) (rises_below n (suc id) ids) e in
    ltb-true id n (both (leb least id) (ltb id n) a.0).1
rising n least (id ∷ ids) e (suc k) h =
    let a = both (leb least id && ltb id n) (rises_below n (suc id) ids) e in
    rising n (suc id) ids a.1 k (omega arith)

pub core_known : (n : ℕ) (core : List ℕ) → core_fits n core ≡ true → (0 < length core) × ((k : ℕ) → k < length core → get_or core k 0 < n)
unfolding core_fits
core_known n core e =
    let a = both (ltb 0 (length core)) (rises_below n 0 core) e in
    (ltb-true 0 (length core) a.0, rising n 0 core a.1)

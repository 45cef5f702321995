-- What is said of every number below a bound: a list by its places, a test of all, a count, a maximum. Assumes nothing.
use Rattle.std.specs.Prelude.{Bool, true, cond, ◌&&◌, List, [], ◌∷◌, ◌++◌, ℕ, zero, suc, max}

-- f 0, f 1, and so on: n of them
unfoldable pub numbered : {A : Type 0} → ℕ → (ℕ → A) → List A
numbered zero f = []
numbered (suc n) f = numbered n f ++ (f n ∷ [])

-- the test holds of every number below n
unfoldable pub all_below : ℕ → (ℕ → Bool) → Bool
all_below zero h = true
all_below (suc n) h = all_below n h && h n

-- of how many
unfoldable pub count_below : ℕ → (ℕ → Bool) → ℕ
count_below zero h = 0
count_below (suc n) h = cond (h n) (suc (count_below n h)) (count_below n h)

-- the greatest of z, f 0, and so on: n of them
unfoldable pub max_below : ℕ → (ℕ → ℕ) → ℕ → ℕ
max_below zero f z = z
max_below (suc n) f z = max (max_below n f z) (f n)

-- The array of a list of records: their words, then zeros. Assumes nothing.
use Rattle.std.specs.Prelude.{ℕ, ◌-◌, ◌*◌, Bool, true, false, cond, List, [], ◌∷◌, ◌++◌, eqb, length, replicate}
use Rattle.nights.specs.Record.{Record, record_size, record_words}
use Rattle.nights.specs.Net.{capacity}

-- how many words the array has
abbrev pub array_size : ℕ
array_size = record_size * capacity

unfoldable pub packed : List Record → List ℕ
packed l = record_words l ++ replicate (array_size - record_size * length l) 0

-- words that are all 0
unfoldable pub zeros : List ℕ → Bool
zeros [] = true
zeros (x ∷ xs) = cond (eqb x 0) (zeros xs) false

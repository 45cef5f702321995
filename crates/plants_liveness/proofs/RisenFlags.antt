-- One turn of the loop over flags that rise. Assumes nothing.
use mathlib.Core.Bool.{Bool, false, not, ◌&&◌}
use mathlib.Core.List.{List}
use mathlib.Core.Path.{◌≡◌}
use Prim.Native.Nat.{ℕ, ◌+◌, ◌≤◌, ◌<◌}
use native.Mathlib.Numerals.{add-one}
use lib.ListN.{length, drop, get_or, drop_of_length-le}
use lib.Seq.{drop-cons}
use Rattle.basis.specs.Basis.{bit}
use Rattle.plants_liveness.specs.Choice.{newly_set}

module _ (before after : List Bool) (i : ℕ) where
  pub risen_next : i < length before → i < length after
      → newly_set (drop i before) (drop i after) ≡ bit (not (get_or before i false) && get_or after i false) + newly_set (drop (i + 1) before) (drop (i + 1) after)
  unfolding newly_set
  risen_next h k = rw (add-one i, drop-cons before i false h, drop-cons after i false k)

  pub risen_end : length before ≤ i → length after ≤ i → newly_set (drop i before) (drop i after) ≡ 0
  unfolding newly_set
  risen_end h k = rw (drop_of_length-le before h, drop_of_length-le after k)

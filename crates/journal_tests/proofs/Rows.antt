-- The words of a record, from one place of the journal up to another: how many they are, and each by its place in the journal. Assumes
-- nothing.
use Prim.Native.Nat.{ℕ, ◌+◌, ◌-◌, ◌≤◌, ◌<◌}
use mathlib.Core.Path.{◌≡◌, ◌∙◌}
use mathlib.Core.List.{List}
use native.Mathlib.Omega.{arith}
use Rattle.std.proofs.Common.{add-zero}
use Rattle.std.proofs.lemmas.List.{get_or-take, get_or-drop, length-take, length-drop}
use lib.ListN.{length, take, drop, get_or}

module _ (w : List ℕ) (b e : ℕ) (i : b ≤ e) (o : e ≤ length w) where
  pub row_length : length (take (e - b) (drop b w)) ≡ e - b
  row_length = omega (arith, length-take (e - b) (drop b w), length-drop b w)

  pub row_at : (k : ℕ) → k < length (take (e - b) (drop b w)) → get_or (take (e - b) (drop b w)) k 0 ≡ get_or w (b + k) 0
  row_at k h = get_or-take (e - b) (drop b w) k 0 (omega (arith, row_length)) ∙ get_or-drop b w k 0

  pub row_first : 0 < length (take (e - b) (drop b w)) → get_or (take (e - b) (drop b w)) 0 0 ≡ get_or w b 0
  row_first h = rw add-zero at (row_at 0 h)

-- A plant's copy in words. Assumes nothing.
use borrow.Author.Tests.{le-ltb}
use native.Mathlib.Omega.{arith}
use native.Mathlib.Decide.{dec_lt}
use mathlib.Core.Bool.{Bool, true, false, not, ◌&&◌}
use mathlib.Core.List.{List}
use mathlib.Core.Path.{◌≡◌, refl}
use Prim.Native.Nat.{ℕ, ◌<◌}
use lib.Dec.{eqb, ltb}
use lib.ListN.{get_or}
use Rattle.properties_snapshots.specs.Cluster.{LogEntry, same_entry, entry_in, cluster_in}
use Rattle.properties_snapshots.specs.Layout.{recovering_at, size_at, entry_at}
use Rattle.properties_snapshots.proofs.Held.{recovering_held, size_held, entry_held}
use Rattle.properties_durability.specs.Durability.{holds_copy}

module _ (n : ℕ) (p l t : List ℕ) (i q : ℕ) (e : LogEntry) (h : q < n) where
  pub holds_in_words : holds_copy (cluster_in n p l t) i e q ≡ not (eqb (get_or p (recovering_at q) 0) 1) && ltb i (get_or p (size_at q) 0) && same_entry (entry_in l (entry_at q i)) e
  unfolding holds_copy
  holds_in_words =
      elim (dec_lt i (get_or p (size_at q) 0)) [
        | yes g ↦ rw (recovering_held n p l t q h, size_held n p l t q h, entry_held n p l t q h i g)
        | no g ↦
            rw (recovering_held n p l t q h, size_held n p l t q h, le-ltb i (get_or p (size_at q) 0) (omega arith))
            (neither (not (eqb (get_or p (recovering_at q) 0) 1)) _ _)
      ]
    where
      neither : (b x y : Bool) → b && false && x ≡ b && false && y
      neither true x y = refl
      neither false x y = refl

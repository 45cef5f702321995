-- A record by its sort, and one that is none. Assumes nothing.
use Prim.Native.Nat.{ℕ, ◌+◌, ◌-◌, ◌*◌, ◌/◌, ◌≤◌, ◌<◌}
use mathlib.Core.Path.{◌≡◌, refl}
use mathlib.Core.List.{List}
use mathlib.Core.Bool.{Bool, true, false, cond, ◌&&◌}
use native.Mathlib.Omega.{arith}
use borrow.Author.Tests.{lt-leb, ne_eqb, eqb-true}
use lib.Dec.{leb, eqb}
use lib.ListN.{length, get_or}
use Rattle.nights.specs.Net.{capacity, Plain}
use Rattle.nights.specs.Journal.{Undone as Told, misfit, undo_as, undo_one, checked}
use Rattle.nights.proofs.Failing.{first, second}

either : (b : Bool) (u : Told) → cond b u u ≡ u
either true u = refl
either false u = refl

too_long : (z k e : ℕ) (r : Bool) → e < 2 + z → eqb z k && (leb (2 + k) e && r) ≡ false
too_long z k e r h = go (eqb z k) refl
  where
    go : (b : Bool) → eqb z k ≡ b → b && (leb (2 + k) e && r) ≡ false
    go true p = first (leb (2 + k) e) r (lt-leb (2 + k) e (omega (arith, eqb-true z k p)))
    go false p = refl

module _ (n : Plain) (w : List ℕ) (e : ℕ) where
  abbrev size : ℕ
  size = get_or w (e - 1) 0

  -- one that would start before the first
  pub no_room : e < 2 + size → checked (undo_one n w e) ≡ misfit
  unfolding undo_one undo_as checked
  no_room h =
      let t = (size - 2) / 8 in
      rw (
        too_long size 6 e (leb 1 n.sent) h,
        second (eqb size (8 * t + 2)) (leb (2 + size) e && (leb t n.delivered && leb (length n.pending + t) capacity))
            (first (leb (2 + size) e) (leb t n.delivered && leb (length n.pending + t) capacity) (lt-leb (2 + size) e h)),
        too_long size 7 e (leb (get_or w (e - size + 4) 0) 1) h,
        second (eqb (get_or w (e - 2) 0) 3) false refl,
        either (eqb (get_or w (e - 2) 0) 2) misfit,
        either (eqb (get_or w (e - 2) 0) 1) misfit,
      )

  pub no_sort : (get_or w (e - 2) 0 ≡ 1 → ⊥) → (get_or w (e - 2) 0 ≡ 2 → ⊥) → (get_or w (e - 2) 0 ≡ 3 → ⊥) → checked (undo_one n w e) ≡ misfit
  unfolding undo_one undo_as checked
  no_sort a b c = rw (ne_eqb (get_or w (e - 2) 0) 1 a, ne_eqb (get_or w (e - 2) 0) 2 b, ne_eqb (get_or w (e - 2) 0) 3 c)

  pub by_sort : (k : ℕ) → get_or w (e - 2) 0 ≡ k → 2 + size ≤ e
      → checked (undo_as k (e - (e - size)) (e - size) n w e) ≡ checked (undo_one n w e)
  unfolding undo_one
  by_sort k h r = let z : e - (e - size) ≡ size = omega arith in rw (h, z)

-- The records of a journal put back one after the other: the walk of `put_back`. Assumes nothing.
use Prim.Native.Nat.{ℕ, suc, ◌+◌, ◌-◌, ◌*◌, ◌≤◌, ◌<◌}
use mathlib.Core.Path.{◌≡◌, sym, ap, ◌∙◌}
use mathlib.Core.List.{List}
use native.Mathlib.Omega.{arith}
use native.Mathlib.Nat.{sub-zero}
use lib.ListN.{length}
use Rattle.nights.specs.Record.{Record, record_at, recs}
use Rattle.network_queue.specs.Places.{inserted_words, inserted_all}
use Rattle.network_queue.proofs.Packing.{length_inserted}

-- after i records the others are still to be put in
pub record Putting (v : List ℕ) (n : ℕ) (journal : List ℕ) (b t : ℕ) (w : List ℕ) (i : ℕ) : Type 0 where
  pub within : i ≤ t
  pub size : length w ≡ 1024
  pub rest : inserted_all v n (recs journal b t) ≡ inserted_all w (n + i) (recs journal (b + i * 8) (t - i))

module _ (v : List ℕ) (n : ℕ) (journal : List ℕ) (b t : ℕ) where
  pub start : length v ≡ 1024 → Putting v n journal b t v 0
  start h =
      let y : n + 0 ≡ n = omega arith in
      let z : b + 0 * 8 ≡ b = omega arith in
      record { within = omega arith; size = h; rest = rw (y, z, sub-zero) }

  module _ (w : List ℕ) (i : ℕ) (inv : Putting v n journal b t w i) where
    pub put_one : n + t ≤ 128 → i < t → (x : Record) → x ≡ record_at journal (b + i * 8) → (z : List ℕ) → z ≡ inserted_words w (n + i) x
        → Putting v n journal b t z (i + 1)
    unfolding recs inserted_all
    put_one f h x e z q =
        let a : t - i ≡ suc (t - (i + 1)) = omega arith in
        let c : b + i * 8 + 8 ≡ b + (i + 1) * 8 = omega arith in
        let d : n + i + 1 ≡ n + (i + 1) = omega arith in
        record {
          within = omega arith;
          size = ap length q ∙ (length_inserted w (n + i) x (omega (arith, inv.size)) ∙ inv.size);
          rest = inv.rest ∙ rw (a, q, e, c, ← d);
        }

    pub all_put : t ≤ i → w ≡ inserted_all v n (recs journal b t)
    unfolding recs inserted_all
    all_put h = let z : t - i ≡ 0 = omega arith in sym (inv.rest ∙ rw z)

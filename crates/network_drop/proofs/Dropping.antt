-- Of words with zeros behind their records, those that are left once the newest are dropped are the words of the others, with zeros
-- behind them. Assumes nothing.
use Prim.Native.Nat.{ℕ, ◌+◌, ◌-◌, ◌*◌, ◌≤◌}
use mathlib.Core.Path.{◌≡◌, ap, ◌∙◌}
use mathlib.Core.List.{List, ◌++◌}
use native.Mathlib.Omega.{arith}
use lib.ListN.{length, drop, replicate, replicate-append-replicate}
use lib.Seq.{drop_at}
use Rattle.nights.specs.Record.{record_words, recs, record_size}
use Rattle.nights.specs.Net.{capacity}
use Rattle.nights.proofs.Undo.{length-record_words}
use Rattle.network_queue.specs.Packed.{packed, array_size}
use Rattle.network_queue.proofs.Inserting.{length-recs}
use Rattle.network_drop.proofs.Keeping.{kept, kept_few}

module _ (v : List ℕ) (n : ℕ) (whole : v ≡ packed (recs v 0 n)) (small : n ≤ capacity) where
  behind : drop (n * record_size) v ≡ replicate (array_size - record_size * n) 0
  unfolding packed
  behind =
      ap (λ (x : List ℕ). drop (n * record_size) x) whole
      ∙ (drop_at (record_words (recs v 0 n)) _ (n * record_size) (omega (arith, length-record_words (recs v 0 n), length-recs v 0 n))
      ∙ ap (λ (k : ℕ). replicate {A = ℕ} (array_size - record_size * k) 0) (length-recs v 0 n))

  pub dropped : (last m : ℕ) (w : List ℕ) → m ≡ length (kept v last n)
      → w ≡ record_words (kept v last n) ++ (replicate ((n - m) * record_size) 0 ++ drop (n * record_size) v)
      → w ≡ packed (kept v last n)
  unfolding packed
  dropped last m w c e =
      let z : (n - m) * record_size + (array_size - record_size * n) ≡ array_size - record_size * length (kept v last n) = omega (arith, kept_few v last n, c, small) in
      rw (e, behind, replicate-append-replicate {A = ℕ} ((n - m) * record_size) (array_size - record_size * n) 0, z)

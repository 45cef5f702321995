-- The records' part of being well formed, by both walks and the zeros. Assumes nothing.
use mathlib.Core.Path.{◌≡◌, refl, sym}
use mathlib.Core.List.{List}
use mathlib.Core.Bool.{Bool, true, false, ◌&&◌}
use Prim.Native.Nat.{ℕ, ◌*◌}
use lib.ListN.{drop}
use Rattle.nights.specs.Record.{record_size, recs}
use Rattle.nights.specs.Net.{every, good_record, rising}
use Rattle.network_queue.specs.Packed.{zeros}
use Rattle.network_records.specs.Form.{in_order, distinct, records_rise, records_formed}
use Rattle.network_records.proofs.Formed.{walks_tell}

grouped : (a b z : Bool) → (a && b) && z ≡ a && (b && z)
grouped true b z = refl
grouped false b z = refl

module _ (w : List ℕ) (n q : ℕ) where
  pub told : records_rise w n q ≡ in_order q 0 0 (recs w 0 n) && distinct (recs w 0 n)
  told = sym (walks_tell q (recs w 0 n))

  -- with the zeros
  pub whole : records_formed w n q ≡ records_rise w n q && zeros (drop (record_size * n) w)
  unfolding records_formed
  whole = sym (grouped (every (good_record q) (recs w 0 n)) (rising (recs w 0 n)) _)

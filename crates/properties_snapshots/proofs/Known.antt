-- What the tests of 40, 60 and 61 leave known of the words. Assumes nothing.
use borrow.Author.Tests.{leb-true, eqb-true, le-leb, eq-eqb}
use mathlib.Core.Bool.{Bool, true, ◌&&◌}
use mathlib.Core.List.{List}
use mathlib.Core.Path.{◌≡◌}
use Prim.Native.Nat.{ℕ, ◌*◌}
use lib.Dec.{leb, eqb}
use lib.ListN.{length, get_or}
use Rattle.basis.specs.Basis.{plant_count}
use Rattle.basis.proofs.Laws.{both, between}
use Rattle.properties_snapshots.specs.Fits.{plants_fit, snapshot_fits, lasts_fit, tracker_fits}
use Rattle.properties_snapshots.specs.Layout.{log_entries, log_words, plant_words, recovering_at, size_at, count_at, length_at, last_at, tracker_words}
use Rattle.properties_snapshots.specs.Shape.{Snapshot, Tracked}
use Rattle.properties_snapshots.proofs.Below.{all_true, all_of}

pub snapshot_known : (n : ℕ) (p l : List ℕ) → plant_count n ≡ true → snapshot_fits n p l ≡ true → Snapshot n p l
unfolding snapshot_fits plants_fit
snapshot_known n p l e f =
    let c = between n e in
    let b = both (eqb (length p) (n * plant_words) && eqb (length l) (n * log_words)) (plants_fit n p) f in
    let d = both (eqb (length p) (n * plant_words)) (eqb (length l) (n * log_words)) b.0 in
    let good : ℕ → Bool = λ r. leb (get_or p (recovering_at r) 0) 1 && leb (get_or p (size_at r) 0) log_entries in
    record {
      some = c.0;
      few = c.1;
      plants = eqb-true (length p) (n * plant_words) d.0;
      logs = eqb-true (length l) (n * log_words) d.1;
      sizes = λ r h. leb-true (get_or p (size_at r) 0) log_entries
          (both (leb (get_or p (recovering_at r) 0) 1) (leb (get_or p (size_at r) 0) log_entries) (all_true n good b.1 r h)).1;
    }

pub tracker_known : (n : ℕ) (t : List ℕ) → tracker_fits n t ≡ true → Tracked n t
unfolding tracker_fits lasts_fit
tracker_known n t e =
    let b = both (eqb (length t) (tracker_words n) && eqb (get_or t count_at 0) n && leb (get_or t length_at 0) log_entries) (lasts_fit n t) e in
    let d = both (eqb (length t) (tracker_words n) && eqb (get_or t count_at 0) n) (leb (get_or t length_at 0) log_entries) b.0 in
    let f = both (eqb (length t) (tracker_words n)) (eqb (get_or t count_at 0) n) d.0 in
    record {
      words = eqb-true (length t) (tracker_words n) f.0;
      count = eqb-true (get_or t count_at 0) n f.1;
      canonical = leb-true (get_or t length_at 0) log_entries d.1;
      lasts = λ r h. leb-true (get_or t (last_at r) 0) (get_or t length_at 0) (all_true n (λ r. leb (get_or t (last_at r) 0) (get_or t length_at 0)) b.1 r h);
    }

-- and the other way round
pub tracker_fits_lem : (n : ℕ) (t : List ℕ) → Tracked n t → tracker_fits n t ≡ true
unfolding tracker_fits lasts_fit
tracker_fits_lem n t k =
    rw (eq-eqb (length t) (tracker_words n) k.words, eq-eqb (get_or t count_at 0) n k.count, le-leb (get_or t length_at 0) log_entries k.canonical)
    (all_of n (λ r. leb (get_or t (last_at r) 0) (get_or t length_at 0)) (λ r h. le-leb (get_or t (last_at r) 0) (get_or t length_at 0) (k.lasts r h)))

-- A list of at most `capacity` records and an array of words with zeros behind them tell one another; and what the code does to the words
-- of a list, it does to the list. Assumes nothing.
use Prim.Native.Nat.{ℕ, zero, suc, ◌+◌, ◌-◌, ◌*◌, ◌≤◌, ◌<◌}
use mathlib.Core.Path.{◌≡◌, refl, ap, ap₂, ◌∙◌}
use mathlib.Core.List.{List, [], ◌∷◌, ◌++◌}
use mathlib.Core.Bool.{Bool, true, false, cond}
use native.Mathlib.Omega.{arith}
use borrow.Author.Tests.{eqb-true}
use lib.Dec.{eqb}
use lib.ListN.{length, take, drop, replicate, length-drop, length-append, length-replicate, take-append-drop}
use lib.Seq.{drop-append-add, drop_at}
use Rattle.nights.specs.Record.{Record, record_words, recs, record_size}
use Rattle.nights.specs.Net.{insert_by, insert_all, capacity}
use Rattle.nights.proofs.Order.{length_insert}
use Rattle.nights.proofs.Undo.{length-record_words, recs_read}
use Rattle.network_queue.specs.Packed.{zeros, packed, array_size}
use Rattle.network_queue.specs.Places.{inserted_words, inserted_all, front, back, due_count, left_words, gone_words}
use Rattle.network_queue.proofs.Inserting.{length-recs, record_words-recs}
use Rattle.network_queue.proofs.Taking.{parted}

pub unpacked : (l : List Record) → recs (packed l) 0 (length l) ≡ l
unfolding packed
unpacked l = recs_read l (packed l) [] (replicate (array_size - record_size * length l) 0) 0 refl refl

pub length-packed : (l : List Record) → length l ≤ capacity → length (packed l) ≡ array_size
unfolding packed
length-packed l h =
    omega (arith, length-append (record_words l) (replicate {A = ℕ} (array_size - record_size * length l) 0), length-record_words l, length-replicate {A = ℕ} (array_size - record_size * length l) 0)

zeros_step : (b : Bool) (x : ℕ) (xs : List ℕ) → eqb x 0 ≡ b → cond b (zeros xs) false ≡ true → (x ≡ 0) × (zeros xs ≡ true)
zeros_step true x xs e h = (eqb-true x 0 e, h)
zeros_step false x xs e h = let z : ◌≡◌ {A = ℕ} 0 1 = cc in absurd (omega arith)

zeros_are : (l : List ℕ) → zeros l ≡ true → l ≡ replicate (length l) 0
unfolding zeros
zeros_are [] h = refl
zeros_are (x ∷ xs) h =
    let p = zeros_step (eqb x 0) x xs refl h in
    ap₂ (λ (y : ℕ) (l : List ℕ). y ∷ l) p.0 (zeros_are xs p.1)

-- words with zeros behind n records are the words of those records, packed
pub repacked : (w : List ℕ) (n : ℕ) → length w ≡ array_size → n ≤ capacity → zeros (drop (record_size * n) w) ≡ true → packed (recs w 0 n) ≡ w
unfolding packed
repacked w n l h z =
    let m : n * record_size ≡ record_size * n = omega arith in
    let a : record_words (recs w 0 n) ≡ take (record_size * n) w = rw m at (record_words-recs w 0 n (omega arith)) in
    let b : array_size - record_size * length (recs w 0 n) ≡ length (drop (record_size * n) w) = omega (arith, length-recs w 0 n, length-drop (record_size * n) w) in
    rw (a, b, ← (zeros_are (drop (record_size * n) w) z)) (take-append-drop (record_size * n) w)

zeros_of : (n : ℕ) → zeros (replicate n 0) ≡ true
unfolding zeros
zeros_of zero = refl
zeros_of (suc n) = zeros_of n

-- behind the records of a packed list are zeros
pub packed-zeros : (l : List Record) → zeros (drop (record_size * length l) (packed l)) ≡ true
unfolding packed
packed-zeros l =
    rw (drop_at (record_words l) (replicate (array_size - record_size * length l) 0) (record_size * length l) (length-record_words l)) (zeros_of (array_size - record_size * length l))

drop-replicate : (k n : ℕ) → drop k (replicate {A = ℕ} n 0) ≡ replicate (n - k) 0
drop-replicate zero n = let z : n - zero ≡ n = omega arith in rw z
drop-replicate (suc k) zero = let z : zero - suc k ≡ zero = omega arith in rw z
drop-replicate (suc k) (suc n) = let z : suc n - suc k ≡ n - k = omega arith in rw z (drop-replicate k n)

-- ---- putting in

pub length_inserted : (w : List ℕ) (n : ℕ) (r : Record) → n * record_size + record_size ≤ length w → length (inserted_words w n r) ≡ length w
unfolding inserted_words
length_inserted w n r h =
    omega (
      arith,
      length-append (record_words (insert_by r (recs w 0 n))) (drop (n * record_size + record_size) w),
      length-record_words (insert_by r (recs w 0 n)),
      length_insert r (recs w 0 n),
      length-recs w 0 n,
      length-drop (n * record_size + record_size) w,
    )

pub packed_insert : (l : List Record) (r : Record) → length l < capacity → inserted_words (packed l) (length l) r ≡ packed (insert_by r l)
unfolding inserted_words packed
packed_insert l r h =
    let a : length l * record_size + record_size ≡ length (record_words l) + record_size = omega (arith, length-record_words l) in
    let b : array_size - record_size * length l - record_size ≡ array_size - record_size * length (insert_by r l) = omega (arith, length_insert r l) in
    rw (unpacked l, a, drop-append-add (record_words l) (replicate {A = ℕ} (array_size - record_size * length l) 0) record_size, drop-replicate record_size (array_size - record_size * length l), b)

pub packed-insert_all : (rs l : List Record) → length l + length rs ≤ capacity → inserted_all (packed l) (length l) rs ≡ packed (insert_all rs l)
unfolding inserted_all insert_all
packed-insert_all [] l h = refl
packed-insert_all (r ∷ rs) l h =
    let n : length l + 1 ≡ length (insert_by r l) = omega (arith, length_insert r l) in
    rw (packed_insert l r (omega arith), n) (packed-insert_all rs (insert_by r l) (omega (arith, length_insert r l)))

-- ---- taking out

pub packed_left : (l : List Record) (at : ℕ) → length l ≤ capacity → left_words (packed l) (length l) at ≡ packed (back at l)
unfolding left_words packed
packed_left l at h =
    let p = parted at l in
    let a : drop (length l * record_size) (record_words l ++ replicate {A = ℕ} (array_size - record_size * length l) 0) ≡ replicate (array_size - record_size * length l) 0 =
    drop_at (record_words l) (replicate {A = ℕ} (array_size - record_size * length l) 0) (length l * record_size) (omega (arith, length-record_words l)) in
    let b : due_count at l * record_size + (array_size - record_size * length l) ≡ array_size - record_size * length (back at l) = omega arith in
    rw (unpacked l, a)
    (ap (λ (z : List ℕ). record_words (back at l) ++ z)
    (replicate_join (due_count at l * record_size) (array_size - record_size * length l) ∙ ap (λ (k : ℕ). replicate {A = ℕ} k 0) b))
  where
    replicate_join : (a b : ℕ) → replicate {A = ℕ} a 0 ++ replicate b 0 ≡ replicate (a + b) 0
    replicate_join zero b = let z : zero + b ≡ b = omega arith in rw z
    replicate_join (suc a) b = let z : suc a + b ≡ suc (a + b) = omega arith in rw z (ap (λ (l : List ℕ). 0 ∷ l) (replicate_join a b))

pub packed_gone : (l : List Record) (at : ℕ) (out : List ℕ)
    → gone_words (packed l) (length l) at out ≡ record_words (front at l) ++ drop (length (record_words (front at l))) out
unfolding gone_words
packed_gone l at out = let a : due_count at l * record_size ≡ length (record_words (front at l)) = omega (arith, length-record_words (front at l)) in rw (unpacked l, a)

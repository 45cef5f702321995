-- What the walks over the records test: the order with each record's range, and that no number stands twice; and the part of being well
-- formed that speaks of the records. Assumes nothing.
use Rattle.std.specs.Prelude.{ℕ, ◌*◌, List, [], ◌∷◌, Bool, true, false, cond, ◌&&◌, not, drop, ltb, eqb}
use Rattle.nights.specs.Record.{Record, record_size, recs}
use Rattle.nights.specs.Net.{every, good_record, rising}
use Rattle.network_queue.specs.Packed.{zeros}

-- x is good and may follow the key (d, q)
unfoldable pub may_follow : ℕ → ℕ → ℕ → Record → Bool
may_follow last d q x =
    cond (good_record last x) (cond (ltb x.due d) false (cond (ltb d x.due) true (ltb q x.seq))) false

unfoldable pub in_order : ℕ → ℕ → ℕ → List Record → Bool
in_order last d q [] = true
in_order last d q (x ∷ xs) = cond (may_follow last d q x) (in_order last x.due x.seq xs) false

-- a number is that of a record of the list; no two records of it have one number
unfoldable pub among : ℕ → List Record → Bool
among q [] = false
among q (x ∷ xs) = cond (eqb x.seq q) true (among q xs)

unfoldable pub distinct : List Record → Bool
distinct [] = true
distinct (x ∷ xs) = not (among x.seq xs) && distinct xs

-- each record good and all of them rising
abbrev pub records_rise : List ℕ → ℕ → ℕ → Bool
records_rise w n q = every (good_record q) (recs w 0 n) && rising (recs w 0 n)

-- the same, and zeros behind
unfoldable pub records_formed : List ℕ → ℕ → ℕ → Bool
records_formed w n q =
    every (good_record q) (recs w 0 n) && (rising (recs w 0 n) && zeros (drop (record_size * n) w))

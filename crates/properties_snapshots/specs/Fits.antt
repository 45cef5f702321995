-- What a call asks of the lent words before it looks at a property (RULES, "Refusal numbers" 40, 60 and 61). Assumes nothing.
use Rattle.std.specs.Prelude.{Bool, ◌&&◌, List, ℕ, ◌*◌, leb, eqb, length, get_or}
use Rattle.properties_snapshots.specs.Below.{all_below}
use Rattle.properties_snapshots.specs.Layout.{log_entries, log_words, plant_words, recovering_at, size_at, count_at, length_at, last_at, tracker_words}

-- 60: 4n plant words, 512n log words, no recovering word over 1, no log over 128
unfoldable pub plants_fit : ℕ → List ℕ → Bool
plants_fit n p = all_below n (λ r. leb (get_or p (recovering_at r) 0) 1 && leb (get_or p (size_at r) 0) log_entries)

unfoldable pub snapshot_fits : ℕ → List ℕ → List ℕ → Bool
snapshot_fits n p l = eqb (length p) (n * plant_words) && eqb (length l) (n * log_words) && plants_fit n p

-- 61: the length and n, canonical length at most 128, no last commit over the canonical length
unfoldable pub lasts_fit : ℕ → List ℕ → Bool
lasts_fit n t = all_below n (λ r. leb (get_or t (last_at r) 0) (get_or t length_at 0))

unfoldable pub tracker_fits : ℕ → List ℕ → Bool
tracker_fits n t =
    eqb (length t) (tracker_words n) && eqb (get_or t count_at 0) n && leb (get_or t length_at 0) log_entries && lasts_fit n t

-- What is known of the words once the refusals are past, and once property 1 is: what the inner functions ask of their callers. Assumes
-- nothing.
use Rattle.std.specs.Prelude.{List, ◌≡◌, ℕ, ◌*◌, ◌≤◌, ◌<◌, length, get_or}
use Rattle.basis.specs.Basis.{fewest, most}
use Rattle.properties_snapshots.specs.Layout.{log_entries, log_words, plant_words, commit_at, size_at, count_at, length_at, last_at, tracker_words}

-- n plants, and a log of at most 128 entries for each
pub record Snapshot (n : ℕ) (p l : List ℕ) : Type 0 where
  pub some : fewest ≤ n
  pub few : n ≤ most
  pub plants : length p ≡ n * plant_words
  pub logs : length l ≡ n * log_words
  pub sizes : (r : ℕ) → r < n → get_or p (size_at r) 0 ≤ log_entries

-- a tracker of n plants, none of which was verified past the canonical entries
pub record Tracked (n : ℕ) (t : List ℕ) : Type 0 where
  pub words : length t ≡ tracker_words n
  pub count : get_or t count_at 0 ≡ n
  pub canonical : get_or t length_at 0 ≤ log_entries
  pub lasts : (r : ℕ) → r < n → get_or t (last_at r) 0 ≤ get_or t length_at 0

-- property 1 holds: commits lie within the logs, and none went back
pub record Forward (n : ℕ) (p t : List ℕ) : Type 0 where
  pub within : (r : ℕ) → r < n → get_or p (commit_at r) 0 ≤ get_or p (size_at r) 0
  pub onward : (r : ℕ) → r < n → get_or t (last_at r) 0 ≤ get_or p (commit_at r) 0

-- What the tracker's words are after a pass, word by word (RULES, "Properties"): the canonical length, the last commits, the appended
-- entries and the newly seen ids, and no other word. Assumes nothing.
use Rattle.std.specs.Prelude.{List, ◌⊎◌, ◌≡◌, ℕ, ◌+◌, ◌≤◌, ◌<◌, length, get_or}
use Rattle.properties_snapshots.specs.Cluster.{Cluster, plant, entry, last, entry_in, cluster_in}
use Rattle.properties_snapshots.specs.Layout.{entry_words, log_entries, count_at, length_at, last_at, canonical_at, seen_at}
use Rattle.properties_agreement.specs.Agreement.{committer}
use Rattle.properties_remembering.specs.Remembering.{length_after}

-- which part of a tracker of n plants the word at place k is in: n itself, the canonical length, a plant's last commit, a word of a
-- canonical entry, or an id seen of a plant
pub data Part (n k : ℕ) : Type 0 where
  the_count : k ≡ count_at → Part n k
  the_length : k ≡ length_at → Part n k
  a_last : (r : ℕ) → r < n → k ≡ last_at r → Part n k
  a_canonical : (i j : ℕ) → i < log_entries → j < entry_words → k ≡ canonical_at n i + j → Part n k
  a_seen : (r i : ℕ) → r < n → i < log_entries → k ≡ seen_at n r i → Part n k

-- the words before and after a pass
module _ (n : ℕ) (p l before after : List ℕ) where
  abbrev c : Cluster
  c = cluster_in n p l before

  pub record Written : Type 0 where
    pub long : length after ≡ length before
    pub count : get_or after count_at 0 ≡ n
    -- the canonical length is the greatest of what it was and all commits
    pub size : get_or after length_at 0 ≡ length_after c
    pub lasts : (r : ℕ) → r < n → get_or after (last_at r) 0 ≡ (plant c r).commit
    -- an entry is appended at every index from the length before up to that after: that of the first plant to have committed it
    pub appended : (i : ℕ) → get_or before length_at 0 ≤ i → i < length_after c → entry_in after (canonical_at n i) ≡ entry c (committer c i) i
    pub canonical_kept : (i j : ℕ) → i < log_entries → j < entry_words → ((i < get_or before length_at 0) ⊎ (length_after c ≤ i))
        → get_or after (canonical_at n i + j) 0 ≡ get_or before (canonical_at n i + j) 0
    -- an id is seen at every index from the plant's last commit up to its commit
    pub seen : (r i : ℕ) → r < n → last c r ≤ i → i < (plant c r).commit → get_or after (seen_at n r i) 0 ≡ (entry c r i).id
    pub seen_kept : (r i : ℕ) → r < n → i < log_entries → ((i < last c r) ⊎ ((plant c r).commit ≤ i))
        → get_or after (seen_at n r i) 0 ≡ get_or before (seen_at n r i) 0

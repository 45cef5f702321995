-- A tracker over a night: the calls on it one after the other, each on the words that the last one left; and property 4 of a whole night.
-- Assumes nothing.
use Rattle.std.specs.Prelude.{List, [], ◌∷◌, ◌≡◌, ℕ, ◌<◌, get_or}
use Rattle.properties_snapshots.specs.Layout.{last_at, seen_at}
use Rattle.properties_tracker.specs.Calls.{reboot_words}
use Rattle.properties_tick.specs.Calls.{tick_words}

-- a call that may change a tracker, with all that is lent to it
pub data TrackerCall : Type 0 where
  tick : (p l : List ℕ) → TrackerCall
  reboot : (id : ℕ) → TrackerCall

unfoldable pub tracker_after : ℕ → List ℕ → List TrackerCall → List ℕ
tracker_after n t [] = t
tracker_after n t (tick p l ∷ more) = tracker_after n (tick_words n p l t) more
tracker_after n t (reboot id ∷ more) = tracker_after n (reboot_words n id t) more

-- no two of the ids that a plant committed since it last rebooted are equal: those remembered of it, below its last commit
abbrev pub NoTwoEqual : ℕ → List ℕ → Type 0
NoTwoEqual n t = (r i j : ℕ) → r < n → i < j → j < get_or t (last_at r) 0 → get_or t (seen_at n r i) 0 ≡ get_or t (seen_at n r j) 0 → ⊥

-- Where no commit has moved and the numbers are right, the words fit and every property of a tick passes: property 1 by the numbers, the others
-- since no entry is asked. Assumes nothing.
use borrow.Author.Tests.{le-leb, eq-eqb}
use native.Mathlib.Omega.{arith}
use mathlib.Core.Bool.{true, ◌&&◌}
use mathlib.Core.List.{List}
use mathlib.Core.Path.{◌≡◌}
use Prim.Native.Nat.{ℕ, ◌*◌, ◌≤◌, ◌<◌}
use lib.Dec.{leb}
use lib.ListN.{length, get_or}
use Rattle.basis.specs.Basis.{plant_count}
use Rattle.properties_snapshots.specs.Cluster.{Cluster, plant, last, cluster_in}
use Rattle.properties_snapshots.specs.Fits.{plants_fit, snapshot_fits}
use Rattle.properties_snapshots.specs.Layout.{log_entries, log_words, plant_words, recovering_at, commit_at, op_at, size_at, count_at, length_at, last_at, tracker_words}
use Rattle.properties_snapshots.proofs.Below.{all_of}
use Rattle.properties_snapshots.proofs.Held.{commit_held, op_held, size_held, last_held}
use Rattle.properties_snapshots.proofs.Known.{tracker_fits_lem}
use Rattle.properties_verdicts.proofs.First.{all_pass}
use Rattle.properties_commits.specs.Commits.{commit_tests, commit_numbers}
use Rattle.properties_judge.specs.Ticks.{EntryProperty, PrefixAgreement, NoDuplicates, Durability, over_entries, judged_entries, tick_judged}
use Rattle.properties_judge.proofs.Laws.{entries_pass}
use Rattle.properties_quick.specs.Quick.{Still, NothingNew}
use Rattle.std.specs.Prelude.{Ok}

module _ (n : ℕ) (p l t : List ℕ) (still : (r : ℕ) → r < n → Still p t r) where
  abbrev c : Cluster
  c = cluster_in n p l t

  snapshot : length p ≡ n * plant_words → length l ≡ n * log_words → snapshot_fits n p l ≡ true
  unfolding snapshot_fits plants_fit
  snapshot e f =
      rw (eq-eqb (length p) (n * plant_words) e, eq-eqb (length l) (n * log_words) f)
      (all_of n (λ r. leb (get_or p (recovering_at r) 0) 1 && leb (get_or p (size_at r) 0) log_entries) (λ r h.
      rw (le-leb (get_or p (recovering_at r) 0) 1 (still r h).flag, le-leb (get_or p (size_at r) 0) log_entries (still r h).short)))

  -- property 1: each test holds
  numbers : commit_numbers c ≡ Ok tt
  unfolding commit_numbers commit_tests
  numbers =
      all_pass (λ r. commit_tests r (plant c r).commit (plant c r).op (length (plant c r).log) (last c r)) 0 n (λ r a b. one r (omega arith))
    where
      one : (r : ℕ) → r < n → commit_tests r (plant c r).commit (plant c r).op (length (plant c r).log) (last c r) ≡ Ok tt
      one r h =
          rw (
            commit_held n p l t r h,
            op_held n p l t r h,
            size_held n p l t r h,
            last_held n p l t r h,
            eq-eqb (get_or p (op_at r) 0) (get_or p (size_at r) 0) (still r h).whole,
            le-leb (get_or p (commit_at r) 0) (get_or p (op_at r) 0) (still r h).within,
            le-leb (get_or t (last_at r) 0) (get_or p (commit_at r) 0) (omega (arith, (still r h).unmoved)),
          )

  -- the others: no entry is asked
  entries : (property : EntryProperty) → over_entries property c ≡ Ok tt
  entries property =
      entries_pass property c (λ r i h a b. absurd (omega (arith, (still r h).unmoved, commit_held n p l t r h, last_held n p l t r h)))

  passing : tick_judged c ≡ Ok tt
  unfolding tick_judged judged_entries
  passing = rw (numbers, entries PrefixAgreement, entries NoDuplicates, entries Durability)

  pub nothing_new : plant_count n ≡ true → length p ≡ n * plant_words → length l ≡ n * log_words → length t ≡ tracker_words n
      → get_or t count_at 0 ≡ n → get_or t length_at 0 ≤ log_entries → NothingNew n p l t
  nothing_new counted plants logs words count canonical =
      record {
        counted = counted;
        snapshot = snapshot plants logs;
        tracker = tracker_fits_lem n t (record { words = words; count = count; canonical = canonical; lasts = λ r h. (still r h).known });
        passes = passing;
        still = λ r h. (still r h).unmoved;
      }

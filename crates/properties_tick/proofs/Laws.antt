-- What a tick call that passes has shown, and what the tracker remembers of it. Assumes nothing.
use borrow.Author.Tests.{lt-ltb, le-ltb}
use native.Mathlib.Omega.{arith}
use native.Mathlib.Decide.{dec_lt}
use mathlib.Core.Bool.{Bool, true, false}
use mathlib.Core.List.{List}
use mathlib.Core.Path.{◌≡◌, sym, ◌∙◌}
use Prim.Native.Nat.{ℕ, ◌≤◌, ◌<◌}
use lib.ListN.{length, get_or}
use Rattle.properties_snapshots.specs.Below.{count_below}
use Rattle.properties_snapshots.specs.Cluster.{Cluster, no_entry, plant, entry, last, tracker_in, cluster_in}
use Rattle.properties_snapshots.specs.Layout.{log_entries, commit_at, length_at, last_at, seen_at}
use Rattle.properties_snapshots.proofs.Below.{max_reaches}
use Rattle.properties_snapshots.proofs.Held.{commit_held, last_held, seen_held}
use Rattle.properties_snapshots.proofs.Same.{same_entries}
use Rattle.properties_verdicts.specs.Verdicts.{and_then}
use Rattle.properties_verdicts.proofs.First.{then_pass}
use Rattle.properties_commits.specs.Commits.{commit_numbers}
use Rattle.properties_agreement.specs.Agreement.{canonical_entry, agrees}
use Rattle.properties_duplicates.specs.Duplicates.{id_of}
use Rattle.basis.specs.Basis.{quorum}
use Rattle.properties_durability.specs.Durability.{holds_copy}
use Rattle.properties_durability.proofs.Quorums.{in_every_quorum}
use Rattle.properties_remembering.specs.Remembering.{length_after, remembered}
use Rattle.properties_remembering.proofs.After.{after_length, after_canonical, after_new, after_old, nothing_written}
use Rattle.properties_tick.specs.Calls.{tick_answer, tick_words}
use Rattle.properties_judge.specs.Ticks.{PrefixAgreement, NoDuplicates, Durability, over_entries, judged_entries, tick_judged}
use Rattle.properties_judge.proofs.Laws.{entry_passed}
use Rattle.properties_tick.proofs.Passed.{passed_both, tick_known}
use Rattle.std.specs.Prelude.{Ok}

module _ (n : ℕ) (p l t : List ℕ) (pass : tick_answer n p l t ≡ Ok tt) where
  abbrev c : Cluster
  c = cluster_in n p l t

  -- the words afterwards are those that a pass writes
  pub written : tick_words n p l t ≡ remembered c t
  unfolding tick_words
  written = rw pass

  -- each property of entries has passed
  pub agreement_passed : over_entries PrefixAgreement c ≡ Ok tt
  unfolding tick_judged judged_entries
  agreement_passed =
      (then_pass (over_entries PrefixAgreement c) (and_then (over_entries NoDuplicates c) (over_entries Durability c))
      (then_pass (commit_numbers c) (judged_entries c) (passed_both n p l t pass).1).1).0

  pub durability_passed : over_entries Durability c ≡ Ok tt
  unfolding tick_judged judged_entries
  durability_passed =
      (then_pass (over_entries NoDuplicates c) (over_entries Durability c)
      (then_pass (over_entries PrefixAgreement c) (and_then (over_entries NoDuplicates c) (over_entries Durability c))
      (then_pass (commit_numbers c) (judged_entries c) (passed_both n p l t pass).1).1).1).1

  -- every plant's entry at each index from its last commit up to its commit is the canonical entry that is remembered
  pub agreed : (r i : ℕ) → r < n → last c r ≤ i → i < (plant c r).commit
      → (i < get_or (tick_words n p l t) length_at 0) × (entry c r i ≡ get_or (tracker_in n (tick_words n p l t)).canonical i no_entry)
  unfolding agrees length_after
  agreed r i h a g =
      let k = tick_known n p l t pass in
      let b : i < length_after c = omega (arith, max_reaches n (λ r. (plant c r).commit) (length c.tracker.canonical) r h) in
      rw written (
        omega (arith, after_length n p l t k.0 k.1 k.2),
        sym (same_entries (canonical_entry c i) (entry c r i) (entry_passed PrefixAgreement c agreement_passed r i h a g))
            ∙ sym (after_canonical n p l t k.0 k.1 k.2 i b),
      )

  -- such an entry is in every quorum that the plants not recovering could form
  pub held_by_every_quorum : (r i : ℕ) → r < n → last c r ≤ i → i < (plant c r).commit
      → (chosen : ℕ → Bool) → ((q : ℕ) → q < n → chosen q ≡ true → (plant c q).recovering ≡ false) → quorum n ≤ count_below n chosen
      → (q : ℕ) × (q < n) × (chosen q ≡ true) × (holds_copy c i (entry c r i) q ≡ true)
  held_by_every_quorum r i h a g = in_every_quorum c r i (entry_passed Durability c durability_passed r i h a g)

  -- below its commit a plant's ids that are remembered are those that property 4 compared
  pub ids_remembered : (r i : ℕ) → r < n → i < (plant c r).commit → get_or (tick_words n p l t) (seen_at n r i) 0 ≡ id_of c r i
  unfolding id_of
  ids_remembered r i h g =
      let k = tick_known n p l t pass in
      let d : i < get_or p (commit_at r) 0 = omega (arith, commit_held n p l t r h) in
      let o : i < log_entries = omega (arith, k.2.within r h, k.0.sizes r h) in
      rw (written, last_held n p l t r h)
      (elim (dec_lt i (get_or t (last_at r) 0)) [
        | yes b ↦
            rw (lt-ltb i (get_or t (last_at r) 0) b, seen_held n p l t r h i o) (after_old n p l t k.0 k.1 k.2 r i h o b)
        | no b ↦ rw (le-ltb i (get_or t (last_at r) 0) (omega arith)) (after_new n p l t k.0 k.1 k.2 r i h o (omega arith) d)
      ])

  -- with no new commits no word changes
  pub nothing_new : ((r : ℕ) → r < n → (plant c r).commit ≡ last c r) → tick_words n p l t ≡ t
  nothing_new still =
      let k = tick_known n p l t pass in
      written
      ∙ nothing_written n p l t k.0 k.1 k.2 (λ r h. sym (commit_held n p l t r h) ∙ (still r h ∙ last_held n p l t r h))

-- What a pass writes, in words: the ids, the appended entries and the length are those of the definitions, and the ids leave the first words
-- of the tracker as they were. Assumes nothing.
use borrow.Author.Tests.{le-ltb}
use native.Mathlib.Omega.{arith}
use mathlib.Core.List.{List, [], ◌∷◌, ◌++◌, append_assoc}
use mathlib.Core.Path.{◌≡◌, refl, sym, ap, ◌∙◌}
use Prim.Native.Nat.{ℕ, zero, suc, ◌+◌, ◌-◌, ◌*◌, ◌≤◌, ◌<◌}
use lib.ListN.{length, get_or, length-append}
use Rattle.properties_snapshots.specs.Below.{numbered, max_below}
use Rattle.properties_snapshots.specs.Cluster.{LogEntry, words_of_entry, words_of_entries, plant, entry, last, entry_in, cluster_in}
use Rattle.properties_snapshots.specs.Layout.{entry_words, id_at, commit_at, entry_at, length_at, last_at, seen_at}
use Rattle.properties_snapshots.specs.Shape.{Snapshot, Tracked, Forward}
use Rattle.properties_snapshots.proofs.Below.{length-numbered, numbered_same, max_same, max_reached}
use Rattle.properties_snapshots.proofs.Held.{canonical_long, commit_held, entry_held, last_held}
use Rattle.properties_snapshots.proofs.Laid.{length-laid, laid_below}
use Rattle.properties_agreement.specs.Agreement.{committer, canonical_entry}
use Rattle.properties_agreement.proofs.Reached.{committed_entry}
use Rattle.properties_remembering.specs.Remembering.{length_after, appended, new_ids, with_ids}

pub length_words : (es : List LogEntry) → length (words_of_entries es) ≡ length es * entry_words
unfolding words_of_entries
length_words [] = refl
length_words (e ∷ es) = omega (arith, length-append (words_of_entry e) (words_of_entries es), length_words es)

pub words_more : (es : List LogEntry) (e : LogEntry) → words_of_entries (es ++ (e ∷ [])) ≡ words_of_entries es ++ words_of_entry e
unfolding words_of_entries
words_more [] e = refl
words_more (x ∷ es) e =
    ap (λ (w : List ℕ). words_of_entry x ++ w) (words_more es e) ∙ sym (append_assoc (words_of_entry x) (words_of_entries es) (words_of_entry e))

module _ (n : ℕ) (p l t : List ℕ) (s : Snapshot n p l) (k : Tracked n t) (f : Forward n p t) where
  -- the ids of plant r, in words
  pub ids_held : (r : ℕ) → r < n
      → new_ids (cluster_in n p l t) r
      ≡ numbered (get_or p (commit_at r) 0 - get_or t (last_at r) 0) (λ j. get_or l (id_at (entry_at r (get_or t (last_at r) 0 + j))) 0)
  unfolding new_ids
  ids_held r h =
      let c = cluster_in n p l t in
      rw (commit_held n p l t r h, last_held n p l t r h)
      (numbered_same (get_or p (commit_at r) 0 - get_or t (last_at r) 0) (λ j. (entry c r (get_or t (last_at r) 0 + j)).id)
      (λ j. get_or l (id_at (entry_at r (get_or t (last_at r) 0 + j))) 0)
      (λ j g. ap (λ (e : LogEntry). e.id) (entry_held n p l t r h (get_or t (last_at r) 0 + j) (omega (arith, f.within r h)))))

  -- the ids lie in the last part: the words before it stay
  pub ids_kept : (r : ℕ) → r ≤ n
      → (length (with_ids (cluster_in n p l t) r t) ≡ length t)
      × ((j : ℕ) → j < seen_at n 0 0 → get_or (with_ids (cluster_in n p l t) r t) j 0 ≡ get_or t j 0)
  unfolding with_ids
  ids_kept zero h = (refl, λ j g. refl)
  ids_kept (suc r) h =
      let c = cluster_in n p l t in
      let i = ids_kept r (omega arith) in
      let m = ap length (ids_held r (omega arith)) ∙ length-numbered (get_or p (commit_at r) 0 - get_or t (last_at r) 0)
      (λ j. get_or l (id_at (entry_at r (get_or t (last_at r) 0 + j))) 0) in
      let e = last_held n p l t r (omega arith) in
      let a : seen_at n r (last c r) + length (new_ids c r) ≤ length (with_ids c r t) =
      omega (arith, k.words, s.sizes r (omega arith), f.within r (omega arith), f.onward r (omega arith)) in (
        length-laid (with_ids c r t) (seen_at n r (last c r)) (new_ids c r) a ∙ i.0,
        λ j g. laid_below (with_ids c r t) (seen_at n r (last c r)) (new_ids c r) j 0 (omega arith) (omega arith) ∙ i.1 j g,
      )

  -- the length afterwards, and the entries appended
  pub length_held : length_after (cluster_in n p l t) ≡ max_below n (λ r. get_or p (commit_at r) 0) (get_or t length_at 0)
  unfolding length_after
  length_held =
      ap (λ (z : ℕ). max_below n (λ r. (plant (cluster_in n p l t) r).commit) z) (canonical_long n p l t)
      ∙ max_same n (λ r. (plant (cluster_in n p l t) r).commit) (λ r. get_or p (commit_at r) 0) (get_or t length_at 0) (λ r h. commit_held n p l t r h)

  beyond : (i : ℕ) → get_or t length_at 0 ≤ i → canonical_entry (cluster_in n p l t) i ≡ entry (cluster_in n p l t) (committer (cluster_in n p l t) i) i
  unfolding canonical_entry
  beyond i h = rw (canonical_long n p l t, le-ltb i (get_or t length_at 0) h)

  pub appended_held : (longest : ℕ) → longest ≡ max_below n (λ r. get_or p (commit_at r) 0) (get_or t length_at 0)
      → appended (cluster_in n p l t)
      ≡ numbered (longest - get_or t length_at 0) (λ j. entry_in l (entry_at (committer (cluster_in n p l t) (get_or t length_at 0 + j)) (get_or t length_at 0 + j)))
  unfolding appended
  appended_held longest e =
      let c = cluster_in n p l t in
      let known = get_or t length_at 0 in
      rw (length_held, ← e, canonical_long n p l t)
      (numbered_same (longest - known) (λ j. canonical_entry c (known + j)) (λ j. entry_in l (entry_at (committer c (known + j)) (known + j)))
      (λ j g.
      let r = max_reached n (λ r. get_or p (commit_at r) 0) known (known + j) (omega arith) (omega arith) in
      beyond (known + j) (omega arith) ∙ committed_entry n p l t s f (known + j) r.0 r.1 r.2))

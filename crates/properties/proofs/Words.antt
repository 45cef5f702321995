-- What a tick call does to the tracker's words, each of which is in exactly one part: a pass writes those that the rules name and no other,
-- and any other answer none. Assumes nothing.
use borrow.Author.Tests.{lt-ltb, le-ltb}
use native.Mathlib.Omega.{arith}
use native.Mathlib.Decide.{dec_lt, ℕ_discrete}
use mathlib.Core.Bool.{cond}
use mathlib.Core.List.{List}
use mathlib.Core.Logic.{inl, inr, ⊎_elim}
use mathlib.Core.Path.{◌≡◌, refl, sym, ◌∙◌}
use Prim.Native.Nat.{ℕ, ◌+◌, ◌-◌, ◌/◌, ◌%◌, ◌<◌}
use lib.Dec.{ltb}
use Rattle.properties_snapshots.specs.Cluster.{cluster_in}
use Rattle.properties_snapshots.specs.Layout.{entry_words, log_entries, count_at, length_at, lasts_at, canonical_at, seen_at, tracker_words}
use Rattle.properties_snapshots.proofs.Held.{canonical_long, canonical_held, commit_held, last_held}
use Rattle.properties_remembering.specs.Remembering.{remembered}
use Rattle.properties_remembering.proofs.After.{after_words, after_length, after_last, after_count, after_canonical, after_kept, after_new, after_old, after_past}
use Rattle.properties_tick.specs.Calls.{tick_answer, tick_words}
use Rattle.properties_tick.proofs.Passed.{tick_known}
use Rattle.properties_tick.proofs.Laws.{written}
use Rattle.properties.specs.Remembered.{Part, the_count, the_length, a_last, a_canonical, a_seen, Written}
use Rattle.properties.proofs.Appending.{beyond}
use Rattle.properties.proofs.Fitting.{either}
use Rattle.std.specs.Prelude.{Ok}

-- every word is in a part
pub parts : (n k : ℕ) → k < tracker_words n → Part n k
parts n k h =
    elim (dec_lt k (canonical_at n 0)) [
      | yes a ↦
          elim (ℕ_discrete k count_at) [
            | yes e ↦ the_count e
            | no b ↦
                elim (ℕ_discrete k length_at) [ yes e ↦ the_length e | no d ↦ a_last (k - lasts_at) (omega arith) (omega arith) ]
          ]
      | no a ↦
          elim (dec_lt k (seen_at n 0 0)) [
            | yes b ↦
                let w = k - canonical_at n 0 in
                a_canonical (w / entry_words) (w % entry_words) (omega arith) (omega arith) (omega arith)
            | no b ↦
                let w = k - seen_at n 0 0 in
                a_seen (w / log_entries) (w % log_entries) (omega arith) (omega arith) (omega arith)
          ]
    ]

-- and in one only: which part it is, and of which plant, index or word of an entry, follow from its place
module _ (n k : ℕ) where
  abbrev pub told : Part n k → ℕ × ℕ × ℕ
  told (the_count e) = (0, 0, 0)
  told (the_length e) = (1, 0, 0)
  told (a_last r h e) = (2, r, 0)
  told (a_canonical i j h g e) = (3, i, j)
  told (a_seen r i h g e) = (4, r, i)

  by_place : ℕ × ℕ × ℕ
  by_place =
      cond (ltb k length_at) (0, 0, 0)
      (cond (ltb k lasts_at) (1, 0, 0)
      (cond (ltb k (canonical_at n 0)) (2, k - lasts_at, 0)
      (cond (ltb k (seen_at n 0 0)) (3, (k - canonical_at n 0) / entry_words, (k - canonical_at n 0) % entry_words)
      (4, (k - seen_at n 0 0) / log_entries, (k - seen_at n 0 0) % log_entries))))

  told_by_place : (a : Part n k) → told a ≡ by_place
  unfolding by_place
  told_by_place (the_count e) = rw (lt-ltb k length_at (omega arith))
  told_by_place (the_length e) = rw (le-ltb k length_at (omega arith), lt-ltb k lasts_at (omega arith))
  told_by_place (a_last r h e) =
      let z : r ≡ k - lasts_at = omega arith in
      rw (le-ltb k length_at (omega arith), le-ltb k lasts_at (omega arith), lt-ltb k (canonical_at n 0) (omega arith)) (λ m. (2, z m, 0))
  told_by_place (a_canonical i j h g e) =
      let y : i ≡ (k - canonical_at n 0) / entry_words = omega arith in
      let z : j ≡ (k - canonical_at n 0) % entry_words = omega arith in
      rw (
        le-ltb k length_at (omega arith),
        le-ltb k lasts_at (omega arith),
        le-ltb k (canonical_at n 0) (omega arith),
        lt-ltb k (seen_at n 0 0) (omega arith),
      )
      (λ m. (3, y m, z m))
  told_by_place (a_seen r i h g e) =
      let y : r ≡ (k - seen_at n 0 0) / log_entries = omega arith in
      let z : i ≡ (k - seen_at n 0 0) % log_entries = omega arith in
      rw (
        le-ltb k length_at (omega arith),
        le-ltb k lasts_at (omega arith),
        le-ltb k (canonical_at n 0) (omega arith),
        le-ltb k (seen_at n 0 0) (omega arith),
      )
      (λ m. (4, y m, z m))

  pub one_part : (a b : Part n k) → told a ≡ told b
  one_part a b = told_by_place a ∙ sym (told_by_place b)

pub pass_writes : (n : ℕ) (p l t : List ℕ) → tick_answer n p l t ≡ Ok tt → Written n p l t (tick_words n p l t)
pass_writes n p l t pass =
    let c = cluster_in n p l t in
    let known = tick_known n p l t pass in
    let s = known.0 in
    let k = known.1 in
    let f = known.2 in
    rw (written n p l t pass)
    (record {
      long = after_words n p l t s k f ∙ sym k.words;
      count = after_count n p l t s k f ∙ k.count;
      size = after_length n p l t s k f;
      lasts = after_last n p l t s k f;
      appended = λ i a b.
          sym (canonical_held n p l (remembered c t) i (omega (arith, after_length n p l t s k f)))
          ∙ (after_canonical n p l t s k f i b ∙ beyond c i (omega (arith, canonical_long n p l t)));
      canonical_kept = λ i j a b o.
          after_kept n p l t s k f (canonical_at n i + j) (omega arith) (omega arith) (⊎_elim (λ h. inl (omega arith)) (λ h. inr (omega arith)) o);
      seen = λ r i h a b.
          let d = commit_held n p l t r h in
          after_new n p l t s k f r i h (omega (arith, f.within r h, s.sizes r h)) (omega (arith, last_held n p l t r h)) (omega arith);
      seen_kept = λ r i h o e.
          ⊎_elim (λ a. after_old n p l t s k f r i h o (omega (arith, last_held n p l t r h)))
          (λ a. after_past n p l t s k f r i h o (omega (arith, commit_held n p l t r h))) e;
    })

pub no_pass_writes_nothing : (n : ℕ) (p l t : List ℕ) → (tick_answer n p l t ≡ Ok tt → ⊥) → tick_words n p l t ≡ t
unfolding tick_words
no_pass_writes_nothing n p l t h =
    either (tick_answer n p l t) (remembered (cluster_in n p l t) t) t (λ w. w ≡ t) (λ e. absurd (h e)) refl

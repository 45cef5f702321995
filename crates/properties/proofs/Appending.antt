-- Property 3 is what its rule says: the canonical entry that the definition compares with is the one that the plants before have appended, or
-- that was remembered; and a pass appends what the tracker is said to remember. While plants are walked, the canonical entries are those
-- remembered and, behind them, the definition's up to the greatest commit so far. Assumes nothing.
use borrow.Author.Tests.{lt-ltb, le-ltb}
use native.Mathlib.Omega.{arith}
use native.Mathlib.Decide.{dec_lt}
use mathlib.Core.Bool.{true}
use mathlib.Core.List.{List, [], ◌∷◌, ◌++◌, append_assoc, append-nil}
use mathlib.Core.Path.{◌≡◌, refl, sym, ap, ◌∙◌, subst}
use Prim.Native.Nat.{ℕ, zero, suc, ◌+◌, ◌-◌, ◌≤◌, ◌<◌, max}
use lib.ListN.{length, get_or, length-append, get_or-append}
use lib.Seq.{get_or-append-add}
use Rattle.properties_snapshots.specs.Below.{numbered, max_below}
use Rattle.properties_snapshots.specs.Cluster.{LogEntry, Cluster, no_entry, plant, entry, last, cluster_in}
use Rattle.properties_snapshots.specs.Fits.{tracker_fits}
use Rattle.properties_snapshots.proofs.Below.{length-numbered, get_d_numbered, max_start, max_reaches}
use Rattle.properties_snapshots.proofs.Held.{canonical_long, last_held}
use Rattle.properties_snapshots.proofs.Known.{tracker_known}
use Rattle.properties_snapshots.proofs.Same.{entries_same}
use Rattle.properties_verdicts.specs.Verdicts.{and_then, first_answer, at_entry, over_committed}
use Rattle.std.specs.Prelude.{⊤, Result, Ok, Err}
use Rattle.properties_verdicts.proofs.First.{no_pass}
use Rattle.properties_agreement.specs.Agreement.{committer_from, committer, canonical_entry, agrees}
use Rattle.properties_agreement.proofs.Reached.{committer_below, committer_committed}
use Rattle.properties_remembering.specs.Remembering.{length_after, appended}
use Rattle.properties_judge.specs.Ticks.{PrefixAgreement, over_entries}
use Rattle.properties.specs.Appending.{Walk, on_answer, walk_then, compared_or_appended, over_indexes, over_all, appending}
use Rattle.properties_verdicts.specs.declared.Break.{Break}
use Rattle.properties_verdicts.specs.declared.Property as all

-- ---- the first plant that has committed an index
none_before : (c : Cluster) (i from count q : ℕ) → from ≤ q → q < committer_from c i from count → (plant c q).commit ≤ i
unfolding committer_from
none_before c i from zero q l h = absurd (omega arith)
none_before c i from (suc count) q l h =
    elim (dec_lt i (plant c from).commit) [
      | yes g ↦ let k = rw (lt-ltb i (plant c from).commit g) at h in absurd (omega arith)
      | no g ↦
          elim (dec_lt from q) [
            | yes o ↦ none_before c i (suc from) count q o (rw (le-ltb i (plant c from).commit (omega arith)) at h)
            | no o ↦ let z : q ≡ from = omega arith in omega (arith, ap (λ (k : ℕ). (plant c k).commit) z)
          ]
    ]

pub committer_first : (c : Cluster) (i r : ℕ) → r < c.size → i < (plant c r).commit
    → (committer c i < c.size) × (i < (plant c (committer c i)).commit) × ((q : ℕ) → q < committer c i → (plant c q).commit ≤ i)
unfolding committer
committer_first c i r h k = (
  committer_below c i (omega arith),
  committer_committed c i r h k,
  λ q l. none_before c i 0 (c.size - 1) q (omega arith) l,
)

-- past the entries remembered, the canonical entry is that plant's
pub beyond : (c : Cluster) (i : ℕ) → length c.tracker.canonical ≤ i → canonical_entry c i ≡ entry c (committer c i) i
unfolding canonical_entry
beyond c i h = rw (le-ltb i (length c.tracker.canonical) h)

module _ (c : Cluster) where
  abbrev known : ℕ
  known = length c.tracker.canonical

  -- the greatest commit of the plants below r, or the length before
  abbrev reached : ℕ → ℕ
  reached r = max_below r (λ q. (plant c q).commit) known

  -- the canonical entries from that length on, and all of them up to an index m
  abbrev further : ℕ → LogEntry
  further k = canonical_entry c (known + k)

  abbrev up_to : ℕ → List LogEntry
  up_to m = c.tracker.canonical ++ numbered (m - known) further

  up_long : (m : ℕ) → known ≤ m → length (up_to m) ≡ m
  up_long m h =
      omega (arith, length-append c.tracker.canonical (numbered (m - known) further), length-numbered (m - known) further)

  up_start : up_to known ≡ c.tracker.canonical
  unfolding numbered
  up_start = let z : known - known ≡ 0 = omega arith in rw z (append-nil c.tracker.canonical)

  up_more : (m : ℕ) → known ≤ m → up_to (suc m) ≡ up_to m ++ (canonical_entry c m ∷ [])
  unfolding numbered
  up_more m h =
      let z : suc m - known ≡ suc (m - known) = omega arith in
      let y : known + (m - known) ≡ m = omega arith in
      ap (λ (k : ℕ). c.tracker.canonical ++ numbered k further) z
      ∙ (sym (append_assoc c.tracker.canonical (numbered (m - known) further) (further (m - known) ∷ []))
      ∙ ap (λ (k : ℕ). up_to m ++ (canonical_entry c k ∷ [])) y)

  up_at : (m i : ℕ) → known ≤ m → i < m → get_or (up_to m) i no_entry ≡ canonical_entry c i
  unfolding canonical_entry
  up_at m i h l =
      elim (dec_lt i known) [
        | yes g ↦
            get_or-append c.tracker.canonical (numbered (m - known) further) no_entry i g ∙ rw (lt-ltb i known g)
        | no g ↦
            let z : i ≡ known + (i - known) = omega arith in
            ap (λ (k : ℕ). get_or (up_to m) k no_entry) z
            ∙ (get_or-append-add c.tracker.canonical (numbered (m - known) further) (i - known) no_entry
            ∙ (get_d_numbered (m - known) further (i - known) no_entry (omega arith) ∙ ap (canonical_entry c) (sym z)))
      ]

  -- a walk that answers so and, if it passes, has gathered the entries up to m
  pub record Walked (w : Walk) (x : Result ⊤ Break) (m : ℕ) : Type 0 where
    pub answer : w.answer ≡ x
    pub canonical : w.answer ≡ Ok tt → w.canonical ≡ up_to m

  going_on : (w : Walk) (x y : Result ⊤ Break) (m e : ℕ) (more : List LogEntry → Walk) → Walked w x m → Walked (more (up_to m)) y e
      → Walked (walk_then w more) (and_then x y) e
  going_on w x y m e more h k = subst (λ (z : Result ⊤ Break). Walked (walk_then w more) (and_then z y) e) h.answer (go w.answer refl)
    where
      go : (a : Result ⊤ Break) → w.answer ≡ a → Walked (on_answer a w more) (and_then a y) e
      go (Ok u) q = rw (h.canonical q) k
      go (Err b) q = record { answer = q; canonical = λ z. absurd (no_pass b (sym q ∙ z)) }

  -- ---- a plant's entries
  module _ (r : ℕ) (h : r < c.size) where
    abbrev compared : ℕ → Result ⊤ Break
    compared i = at_entry all.TheVariants.PrefixAgreement r i 1 (agrees c r i)

    -- the first plant to commit an index that is not remembered appends its entry
    is_appended : (i : ℕ) → reached r ≤ i → i < (plant c r).commit → canonical_entry c i ≡ entry c r i
    is_appended i l g =
        let f = committer_first c i r h g in
        let q = committer c i in
        let z : q ≡ r =
        elim (dec_lt q r) [
          | yes o ↦ absurd (omega (arith, f.1, max_reaches r (λ k. (plant c k).commit) known q o))
          | no o ↦ elim (dec_lt r q) [ yes a ↦ absurd (omega (arith, f.2 r a)) | no a ↦ omega arith ]
        ] in
        beyond c i (omega (arith, max_start r (λ k. (plant c k).commit) known)) ∙ ap (λ (k : ℕ). entry c k i) z

    one_entry : (i m : ℕ) → reached r ≤ m → i ≤ m → i < (plant c r).commit
        → Walked (compared_or_appended r i (entry c r i) (up_to m)) (compared i) (max m (suc i))
    unfolding agrees
    one_entry i m l g o =
        let long : known ≤ m = omega (arith, max_start r (λ k. (plant c k).commit) known) in
        elim (dec_lt i m) [
          | yes b ↦
              let z : m ≡ max m (suc i) = omega arith in
              rw (up_long m long, lt-ltb i m b) (record { answer = rw (up_at m i long b); canonical = λ q. ap up_to z })
          | no b ↦
              let z : i ≡ m = omega arith in
              let y : suc m ≡ max m (suc i) = omega arith in
              let same = is_appended i (omega arith) o in
              rw (up_long m long, le-ltb i m (omega arith))
              (record {
                answer = rw (entries_same (canonical_entry c i) (entry c r i) same);
                canonical = λ q.
                    ap (λ (x : LogEntry). up_to m ++ (x ∷ [])) (sym same ∙ ap (canonical_entry c) z) ∙ (sym (up_more m long) ∙ ap up_to y);
              })
        ]

    over_indexes_lem : (count i m e : ℕ) → reached r ≤ m → i ≤ m → count ≤ (plant c r).commit - i → e ≡ max m (i + count)
        → Walked (over_indexes c r i count (up_to m)) (first_answer compared i count) e
    unfolding over_indexes first_answer
    over_indexes_lem zero i m e l g o z = record { answer = refl; canonical = λ q. ap up_to (omega arith) }
    over_indexes_lem (suc count) i m e l g o z =
        going_on (compared_or_appended r i (entry c r i) (up_to m)) (compared i) (first_answer compared (suc i) count) (max m (suc i)) e
        (over_indexes c r (suc i) count)
        (one_entry i m l g (omega arith))
        (over_indexes_lem count (suc i) (max m (suc i)) e (omega arith) (omega arith) (omega arith) (omega arith))

  -- ---- all plants, of which none was verified past the canonical entries
  module _ (verified : (r : ℕ) → r < c.size → last c r ≤ known) where
    over_all_lem : (count r : ℕ) → r + count ≡ c.size
        → Walked (over_all c r count (up_to (reached r)))
        (first_answer (λ r. over_committed c r (λ i. at_entry all.TheVariants.PrefixAgreement r i 1 (agrees c r i))) r count)
        (reached c.size)
    unfolding over_all first_answer max_below
    over_all_lem zero r e = let z : r ≡ c.size = omega arith in record { answer = refl; canonical = λ q. ap (λ (k : ℕ). up_to (reached k)) z }
    over_all_lem (suc count) r e =
        let h : r < c.size = omega arith in
        going_on _ _ _ (reached (suc r)) (reached c.size) (over_all c (suc r) count)
        (over_indexes_lem r h ((plant c r).commit - last c r) (last c r) (reached r) (reached (suc r)) (omega arith)
        (omega (arith, verified r h, max_start r (λ k. (plant c k).commit) known)) (omega arith)
        (omega (arith, verified r h, max_start r (λ k. (plant c k).commit) known)))
        (over_all_lem count (suc r) (omega arith))

    walked : Walked (appending c) (over_entries PrefixAgreement c) (reached c.size)
    unfolding over_entries max_below
    walked = rw up_start at (over_all_lem c.size 0 (omega arith))

    pub agreement_is_appending : (appending c).answer ≡ over_entries PrefixAgreement c
    agreement_is_appending = walked.answer

    pub appended_are : (appending c).answer ≡ Ok tt → (appending c).canonical ≡ c.tracker.canonical ++ appended c
    unfolding appended length_after
    appended_are e = walked.canonical e

-- so it is of a tracker that fits
pub fitting_verified : (n : ℕ) (p l t : List ℕ) → tracker_fits n t ≡ true
    → let c = cluster_in n p l t in (r : ℕ) → r < n → last c r ≤ length c.tracker.canonical
fitting_verified n p l t h r g = omega (arith, (tracker_known n t h).lasts r g, last_held n p l t r g, canonical_long n p l t)

-- What the words hold after a pass: the canonical entries with the appended ones, and the commits as last commits; and the words as they came,
-- if nothing was newly committed. Assumes nothing.
use borrow.Author.Tests.{lt-ltb}
use native.Mathlib.Omega.{arith}
use native.Mathlib.Decide.{dec_lt}
use mathlib.Core.List.{List, [], ◌∷◌, ◌++◌}
use mathlib.Core.Logic.{◌⊎◌, inl, ⊎_elim}
use mathlib.Core.Path.{◌≡◌, refl, sym, ap, ◌∙◌}
use Prim.Native.Nat.{ℕ, zero, suc, ◌+◌, ◌-◌, ◌*◌, ◌≤◌, ◌<◌}
use lib.ListN.{length, get_or}
use lib.Seq.{get_or-append-add, set-get_or}
use Rattle.properties_snapshots.specs.Below.{numbered}
use Rattle.properties_snapshots.specs.Cluster.{LogEntry, Cluster, words_of_entry, words_of_entries, no_entry, plant, entry, last, entry_in, tracker_in, cluster_in}
use Rattle.basis.specs.Basis.{laid}
use Rattle.properties_snapshots.specs.Layout.{entry_words, id_at, log_entries, commit_at, entry_at, count_at, length_at, lasts_at, last_at, canonical_at, seen_at, tracker_words}
use Rattle.properties_snapshots.specs.Shape.{Snapshot, Tracked, Forward}
use Rattle.properties_snapshots.proofs.Below.{length-numbered, get_d_numbered, numbered_same, max_start, max_bound, max_reaches, numbered_none}
use Rattle.properties_snapshots.proofs.Held.{canonical_long, canonical_held, commit_held, last_held}
use Rattle.properties_snapshots.proofs.Laid.{laid_none, length-laid, laid_below, laid_first, laid_same, laid_above, laid_within}
use Rattle.properties_snapshots.proofs.Same.{same_words}
use Rattle.properties_agreement.specs.Agreement.{canonical_entry}
use Rattle.properties_remembering.specs.Remembering.{length_after, appended, new_ids, with_ids, with_entries, with_commits, remembered}
use Rattle.properties_remembering.proofs.Written.{length_words, ids_held, ids_kept, length_held}

-- the entries in their words
words_at : (es : List LogEntry) (k : ℕ) → k < length es → entry_in (words_of_entries es) (k * entry_words) ≡ get_or es k no_entry
unfolding words_of_entries
words_at [] k h = absurd (omega arith)
words_at (e ∷ es) zero h = refl
words_at (e ∷ es) (suc k) h =
    same_words (words_of_entry e ++ words_of_entries es) (words_of_entries es) (suc k * entry_words) (k * entry_words)
    (λ m g.
    let z : suc k * entry_words + m ≡ entry_words + (k * entry_words + m) = omega arith in
    ap (λ (j : ℕ). get_or (words_of_entry e ++ words_of_entries es) j 0) z ∙ get_or-append-add (words_of_entry e) (words_of_entries es) (k * entry_words + m) 0)
    ∙ words_at es k (omega arith)

module _ (n : ℕ) (p l t : List ℕ) (s : Snapshot n p l) (k : Tracked n t) (f : Forward n p t) where
  abbrev c : Cluster
  c = cluster_in n p l t

  -- the words with the ids, and with the entries too
  abbrev seen : List ℕ
  seen = with_ids c n t

  abbrev listed : List ℕ
  listed = with_entries c seen

  seen_long : length seen ≡ tracker_words n
  seen_long = (ids_kept n p l t s k f n (omega arith)).0 ∙ k.words

  -- the canonical length grows to 128 at most
  reach : (get_or t length_at 0 ≤ length_after c) × (length_after c ≤ log_entries)
  reach =
      let e = length_held n p l t s k f in (
        omega (arith, max_start n (λ r. get_or p (commit_at r) 0) (get_or t length_at 0)),
        omega (arith, max_bound n (λ r. get_or p (commit_at r) 0) (get_or t length_at 0) log_entries k.canonical (λ r h. omega (arith, f.within r h, s.sizes r h))),
      )

  appended_long : length (appended c) ≡ length_after c - get_or t length_at 0
  unfolding appended
  appended_long =
      length-numbered (length_after c - length c.tracker.canonical) (λ j. canonical_entry c (length c.tracker.canonical + j))
      ∙ ap (λ (j : ℕ). length_after c - j) (canonical_long n p l t)

  -- the place and the number of the words appended
  appended_words : length (words_of_entries (appended c)) ≡ (length_after c - get_or t length_at 0) * entry_words
  appended_words = length_words (appended c) ∙ ap (λ (j : ℕ). j * entry_words) appended_long

  listed_is : listed ≡ laid seen (canonical_at n (get_or t length_at 0)) (words_of_entries (appended c))
  unfolding with_entries
  listed_is = ap (λ (j : ℕ). laid seen (canonical_at n j) (words_of_entries (appended c))) (canonical_long n p l t)

  listed_long : length listed ≡ tracker_words n
  listed_long =
      ap length listed_is
      ∙ (length-laid seen (canonical_at n (get_or t length_at 0)) (words_of_entries (appended c)) (omega (arith, appended_words, reach, seen_long)) ∙ seen_long)

  abbrev front : List ℕ
  front = length_after c ∷ numbered n (λ r. (plant c r).commit)

  front_long : length front ≡ suc n
  front_long = ap suc (length-numbered n (λ r. (plant c r).commit))

  -- the length of the words, and the words in front
  pub after_words : length (remembered c t) ≡ tracker_words n
  unfolding remembered with_commits
  after_words = length-laid listed length_at front (omega (arith, front_long, listed_long)) ∙ listed_long

  pub after_length : get_or (remembered c t) length_at 0 ≡ length_after c
  unfolding remembered with_commits
  after_length = laid_within listed length_at front 0 (omega (arith, front_long)) (omega (arith, listed_long))

  pub after_last : (r : ℕ) → r < n → get_or (remembered c t) (last_at r) 0 ≡ (plant c r).commit
  unfolding remembered with_commits
  after_last r h =
      let z : last_at r ≡ length_at + suc r = omega arith in
      ap (λ (j : ℕ). get_or (laid listed length_at front) j 0) z
      ∙ (laid_within listed length_at front (suc r) (omega (arith, front_long)) (omega (arith, listed_long))
      ∙ get_d_numbered n (λ r. (plant c r).commit) r 0 h)

  pub after_count : get_or (remembered c t) count_at 0 ≡ get_or t count_at 0
  unfolding remembered with_commits
  after_count =
      laid_below listed length_at front count_at 0 (omega arith) (omega (arith, listed_long))
      ∙ (ap (λ (w : List ℕ). get_or w count_at 0) listed_is
      ∙ (laid_below seen (canonical_at n (get_or t length_at 0)) (words_of_entries (appended c)) count_at 0 (omega arith) (omega (arith, seen_long, k.canonical))
      ∙ (ids_kept n p l t s k f n (omega arith)).1 count_at (omega arith)))

  -- a tracker that fits does so after a pass
  pub after_tracked : Tracked n (remembered c t)
  unfolding length_after
  after_tracked =
      record {
        words = after_words;
        count = after_count ∙ k.count;
        canonical = omega (arith, after_length, reach);
        lasts = λ r h. omega (arith, after_length, after_last r h, max_reaches n (λ r. (plant c r).commit) (length c.tracker.canonical) r h);
      }

  -- behind the front the words are those listed
  behind : (j : ℕ) → canonical_at n 0 ≤ j → get_or (remembered c t) j 0 ≡ get_or listed j 0
  unfolding remembered with_commits
  behind j h = laid_above listed length_at front j (omega (arith, front_long)) (omega (arith, front_long, listed_long))

  -- a word of the canonical part that lies before the appended entries, or behind them, stays
  pub after_kept : (j : ℕ) → canonical_at n 0 ≤ j → j < seen_at n 0 0 → (j < canonical_at n (get_or t length_at 0)) ⊎ (canonical_at n (length_after c) ≤ j)
      → get_or (remembered c t) j 0 ≡ get_or t j 0
  after_kept j a b o =
      let at = canonical_at n (get_or t length_at 0) in
      let words = words_of_entries (appended c) in
      behind j a
      ∙ (ap (λ (w : List ℕ). get_or w j 0) listed_is
      ∙ (⊎_elim (λ h. laid_below seen at words j 0 h (omega (arith, seen_long, k.canonical)))
      (λ h. laid_above seen at words j (omega (arith, appended_words, reach)) (omega (arith, appended_words, reach, seen_long))) o
      ∙ (ids_kept n p l t s k f n (omega arith)).1 j b))

  -- an entry that was canonical before stays
  known_entry : (i : ℕ) → i < get_or t length_at 0 → entry_in (remembered c t) (canonical_at n i) ≡ entry_in t (canonical_at n i)
  known_entry i h =
      same_words (remembered c t) t (canonical_at n i) (canonical_at n i)
      (λ m g. after_kept (canonical_at n i + m) (omega arith) (omega (arith, k.canonical)) (inl (omega arith)))

  -- an entry that is appended
  new_entry : (i : ℕ) → get_or t length_at 0 ≤ i → i < length_after c
      → entry_in (remembered c t) (canonical_at n i) ≡ entry_in (words_of_entries (appended c)) ((i - get_or t length_at 0) * entry_words)
  new_entry i h g =
      same_words (remembered c t) (words_of_entries (appended c)) (canonical_at n i) ((i - get_or t length_at 0) * entry_words)
      (λ m o.
      let z : canonical_at n i + m ≡ canonical_at n (get_or t length_at 0) + ((i - get_or t length_at 0) * entry_words + m) = omega arith in
      behind (canonical_at n i + m) (omega arith)
      ∙ (ap (λ (w : List ℕ). get_or w (canonical_at n i + m) 0) listed_is
      ∙ (ap (λ (j : ℕ). get_or (laid seen (canonical_at n (get_or t length_at 0)) (words_of_entries (appended c))) j 0) z
      ∙ laid_within seen (canonical_at n (get_or t length_at 0)) (words_of_entries (appended c)) ((i - get_or t length_at 0) * entry_words + m) (omega (arith, appended_words))
      (omega (arith, seen_long, k.canonical)))))

  appended_at : (i : ℕ) → get_or t length_at 0 ≤ i → i < length_after c → get_or (appended c) (i - get_or t length_at 0) no_entry ≡ canonical_entry c i
  unfolding appended
  appended_at i h g =
      let z : get_or t length_at 0 + (i - get_or t length_at 0) ≡ i = omega arith in
      rw (canonical_long n p l t)
      (get_d_numbered (length_after c - get_or t length_at 0) (λ j. canonical_entry c (get_or t length_at 0 + j)) (i - get_or t length_at 0) no_entry (omega arith)
      ∙ ap (canonical_entry c) z)

  was_canonical : (i : ℕ) → i < get_or t length_at 0 → canonical_entry c i ≡ entry_in t (canonical_at n i)
  unfolding canonical_entry
  was_canonical i h = rw (canonical_long n p l t, lt-ltb i (get_or t length_at 0) h, canonical_held n p l t i h)

  -- the canonical entries after a pass
  pub after_canonical : (i : ℕ) → i < length_after c → get_or (tracker_in n (remembered c t)).canonical i no_entry ≡ canonical_entry c i
  after_canonical i h =
      canonical_held n p l (remembered c t) i (omega (arith, after_length))
      ∙ elim (dec_lt i (get_or t length_at 0)) [
        | yes g ↦ known_entry i g ∙ sym (was_canonical i g)
        | no g ↦
            new_entry i (omega arith) h
            ∙ (words_at (appended c) (i - get_or t length_at 0) (omega (arith, appended_long)) ∙ appended_at i (omega arith) h)
      ]

  -- where the id of plant r at index i stands
  module _ (r i : ℕ) (h : r < n) (o : i < log_entries) where
    -- how far a plant's ids reach
    reaches : (q : ℕ) → q < n → (last c q ≡ get_or t (last_at q) 0) × (length (new_ids c q) ≡ get_or p (commit_at q) 0 - get_or t (last_at q) 0)
    reaches q g = (
      last_held n p l t q g,
      ap length (ids_held n p l t s k f q g) ∙ length-numbered (get_or p (commit_at q) 0 - get_or t (last_at q) 0)
          (λ j. get_or l (id_at (entry_at q (get_or t (last_at q) 0 + j))) 0),
    )

    -- the ids of the plants before it lie before it, and those of the plants after it behind it
    earlier : (m : ℕ) → m ≤ r → get_or (with_ids c m t) (seen_at n r i) 0 ≡ get_or t (seen_at n r i) 0
    unfolding with_ids
    earlier zero g = refl
    earlier (suc m) g =
        let e = reaches m (omega arith) in
        let b = f.within m (omega arith) in
        let d = s.sizes m (omega arith) in
        let a = f.onward m (omega arith) in
        let z = (ids_kept n p l t s k f m (omega arith)).0 in
        laid_above (with_ids c m t) (seen_at n m (last c m)) (new_ids c m) (seen_at n r i) (omega (arith, e)) (omega (arith, e, k.words))
        ∙ earlier m (omega arith)

    later : (m v : ℕ) → r < m → m ≤ n → get_or (with_ids c (suc r) t) (seen_at n r i) 0 ≡ v → get_or (with_ids c m t) (seen_at n r i) 0 ≡ v
    unfolding with_ids
    later zero v g b e = absurd (omega arith)
    later (suc m) v g b e =
        elim (dec_lt r m) [
          | yes x ↦
              laid_below (with_ids c m t) (seen_at n m (last c m)) (new_ids c m) (seen_at n r i) 0 (omega arith)
              (omega (
                arith,
                (ids_kept n p l t s k f m (omega arith)).0,
                k.words,
                (reaches m (omega arith)).0,
                f.onward m (omega arith),
                f.within m
                    (omega arith),
                s.sizes m (omega arith),
              ))
              ∙ later m v x (omega arith) e
          | no x ↦ let z : m ≡ r = omega arith in ap (λ (j : ℕ). get_or (with_ids c (suc j) t) (seen_at n r i) 0) z ∙ e
        ]

    -- the appended entries and the front lie before the ids
    from_ids : get_or (remembered c t) (seen_at n r i) 0 ≡ get_or seen (seen_at n r i) 0
    from_ids =
        behind (seen_at n r i) (omega arith)
        ∙ (ap (λ (w : List ℕ). get_or w (seen_at n r i) 0) listed_is
        ∙ laid_above seen (canonical_at n (get_or t length_at 0)) (words_of_entries (appended c)) (seen_at n r i)
        (omega (arith, appended_words, reach)) (omega (arith, appended_words, reach, seen_long)))

    -- an id newly seen, and one that stays
    pub after_new : get_or t (last_at r) 0 ≤ i → i < get_or p (commit_at r) 0 → get_or (remembered c t) (seen_at n r i) 0 ≡ (entry c r i).id
    unfolding with_ids new_ids
    after_new g b =
        let e = reaches r h in
        let z : seen_at n r i ≡ seen_at n r (last c r) + (i - get_or t (last_at r) 0) = omega (arith, e.0) in
        let y : last c r + (i - get_or t (last_at r) 0) ≡ i = omega (arith, e.0) in
        from_ids
        ∙ later n (entry c r i).id h (omega arith)
        (ap (λ (j : ℕ). get_or (with_ids c (suc r) t) j 0) z
        ∙ (laid_within (with_ids c r t) (seen_at n r (last c r)) (new_ids c r) (i - get_or t (last_at r) 0) (omega (arith, e.1))
        (omega (arith, (ids_kept n p l t s k f r (omega arith)).0, k.words, e.0, f.within r h, s.sizes r h))
        ∙ (get_d_numbered ((plant c r).commit - last c r) (λ j. (entry c r (last c r + j)).id) (i - get_or t (last_at r) 0) 0
        (omega (arith, e.0, commit_held n p l t r h))
        ∙ ap (λ (j : ℕ). (entry c r j).id) y)))

    pub after_old : i < get_or t (last_at r) 0 → get_or (remembered c t) (seen_at n r i) 0 ≡ get_or t (seen_at n r i) 0
    unfolding with_ids
    after_old g =
        from_ids
        ∙ later n (get_or t (seen_at n r i) 0) h (omega arith)
        (laid_below (with_ids c r t) (seen_at n r (last c r)) (new_ids c r) (seen_at n r i) 0 (omega (arith, (reaches r h).0))
        (omega (arith, (ids_kept n p l t s k f r (omega arith)).0, k.words, (reaches r h).0, f.onward r h, f.within r h, s.sizes r h))
        ∙ earlier r (omega arith))

    -- one at or past the commit stays too
    pub after_past : get_or p (commit_at r) 0 ≤ i → get_or (remembered c t) (seen_at n r i) 0 ≡ get_or t (seen_at n r i) 0
    unfolding with_ids
    after_past g =
        let e = reaches r h in
        let a = f.onward r h in
        from_ids
        ∙ later n (get_or t (seen_at n r i) 0) h (omega arith)
        (laid_above (with_ids c r t) (seen_at n r (last c r)) (new_ids c r) (seen_at n r i) (omega (arith, e))
        (omega (arith, e, (ids_kept n p l t s k f r (omega arith)).0, k.words, f.within r h, s.sizes r h))
        ∙ earlier r (omega arith))

  -- nothing newly committed
  module _ (still : (r : ℕ) → r < n → get_or p (commit_at r) 0 ≡ get_or t (last_at r) 0) where
    no_ids : (r : ℕ) → r ≤ n → with_ids c r t ≡ t
    unfolding with_ids
    no_ids zero h = refl
    no_ids (suc r) h =
        let ids : ℕ → ℕ = λ j. get_or l (id_at (entry_at r (get_or t (last_at r) 0 + j))) 0 in
        let z : get_or p (commit_at r) 0 - get_or t (last_at r) 0 ≡ 0 = omega (arith, still r (omega arith)) in
        ap (laid (with_ids c r t) (seen_at n r (last c r))) (ids_held n p l t s k f r (omega arith) ∙ (ap (λ (j : ℕ). numbered j ids) z ∙ numbered_none ids))
        ∙ (laid_none (with_ids c r t) (seen_at n r (last c r)) ∙ no_ids r (omega arith))

    as_long : length_after c ≡ get_or t length_at 0
    as_long =
        omega (
          arith,
          reach.0,
          length_held n p l t s k f,
          max_bound n (λ r. get_or p (commit_at r) 0) (get_or t length_at 0) (get_or t length_at 0) (omega arith) (λ r h. omega (arith, still r h, k.lasts r h)),
        )

    none_appended : words_of_entries (appended c) ≡ []
    unfolding appended words_of_entries
    none_appended =
        let z : length_after c - length c.tracker.canonical ≡ 0 = omega (arith, as_long, canonical_long n p l t) in
        ap words_of_entries
        (ap (λ (j : ℕ). numbered j (λ j. canonical_entry c (length c.tracker.canonical + j))) z
        ∙ numbered_none (λ j. canonical_entry c (length c.tracker.canonical + j)))

    same_front : front ≡ get_or t length_at 0 ∷ numbered n (λ r. get_or t (last_at r) 0)
    same_front =
        ap (λ (x : ℕ). x ∷ numbered n (λ r. (plant c r).commit)) as_long
        ∙ ap (λ (x : List ℕ). get_or t length_at 0 ∷ x) (numbered_same n (λ r. (plant c r).commit) (λ r. get_or t (last_at r) 0) (λ r h. commit_held n p l t r h ∙ still r h))

    pub nothing_written : remembered c t ≡ t
    unfolding remembered with_commits
    nothing_written =
        let listed_same : listed ≡ t = listed_is ∙ (ap (laid seen (canonical_at n (get_or t length_at 0))) none_appended ∙
        (laid_none seen (canonical_at n (get_or t length_at 0)) ∙ no_ids n (omega arith))) in
        ap (λ (x : List ℕ). laid x length_at front) listed_same
        ∙ (ap (laid t length_at) same_front
        ∙ (sym (laid_first t length_at (get_or t length_at 0) (numbered n (λ r. get_or t (last_at r) 0)) (omega (arith, k.words)))
        ∙ (ap (λ (x : List ℕ). laid x lasts_at (numbered n (λ r. get_or t (last_at r) 0))) (set-get_or t length_at 0)
        ∙ laid_same t lasts_at n (omega (arith, k.words)))))

-- The plants lined up: flags of 0 and 1 split a list in two, and the line is a permutation of the plants. Assumes nothing.
use mathlib.Core.Bool.{true, not}
use mathlib.Core.List.{List, [], ◌∷◌, ◌++◌, append-nil}
use mathlib.Core.Path.{◌≡◌, refl, sym, ap, ◌∙◌}
use Prim.Native.Nat.{ℕ, zero, suc, ◌+◌, ◌-◌, ◌≤◌, ◌<◌}
use native.Mathlib.Omega.{arith}
use borrow.Author.Tests.{leb-true}
use lib.Dec.{leb, eqb}
use lib.ListN.{length, take, drop, get_or, length-append, length-drop, length-take, drop_of_length-le}
use lib.Seq.{take_at, take_all, take-append-le, drop-append-le}
use Rattle.basis.specs.Basis.{quorum}
use Rattle.basis.proofs.Laws.{both}
use Rattle.plants_lineup.specs.Shuffle.{shuffled, picks_within}
use Rattle.plants_lineup.specs.Core.{ids_from, those, tally, is_healthy, is_recovering, candidates, staying, filler, line_up, recovering_fit, healthy_count}
use Rattle.plants_lineup.proofs.Tallies.{Permutation, tally-append, tally_parts, tally_split, same_length}
use Rattle.plants_lineup.proofs.Ids.{length_ids, ids_below}
use Rattle.plants_lineup.proofs.Shuffling.{shuffle_permutes}

-- ---- flags of 0 and 1
flag_small : (flags : List ℕ) → recovering_fit flags ≡ true → (x : ℕ) → get_or flags x 0 ≤ 1
unfolding recovering_fit
flag_small [] e x = omega arith
flag_small (f ∷ flags) e zero = leb-true f 1 (both (leb f 1) (recovering_fit flags) e).0
flag_small (f ∷ flags) e (suc x) = flag_small flags (both (leb f 1) (recovering_fit flags) e).1 x

one_or_none : (m : ℕ) → m ≤ 1 → eqb m 1 ≡ not (eqb m 0)
one_or_none zero h = refl
one_or_none (suc m) h = let z : suc m ≡ 1 = omega arith in rw z

module _ (flags : List ℕ) (fit : recovering_fit flags ≡ true) where
  apart : (x : ℕ) → is_recovering flags x ≡ not (is_healthy flags x)
  apart x = one_or_none (get_or flags x 0) (flag_small flags fit x)

  -- the healthy and the recovering are all there are
  split_permutes : (ids : List ℕ) → Permutation (those (is_healthy flags) ids ++ those (is_recovering flags) ids) ids
  split_permutes ids test =
      tally-append test (those (is_healthy flags) ids) (those (is_recovering flags) ids)
      ∙ tally_split test (is_healthy flags) (is_recovering flags) apart ids

  pub split_length : (ids : List ℕ) → tally (is_healthy flags) ids + tally (is_recovering flags) ids ≡ length ids
  split_length ids =
      sym (length-append (those (is_healthy flags) ids) (those (is_recovering flags) ids))
      ∙ same_length (those (is_healthy flags) ids ++ those (is_recovering flags) ids) ids (split_permutes ids)

-- ---- written one behind the other
pub both_appended : (a b l l₁ l₂ : List ℕ) (n : ℕ) → length a + length b ≡ length l → n ≡ 0 + length a
    → l₁ ≡ take 0 l ++ (a ++ drop (0 + length a) l) → l₂ ≡ take n l₁ ++ (b ++ drop (n + length b) l₁) → l₂ ≡ a ++ b
both_appended a b l l₁ l₂ n e h f g =
    let z : n ≡ length a = omega arith in
    let whole : length l₁ ≡ length l = ap length f ∙ simp (length-append, length-drop) (omega arith) in
    let front : take n l₁ ≡ a = ap (take n) f ∙ take_at a (drop (0 + length a) l) n (sym z) in
    let rest : drop (n + length b) l₁ ≡ [] = drop_of_length-le l₁ {i = n + length b} (omega arith) in
    g ∙ (ap (λ (x : List ℕ). x ++ (b ++ drop (n + length b) l₁)) front ∙ (ap (λ (x : List ℕ). a ++ (b ++ x)) rest ∙ ap (λ (x : List ℕ). a ++ x) (append-nil b)))

-- ---- the others behind the first k, taken out and put back
module _ (a b : List ℕ) (k : ℕ) (h : k ≤ length a) where
  behind : take (length (a ++ b) - k) (drop k (a ++ b)) ≡ drop k a ++ b
  behind =
      ap (take (length (a ++ b) - k)) (drop-append-le k a b h)
      ∙ take_all (length (a ++ b) - k) (drop k a ++ b) (simp (length-append, length-drop) (omega arith))

  put_back : (l new : List ℕ) → l ≡ take k (a ++ b) ++ (new ++ drop (length (a ++ b) - k) (drop k (a ++ b))) → l ≡ take k a ++ new
  put_back l new e =
      let none : drop (length (a ++ b) - k) (drop k (a ++ b)) ≡ [] =
      drop_of_length-le (drop k (a ++ b)) {i = length (a ++ b) - k} (simp (length-append, length-drop) (omega arith)) in
      e ∙ (ap (λ (x : List ℕ). x ++ (new ++ drop (length (a ++ b) - k) (drop k (a ++ b)))) (take-append-le k a b h)
      ∙ (ap (λ (x : List ℕ). take k a ++ (new ++ x)) none ∙ ap (λ (x : List ℕ). take k a ++ x) (append-nil new)))

  behind_length : length (drop k a ++ b) ≡ length (a ++ b) - k
  behind_length = simp (length-append, length-drop) (omega arith)

pub part_length : (l : List ℕ) (k : ℕ) → length (take (length l - k) (drop k l)) ≡ length l - k
part_length l k = simp (length-take, length-drop) (omega arith)

-- a quorum of the healthy in front, and the shuffled filler behind it
pub arranged : (n : ℕ) (flags ids picks line new : List ℕ) (k : ℕ) → k ≡ quorum n → quorum n ≤ tally (is_healthy flags) ids
    → line ≡ those (is_healthy flags) ids ++ those (is_recovering flags) ids → new ≡ shuffled picks (take (length line - k) (drop k line))
    → take k line ++ (new ++ drop (length line - k) (drop k line)) ≡ staying n flags ids ++ shuffled picks (filler n flags ids)
arranged n flags ids picks line new k e h f g =
    let healthy = those (is_healthy flags) ids in
    let others = those (is_recovering flags) ids in
    rw (g, e, f)
    (put_back healthy others (quorum n) h _ _ refl
    ∙ ap (λ (x : List ℕ). take (quorum n) healthy ++ shuffled picks x) (behind healthy others (quorum n) h))

-- ---- the line
module _ (n : ℕ) (flags first second : List ℕ) (fit : recovering_fit flags ≡ true) (enough : quorum n ≤ healthy_count n flags)
    (first-within : picks_within (n - 1) first ≡ true) (second-within : picks_within (n - quorum n - 1) second ≡ true) where
  pub dealt : Permutation (candidates n first) (ids_from 0 n)
  dealt = shuffle_permutes first (ids_from 0 n) (rw (length_ids 0 n) first-within)

  pub dealt_length : length (candidates n first) ≡ n
  dealt_length = same_length (candidates n first) (ids_from 0 n) dealt ∙ length_ids 0 n

  pub healthy_enough : quorum n ≤ tally (is_healthy flags) (candidates n first)
  unfolding healthy_count
  healthy_enough = omega (arith, dealt (is_healthy flags), enough)

  pub filler-length : length (filler n flags (candidates n first)) ≡ n - quorum n
  filler-length =
      let ids = candidates n first in
      behind_length (those (is_healthy flags) ids) (those (is_recovering flags) ids) (quorum n) healthy_enough
      ∙ ap (λ (k : ℕ). k - quorum n) (length-append (those (is_healthy flags) ids) (those (is_recovering flags) ids) ∙ (split_length flags fit ids ∙ dealt_length))

  -- the line is a permutation of the plants
  pub line_permutes : Permutation (line_up n flags first second) (ids_from 0 n)
  unfolding line_up
  line_permutes test =
      let ids = candidates n first in
      let healthy = those (is_healthy flags) ids in
      let others = those (is_recovering flags) ids in
      let stay = take (quorum n) healthy in
      let left = filler n flags ids in
      let moved = shuffle_permutes second left (rw filler-length second-within) test in
      omega (
        arith,
        tally-append test stay (shuffled second left),
        moved,
        tally-append test (drop (quorum n) healthy) others,
        tally_parts test (quorum n) healthy,
        tally_split test (is_healthy flags) (is_recovering flags) (apart flags fit) ids,
        dealt test,
      )

  pub line_length : length (line_up n flags first second) ≡ n
  line_length = same_length (line_up n flags first second) (ids_from 0 n) line_permutes ∙ length_ids 0 n

  -- what arranging the dealt plants asks, and what it gives
  module _ (ids : List ℕ) (e : ids ≡ candidates n first) (same : length flags ≡ n) where
    ids_length : length ids ≡ n
    ids_length = ap length e ∙ dealt_length

    ids_known : tally (leb (length flags)) ids ≡ 0
    ids_known = rw (e, same) (dealt (leb n) ∙ ids_below n 0 n (omega arith))

    pub ready : (k : ℕ) → k ≡ n → 3 ≤ n → n - quorum n - 1 ≤ length second
        → ((tally (leb (length flags)) ids ≡ 0) × (recovering_fit flags ≡ true) × (k ≡ length ids))
        × (((quorum (length ids) ≤ tally (is_healthy flags) ids) × (quorum (length ids) < length ids))
        × ((length ids - quorum (length ids) ≤ length second + 1) × (picks_within (length ids - quorum (length ids) - 1) second ≡ true)))
    ready k h few long =
        let m = ids_length in (
          (ids_known, fit, h ∙ sym m),
          (rw m (rw e healthy_enough, omega arith), rw m (omega arith, second-within)),
        )

    pub lined_up : (line rest : List ℕ) → line ≡ staying (length ids) flags ids ++ shuffled second (filler (length ids) flags ids) → line ++ rest ≡ line_up n flags first second ++ rest
    unfolding line_up
    lined_up line rest f = rw (f, ids_length, e)

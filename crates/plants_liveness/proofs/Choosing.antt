-- The core where all tests passed: the front of the line, which has no plant twice and none of n or over; its flags, and its members gathered by
-- their flags. Assumes nothing.
use mathlib.Core.Bool.{Bool, true, ◌&&◌}
use mathlib.Core.List.{List, ◌++◌}
use mathlib.Core.Path.{◌≡◌, sym, ap, ◌∙◌}
use Prim.Native.Nat.{ℕ, ◌+◌, ◌-◌, ◌≤◌}
use native.Mathlib.Nat.{zero-add}
use native.Mathlib.Omega.{arith}
use borrow.Author.Tests.{leb-true}
use lib.Dec.{leb, eqb}
use lib.ListN.{length, take, drop, replicate, length-append, length-drop}
use lib.Seq.{length-take-le, take-append-le}
use Rattle.basis.specs.Basis.{most, quorum}
use Rattle.basis.proofs.Laws.{both}
use Rattle.plants_lineup.specs.Shuffle.{picks_within}
use Rattle.plants_lineup.specs.Core.{size_picks, first_picks, second_picks, core_size, picks_in_range, ids_from, those, tally, line_up, core_of}
use Rattle.plants_liveness.specs.Choice.{member, in_core, is_set, up_after}
use Rattle.plants_lineup.proofs.Tallies.{Permutation, tally_parts}
use Rattle.plants_lineup.proofs.Ids.{ids_below, ids_once}
use Rattle.plants_lineup.proofs.Lining.{line_permutes, line_length}
use Rattle.plants_liveness.proofs.Marking.{flag_of}
use Rattle.plants_liveness.proofs.Sorting.{Once, sort_permutes, same_members, same_flags, those_same, sorted_is}
use Rattle.plants_liveness.proofs.Ranges.{rest}
use Rattle.plants_liveness.proofs.Lending.{Ready}

-- the line, and the plants that the core takes from its front
abbrev pub line_of : ℕ → List ℕ → List ℕ → Bool → List ℕ
line_of n flags picks full = line_up n flags (first_picks picks full) (second_picks n picks full)

abbrev pub front : ℕ → List ℕ → List ℕ → Bool → List ℕ
front n flags picks full = take (core_size n picks full) (line_of n flags picks full)

module _ (n : ℕ) (flags picks : List ℕ) (full : Bool) (r : Ready n flags picks full) where
  pub in_range_lem : (quorum n ≤ core_size n picks full) × (core_size n picks full ≤ n) × (picks_within (n - 1) (first_picks picks full) ≡ true)
      × (picks_within (n - quorum n - 1) (second_picks n picks full) ≡ true)
  unfolding picks_in_range
  in_range_lem =
      let size = core_size n picks full in
      let low = leb (quorum n) size in
      let high = leb size n in
      let once = picks_within (n - 1) (first_picks picks full) in
      let again = picks_within (n - quorum n - 1) (second_picks n picks full) in
      let a = both (low && high && once) again r.within in
      let b = both (low && high) once a.0 in
      let c = both low high b.0 in
      (leb-true _ _ c.0, leb-true _ _ c.1, b.1, a.1)

  pub permutes : Permutation (line_of n flags picks full) (ids_from 0 n)
  permutes = line_permutes n flags (first_picks picks full) (second_picks n picks full) r.fit r.healthy in_range_lem.2 in_range_lem.3

  pub whole : length (line_of n flags picks full) ≡ n
  whole = line_length n flags (first_picks picks full) (second_picks n picks full) r.fit r.healthy in_range_lem.2 in_range_lem.3

  pub front_size : length (front n flags picks full) ≡ core_size n picks full
  front_size = length-take-le (core_size n picks full) (line_of n flags picks full) (omega (arith, whole, in_range_lem.1))

  fewer : (test : ℕ → Bool) → tally test (front n flags picks full) ≤ tally test (ids_from 0 n)
  fewer test = omega (arith, tally_parts test (core_size n picks full) (line_of n flags picks full), permutes test)

  front_once : Once (front n flags picks full)
  front_once x = omega (arith, fewer (eqb x), ids_once x 0 n)

  pub front_below : (k : ℕ) → n ≤ k → tally (leb k) (front n flags picks full) ≡ 0
  front_below k h = omega (arith, fewer (leb k), ids_below k 0 n (omega arith))

  -- the core is the front of the line, sorted: the same members, in the order of their numbers
  pub core_permutes : Permutation (core_of n flags picks full) (front n flags picks full)
  unfolding core_of
  core_permutes = sort_permutes (front n flags picks full)

  pub core_is : core_of n flags picks full ≡ those (λ x. member x (front n flags picks full)) (ids_from 0 most)
  unfolding core_of
  core_is = sorted_is most (front n flags picks full) front_once (front_below most r.many)

  pub flags_of_front : in_core (front n flags picks full) 0 most ≡ up_after (core_of n flags picks full)
  flags_of_front =
      sym
      (same_flags (core_of n flags picks full) (front n flags picks full)
      (same_members (core_of n flags picks full) (front n flags picks full) core_permutes) 0 most)

  pub gathered : those (is_set (up_after (core_of n flags picks full))) (ids_from 0 most) ≡ core_of n flags picks full
  gathered =
      let core = core_of n flags picks full in
      those_same (is_set (up_after core)) (λ x. member x (front n flags picks full)) 0 most
      (λ x h m. flag_of core 0 most x (omega arith)
      ∙ (ap (λ (y : ℕ). member y core) (zero-add x) ∙ same_members core (front n flags picks full) core_permutes x))
      ∙ sym core_is

  -- ---- the picks and the line as the code has them
  module _ (first : ℕ) (e : first ≡ size_picks full) where
    first_lent : take (length picks - first) (drop first picks) ≡ first_picks picks full
    first_lent = rest picks first ∙ ap (λ (k : ℕ). drop k picks) e

    second_lent : take (length picks - (first + (n - 1))) (drop (first + (n - 1)) picks) ≡ second_picks n picks full
    second_lent = rest picks (first + (n - 1)) ∙ ap (λ (k : ℕ). drop (k + (n - 1)) picks) e

    pub first_ready : (n - 1 ≤ length (take (length picks - first) (drop first picks))) × (picks_within (n - 1) (take (length picks - first) (drop first picks)) ≡ true)
    first_ready = rw first_lent (omega (arith, length-drop (size_picks full) picks, r.enough), in_range_lem.2)

    pub second_ready : (n - quorum n - 1 ≤ length (take (length picks - (first + (n - 1))) (drop (first + (n - 1)) picks)))
        × (picks_within (n - quorum n - 1) (take (length picks - (first + (n - 1))) (drop (first + (n - 1)) picks)) ≡ true)
    second_ready = rw second_lent (omega (arith, length-drop (size_picks full + (n - 1)) picks, r.enough), in_range_lem.3)

    module _ (size : ℕ) (line : List ℕ) (f : size ≡ core_size n picks full)
        (g : line ≡ line_up n flags (take (length picks - first) (drop first picks)) (take (length picks - (first + (n - 1))) (drop (first + (n - 1)) picks)) ++ replicate (most - n) 0) where
      line_is : line ≡ line_of n flags picks full ++ replicate (most - n) 0
      line_is = g ∙ ap (λ (l : List ℕ). l ++ replicate (most - n) 0) (λ t. line_up n flags (first_lent t) (second_lent t))

      pub size_fits : size ≤ length line
      size_fits =
          omega (arith, f, in_range_lem.1, whole, ap length line_is, length-append (line_of n flags picks full) (replicate (most - n) 0))

      pub front_is : take size line ≡ front n flags picks full
      front_is =
          (λ t. take (f t) (line_is t))
          ∙ take-append-le (core_size n picks full) (line_of n flags picks full) (replicate (most - n) 0) (omega (arith, in_range_lem.1, whole))

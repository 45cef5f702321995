-- The records numbered at most `last` move to the front: the walk of `keep_front`, and the zeros that follow them. Assumes nothing.
use Prim.Native.Nat.{ℕ, zero, suc, ◌+◌, ◌-◌, ◌*◌, ◌≤◌, ◌<◌}
use mathlib.Core.Path.{◌≡◌, refl, sym, ap, ◌∙◌}
use mathlib.Core.List.{List, [], ◌∷◌, ◌++◌, append_assoc, append-nil}
use mathlib.Core.Bool.{true, false}
use native.Mathlib.Omega.{arith}
use native.Mathlib.Numerals.{add-one}
use borrow.Author.Tests.{le-leb, lt-leb}
use lib.ListN.{length, take, drop, get_or, replicate, length-drop, length-append, take-append-drop}
use lib.Seq.{get_or-append-add, get_or-drop, take_at, drop-append-add, drop-drop}
use Rattle.nights.specs.Record.{Record, words, record_words, record_at, recs}
use Rattle.nights.specs.Net.{keep}
use Rattle.nights.proofs.Order.{keep_append, length_split}
use Rattle.nights.proofs.Undo.{length-record_words}
use Rattle.network_queue.proofs.Inserting.{length-recs, record_words-recs}
use Rattle.network_drop.specs.Numbered.{up_to}

recs_snoc : (w : List ℕ) (b i : ℕ) → recs w b (suc i) ≡ recs w b i ++ (record_at w (b + i * 8) ∷ [])
unfolding recs
recs_snoc w b zero = let z : b + zero * 8 ≡ b = omega arith in rw z
recs_snoc w b (suc i) =
    let z : b + suc i * 8 ≡ b + 8 + i * 8 = omega arith in
    rw z (ap (λ (l : List Record). record_at w b ∷ l) (recs_snoc w (b + 8) i))

record_words_snoc : (l : List Record) (x : Record) → record_words (l ++ (x ∷ [])) ≡ record_words l ++ words x
unfolding record_words
record_words_snoc [] x = refl
record_words_snoc (y ∷ l) x = rw (record_words_snoc l x)

-- those of the first i records that are kept
abbrev pub kept : List ℕ → ℕ → ℕ → List Record
kept w last i = keep (up_to last) (recs w 0 i)

pub kept_few : (w : List ℕ) (last i : ℕ) → length (kept w last i) ≤ i
kept_few w last i = omega (arith, length_split (up_to last) (recs w 0 i), length-recs w 0 i)

-- after i records: m are kept, their words stand in front, and the words behind those are as they came
pub record Moved (v w : List ℕ) (last m i : ℕ) : Type 0 where
  pub within : m ≤ i
  pub count : m ≡ length (kept v last i)
  pub front : w ≡ record_words (kept v last i) ++ drop (m * 8) v

-- the first are known to be kept
pub start : (v : List ℕ) (last from : ℕ) → from * 8 ≤ length v → kept v last from ≡ recs v 0 from → Moved v v last from from
start v last from h e =
    let a : record_words (recs v 0 from) ≡ take (from * 8) v = record_words-recs v 0 from (omega arith) in
    record {
      within = omega arith;
      count = rw (e, length-recs v 0 from);
      front = rw (e, a) (sym (take-append-drop (from * 8) v));
    }

one_behind : (v : List ℕ) (i : ℕ) → recs v 0 (i + 1) ≡ recs v 0 i ++ (record_at v (i * 8) ∷ [])
one_behind v i = let z : 0 + i * 8 ≡ i * 8 = omega arith in rw (add-one i) (rw z at (recs_snoc v 0 i))

-- the walk of `first_above`: one more that stays
pub stay_start : (v : List ℕ) (last : ℕ) → kept v last 0 ≡ recs v 0 0
unfolding recs keep
stay_start v last = refl

pub stay_on : (v : List ℕ) (last i : ℕ) → kept v last i ≡ recs v 0 i → get_or v (i * 8 + 1) 0 ≤ last → kept v last (i + 1) ≡ recs v 0 (i + 1)
unfolding keep
stay_on v last i e h =
    rw (one_behind v i, keep_append (up_to last) (recs v 0 i) (record_at v (i * 8) ∷ []), e, le-leb (get_or v (i * 8 + 1) 0) last h)

-- what `keep_front` tells
pub ended : (v w : List ℕ) (last m i : ℕ) → m ≡ length (kept v last i) → w ≡ record_words (kept v last i) ++ drop (m * 8) v → Moved v w last m i
ended v w last m i c e = record { within = omega (arith, c, kept_few v last i); count = c; front = e }

module _ (v w : List ℕ) (last m i : ℕ) (inv : Moved v w last m i) where
  front_length : length (record_words (kept v last i)) ≡ m * 8
  front_length = omega (arith, length-record_words (kept v last i), inv.count)

  pub same_size : i * 8 ≤ length v → length w ≡ length v
  same_size h =
      ap length inv.front
      ∙ omega (arith, length-append (record_words (kept v last i)) (drop (m * 8) v), front_length, length-drop (m * 8) v, inv.within)

  front_is : take (m * 8) w ≡ record_words (kept v last i)
  front_is = rw inv.front (take_at _ _ (m * 8) front_length)

  as_came : (k : ℕ) → m * 8 ≤ k → get_or w k 0 ≡ get_or v k 0
  as_came k h =
      let l = front_length in
      let z : k ≡ length (record_words (kept v last i)) + (k - m * 8) = omega arith in
      let y : m * 8 + (k - m * 8) ≡ k = omega arith in
      ap (λ (x : List ℕ). get_or x k 0) inv.front
      ∙ (ap (λ (j : ℕ). get_or (record_words (kept v last i) ++ drop (m * 8) v) j 0) z
      ∙ (get_or-append-add (record_words (kept v last i)) (drop (m * 8) v) (k - m * 8) 0
      ∙ (get_or-drop (m * 8) v (k - m * 8) 0 ∙ ap (λ (j : ℕ). get_or v j 0) y)))

  rest_as_came : (k : ℕ) → m * 8 ≤ k → drop k w ≡ drop k v
  rest_as_came k h =
      let l = front_length in
      let z : k ≡ length (record_words (kept v last i)) + (k - m * 8) = omega arith in
      let y : m * 8 + (k - m * 8) ≡ k = omega arith in
      ap (λ (x : List ℕ). drop k x) inv.front
      ∙ (ap (λ (j : ℕ). drop j (record_words (kept v last i) ++ drop (m * 8) v)) z
      ∙ (drop-append-add (record_words (kept v last i)) (drop (m * 8) v) (k - m * 8)
      ∙ (drop-drop (k - m * 8) (m * 8) v ∙ ap (λ (j : ℕ). drop j v) y)))

  -- zeros behind those in front
  pub cleared : (z : List ℕ) → z ≡ take (m * 8) w ++ (replicate (i * 8 - m * 8) 0 ++ drop (i * 8) w)
      → z ≡ record_words (kept v last i) ++ (replicate ((i - m) * 8) 0 ++ drop (i * 8) v)
  cleared z e =
      let y : i * 8 - m * 8 ≡ (i - m) * 8 = omega arith in
      e ∙ rw (front_is, rest_as_came (i * 8) (omega (arith, inv.within)), y)

  record_as_came : record_at w (i * 8) ≡ record_at v (i * 8)
  record_as_came =
      let h = inv.within in
      rw (
        as_came (i * 8) (omega arith),
        as_came (i * 8 + 1) (omega arith),
        as_came (i * 8 + 2) (omega arith),
        as_came (i * 8 + 3) (omega arith),
        as_came (i * 8 + 4) (omega arith),
        as_came (i * 8 + 5) (omega arith),
        as_came (i * 8 + 6) (omega arith),
        as_came (i * 8 + 7) (omega arith),
      )

  module _ (x : Record) (e : x ≡ record_at w (i * 8)) where
    is_came : x ≡ record_at v (i * 8)
    is_came = e ∙ record_as_came

    -- a record numbered above is passed over
    pub pass_over : last < x.seq → Moved v w last m (i + 1)
    unfolding keep
    pass_over h =
        let s : up_to last (record_at v (i * 8)) ≡ false = rw is_came at (lt-leb x.seq last h) in
        let k : kept v last (i + 1) ≡ kept v last i =
        ap (keep (up_to last)) (one_behind v i)
        ∙ (keep_append (up_to last) (recs v 0 i) (record_at v (i * 8) ∷ []) ∙ rw (s, append-nil)) in
        record { within = omega (arith, inv.within); count = rw k inv.count; front = rw k inv.front }

    -- another one moves behind those in front
    pub move_up : (z : List ℕ) → x.seq ≤ last → z ≡ take (m * 8) w ++ words x ++ drop (m * 8 + 8) w → Moved v z last (m + 1) (i + 1)
    unfolding keep
    move_up z h q =
        let s : up_to last (record_at v (i * 8)) ≡ true = rw is_came at (le-leb x.seq last h) in
        let k : kept v last (i + 1) ≡ kept v last i ++ (x ∷ []) =
        ap (keep (up_to last)) (one_behind v i)
        ∙ (keep_append (up_to last) (recs v 0 i) (record_at v (i * 8) ∷ []) ∙ rw (s, is_came)) in
        let u : m * 8 + 8 ≡ (m + 1) * 8 = omega arith in
        let b : drop (m * 8 + 8) w ≡ drop ((m + 1) * 8) v = rw u (rest_as_came ((m + 1) * 8) (omega arith)) in
        record {
          within = omega (arith, inv.within);
          count = omega (arith, inv.count, ap length k, length-append (kept v last i) (x ∷ []));
          front = q ∙ rw (front_is, b, k, record_words_snoc) (simp append_assoc);
        }

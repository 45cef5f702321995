-- Each word stands where the header says, as it is written and as it is read. Assumes nothing.
use Prim.Native.Nat.{ℕ, zero, suc, ◌+◌, ◌-◌, ◌≤◌, ◌<◌}
use mathlib.Core.Path.{◌≡◌, refl, sym, ap, ◌∙◌}
use mathlib.Core.Bool.{Bool, true, false, cond}
use mathlib.Core.List.{List, [], ◌∷◌, ◌++◌}
use native.Mathlib.Omega.{arith}
use native.Mathlib.Decide.{dec_lt}
use borrow.Author.Tests.{leb-true}
use denote.Floats.{passes}
use lib.Dec.{leb}
use lib.ListN.{length, take, drop, get_or, get_or-append, get_or-map}
use lib.Seq.{get_or-take, get_or-drop, get_or-append-add, ext_get_or}
use Rattle.basis.specs.Basis.{plant_count, bit}
use Rattle.basis.proofs.Laws.{both}
use Rattle.chance.specs.Probability.{good_word}
use Rattle.chance.proofs.ThereAndBack.{there_and_back}
use Rattle.nights.specs.Record.{Record, words, record_at}
use Rattle.nights.specs.Draws.{Decided}
use Rattle.network_form.specs.declared.Head.{Head}
use Rattle.network_layout.specs.Layout.{head_fits, head_in, head_words}
use Rattle.network_words.specs.Calls.{send_told}
use Rattle.network_batch.specs.Ticks.{letter_at}
use Rattle.plants.specs.declared.Plants.{Plants}
use Rattle.plants_layout.specs.Layout.{bits, all_bits, flag_of, flag_words_fit, plants_in, state_words, shaped}
use Rattle.plants_layout.proofs.Walking.{part_at, length-bits, flag_at as read-flag}
use Rattle.host.specs.Places.{HeadPlaces, RecordPlaces, MessagePlaces, ToldPlaces, PlantsPlaces}

-- ---- a head

pub head_places : (h : Head) → HeadPlaces (head_words h) h
head_places h =
    record {
      loss = refl;
      replay = refl;
      least = refl;
      mean = refl;
      flag = refl;
      pending = refl;
      seq = refl;
      sent = refl;
      delivered = refl;
      lost = refl;
      replayed = refl;
      delayed = refl;
    }

-- a flag's word is that of the flag that it is
pub flag_word : (w : ℕ) → w ≤ 1 → w ≡ bit (flag_of w)
flag_word zero h = refl
flag_word (suc zero) h = refl
flag_word (suc (suc w)) h = absurd (omega arith)

pub head_places_read : (w : List ℕ) → head_fits w ≡ true → HeadPlaces w (head_in w)
unfolding head_fits
head_places_read w f =
    let a = both (good_word (get_or w 0 0)) _ f in
    let b = both (good_word (get_or w 1 0)) _ a.1 in
    record {
      loss = sym (there_and_back (get_or w 0 0) (passes _ a.0)).0;
      replay = sym (there_and_back (get_or w 1 0) (passes _ b.0)).0;
      least = refl;
      mean = refl;
      flag = flag_word (get_or w 4 0) (leb-true _ _ b.1);
      pending = refl;
      seq = refl;
      sent = refl;
      delivered = refl;
      lost = refl;
      replayed = refl;
      delayed = refl;
    }

-- ---- a record, a message of a tick, and what a send tells

pub record_places : (r : Record) → RecordPlaces (words r) 0 r
record_places r = record { due = refl; seq = refl; sent_at = refl; sort = refl; origin = refl; to = refl; kind = refl; handle = refl }

pub record_places_read : (w : List ℕ) (b : ℕ) → RecordPlaces w b (record_at w b)
record_places_read w b =
    record { due = refl; seq = refl; sent_at = refl; sort = refl; origin = refl; to = refl; kind = refl; handle = refl }

pub message_places_read : (w : List ℕ) (i : ℕ) → MessagePlaces w i (letter_at w i)
message_places_read w i = record { now = refl; sort = refl; origin = refl; to = refl; kind = refl; handle = refl }

pub told_places : (d : Decided) → ToldPlaces (send_told d) d
told_places d = record { lost = refl; replayed = refl; draws = refl; extras = refl }

-- ---- a state of plants

flag_at : (fs : List Bool) (rest : List ℕ) (i : ℕ) → i < length fs → get_or (bits fs ++ rest) i 0 ≡ bit (get_or fs i false)
unfolding bits
flag_at fs rest i h = get_or-append (bits fs) rest 0 i (omega (arith, length-bits fs)) ∙ get_or-map bit fs i false

-- a word, three rows of 15 and more: where each row starts
module _ (x : ℕ) (a b c rest : List ℕ) (ea : length a ≡ 15) (eb : length b ≡ 15) (ec : length c ≡ 15) where
  abbrev row : List ℕ
  row = x ∷ (a ++ (b ++ (c ++ rest)))

  from_1 : (i : ℕ) → get_or row (1 + i) 0 ≡ get_or (a ++ (b ++ (c ++ rest))) i 0
  from_1 i = let z : 1 + i ≡ suc i = omega arith in rw z

  from_16 : (i : ℕ) → get_or row (16 + i) 0 ≡ get_or (b ++ (c ++ rest)) i 0
  from_16 i = let z : 16 + i ≡ suc (length a + i) = omega arith in rw z (get_or-append-add a (b ++ (c ++ rest)) i 0)

  from_31 : (i : ℕ) → get_or row (31 + i) 0 ≡ get_or (c ++ rest) i 0
  from_31 i = let z : 31 + i ≡ 16 + (length b + i) = omega arith in rw z (from_16 (length b + i) ∙ get_or-append-add b (c ++ rest) i 0)

  from_46 : (i : ℕ) → get_or row (46 + i) 0 ≡ get_or rest i 0
  from_46 i = let z : 46 + i ≡ 31 + (length c + i) = omega arith in rw z (from_31 (length c + i) ∙ get_or-append-add c rest i 0)

module _ (s : Plants) (u : length s.up ≡ 15) (p : length s.partitioned ≡ 15) (t : length s.stable_until ≡ 15) where
  abbrev counts : List ℕ
  counts = s.crashes ∷ s.restarts ∷ s.reboots ∷ []

  pub plants_places : PlantsPlaces (state_words s) s
  plants_places =
      let eu = length-bits s.up ∙ u in
      let ep = length-bits s.partitioned ∙ p in
      let at_1 = from_1 s.n (bits s.up) (bits s.partitioned) s.stable_until counts eu ep t in
      let at-16 = from_16 s.n (bits s.up) (bits s.partitioned) s.stable_until counts eu ep t in
      let at-31 = from_31 s.n (bits s.up) (bits s.partitioned) s.stable_until counts eu ep t in
      let at-46 = from_46 s.n (bits s.up) (bits s.partitioned) s.stable_until counts eu ep t in
      record {
        n = refl;
        up = λ i h. at_1 i ∙ flag_at s.up _ i (omega arith);
        partitioned = λ i h. at-16 i ∙ flag_at s.partitioned _ i (omega arith);
        stable = λ i h. at-31 i ∙ get_or-append s.stable_until counts 0 i (omega arith);
        crashes = at-46 0;
        restarts = at-46 1;
        reboots = at-46 2;
      }

-- words that are 0 or 1
small_at : (l : List ℕ) → all_bits l ≡ true → (i : ℕ) → get_or l i 0 ≤ 1
unfolding all_bits
small_at [] e i = omega arith
small_at (x ∷ l) e zero = leb-true x 1 (both (leb x 1) (all_bits l) e).0
small_at (x ∷ l) e (suc i) = small_at l (both (leb x 1) (all_bits l) e).1 i

module _ (w : List ℕ) (e : shaped w ≡ 0) where
  pub shape_parts : (plant_count (get_or w 0 0) ≡ true) × (flag_words_fit w ≡ true)
  unfolding shaped
  shape_parts = go (plant_count (get_or w 0 0)) (flag_words_fit w) e
    where
      go : (a b : Bool) → ◌≡◌ {A = ℕ} (cond a (cond b 0 42) 40) 0 → (a ≡ true) × (b ≡ true)
      go true true q = (refl, refl)
      go true false q = absurd (omega arith)
      go false b q = absurd (omega arith)

  flag_small : (i : ℕ) → i < 30 → get_or w (1 + i) 0 ≤ 1
  flag_small i h =
      let z : get_or (take 30 (drop 1 w)) i 0 ≡ get_or w (1 + i) 0 = get_or-take 30 (drop 1 w) i 0 h ∙ get_or-drop 1 w i 0 in
      omega (arith, small_at (take 30 (drop 1 w)) shape_parts.1 i)

  pub plants_places_read : PlantsPlaces w (plants_in w)
  plants_places_read =
      record {
        n = refl;
        up = λ i h. flag_word (get_or w (1 + i) 0) (flag_small i (omega arith)) ∙ ap bit (read-flag w 1 i h);
        partitioned =
            λ i h.
            let z : 1 + (15 + i) ≡ 16 + i = omega arith in
            flag_word (get_or w (16 + i) 0) (rw z at (flag_small (15 + i) (omega arith))) ∙ ap bit (read-flag w 16 i h);
        stable = λ i h. part_at w 31 i h;
        crashes = refl;
        restarts = refl;
        reboots = refl;
      }

-- ---- the table is whole: words of one place each are settled by it

both_at : (w v : List ℕ) (i j : ℕ) → i ≡ j → get_or w j 0 ≡ get_or v j 0 → get_or w i 0 ≡ get_or v i 0
both_at w v i j e q = rw e q

module _ (w v : List ℕ) (s : Plants) (p : PlantsPlaces w s) (q : PlantsPlaces v s) where
  settled_at : (i : ℕ) → i < 49 → get_or w i 0 ≡ get_or v i 0
  settled_at i h =
      elim (dec_lt i 1) [
        | yes a ↦ both_at w v i 0 (omega arith) (p.n ∙ sym q.n)
        | no a ↦ elim (dec_lt i 16) [
          | yes b ↦ both_at w v i (1 + (i - 1)) (omega arith) (p.up (i - 1) (omega arith) ∙ sym (q.up (i - 1) (omega arith)))
          | no b ↦ elim (dec_lt i 31) [
            | yes c ↦ both_at w v i (16 + (i - 16)) (omega arith) (p.partitioned (i - 16) (omega arith) ∙ sym (q.partitioned (i - 16) (omega arith)))
            | no c ↦ elim (dec_lt i 46) [
              | yes d ↦ both_at w v i (31 + (i - 31)) (omega arith) (p.stable (i - 31) (omega arith) ∙ sym (q.stable (i - 31) (omega arith)))
              | no d ↦ elim (dec_lt i 47) [
                | yes e ↦ both_at w v i 46 (omega arith) (p.crashes ∙ sym q.crashes)
                | no e ↦ elim (dec_lt i 48) [
                  | yes f ↦ both_at w v i 47 (omega arith) (p.restarts ∙ sym q.restarts)
                  | no f ↦ both_at w v i 48 (omega arith) (p.reboots ∙ sym q.reboots)
                ]
              ]
            ]
          ]
        ]
      ]

  pub plants_settled : length w ≡ 49 → length v ≡ 49 → w ≡ v
  plants_settled a b = ext_get_or 0 w v (a ∙ sym b) (λ i h. settled_at i (omega arith))

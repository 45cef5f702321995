-- The quick walk over the records, from the first to the last: if what it gathered is small enough at its end, so is each sort and each
-- kind, and no record met a mark that one before it had set. Assumes nothing.
use Prim.Native.Nat.{ℕ, ◌+◌, ◌-◌, ◌*◌, ◌%◌, ◌≤◌, ◌<◌}
use mathlib.Core.Path.{◌≡◌, refl, sym, ◌∙◌}
use mathlib.Core.List.{List}
use mathlib.Core.Bool.{Bool, true, false, ◌||◌}
use native.Mathlib.Nat.{sub-zero}
use native.Mathlib.Omega.{arith}
use borrow.Author.Tests.{ltb-true, ltb-false, eqb-true, eqb-false}
use lib.Bits.{bit_or, or_add_and, and_le_l, and_le_r}
use lib.Dec.{ltb, eqb}
use lib.ListN.{length, get_or, set, length-set}
use lib.Seq.{get_or-set_other}
use mir.Val.{bool_byte}
use Rattle.nights.specs.Record.{Record, record_at, recs, record_size}
use Rattle.nights.specs.Net.{last_kind, last_sort}
use Rattle.nights.proofs.Order.{All, all_map}
use Rattle.network_queue.proofs.Inserting.{peel}
use Rattle.network_records.specs.Form.{may_follow, in_order, distinct}
use Rattle.network_records.proofs.Formed.{absent}
use Rattle.network_records.proofs.Numbers.{mark_set}
use Rattle.network_records.proofs.Walking.{Walked, high_due, same_due, walk_on, walk_ends}

-- what was gathered with `|` is at least each part
or_left : (a b k : ℕ) → bit_or a b ≤ k → a ≤ k
or_left a b k h = omega (arith, h, or_add_and a b, and_le_r a b)

or_right : (a b k : ℕ) → bit_or a b ≤ k → b ≤ k
or_right a b k h = omega (arith, h, or_add_and a b, and_le_l a b)

-- a record that is good and whose due tick is not below d: behind the key (d, q), if a tick or a number has risen
risen : (last d q : ℕ) (x : Record) → (x.seq ≡ 0 → ⊥) → x.seq ≤ last → x.kind ≤ last_kind → x.sort ≤ last_sort → d ≤ x.due
    → (bit_or (x.due - d) (bool_byte (ltb q x.seq)) ≡ 0 → ⊥) → may_follow last d q x ≡ true
risen last d q x a b k s e f = go (ltb d x.due) refl (ltb q x.seq) refl
  where
    go : (u : Bool) → ltb d x.due ≡ u → (v : Bool) → ltb q x.seq ≡ v → may_follow last d q x ≡ true
    go true p v r = sym (high_due last d q x a b k s (ltb-true d x.due p))
    go false p true r = sym (same_due last d q x a b k s e (ltb-false d x.due p)) ∙ r
    go false p false r =
        absurd (f (rw r (omega (arith, e, ltb-false d x.due p, or_add_and (x.due - d) 0))))

-- no record of the list has its mark set
abbrev Unmarked : List Bool → List Record → Type 0
Unmarked seen l = All (λ (x : Record). get_or seen (x.seq % 256) false ≡ false) l

impossible : {A : Type 0} → true ≡ false → A
impossible e = let z : ◌≡◌ {A = ℕ} 0 1 = cc in absurd (omega arith)

-- a mark that is not set once another was is not that one, and was not set before
other_mark : (seen : List Bool) (m k : ℕ) → m < length seen → get_or (set seen m true) k false ≡ false → k ≡ m → ⊥
other_mark seen m k h e p = impossible (sym (mark_set seen m h) ∙ rw p at e)

unset_before : (seen : List Bool) (m k : ℕ) → m < length seen → get_or (set seen m true) k false ≡ false → get_or seen k false ≡ false
unset_before seen m k h e = go (eqb k m) refl
  where
    go : (b : Bool) → eqb k m ≡ b → get_or seen k false ≡ false
    go true p = absurd (other_mark seen m k h e (eqb-true k m p))
    go false p = sym (get_or-set_other seen m k true false (eqb-false k m p)) ∙ e

-- no mark was met, before a record or at it
unmet : (a b : Bool) → a || b ≡ false → (a ≡ false) × (b ≡ false)
unmet false b e = (refl, e)
unmet true b e = impossible e

-- the walk of `quickly_good`, after i records
pub record Gathered (w : List ℕ) (n last : ℕ) (seen : List Bool) (met : Bool) (sorts kinds d q i : ℕ) : Type 0 where
  pub size : length seen ≡ 256
  pub walked : sorts ≤ last_sort → kinds ≤ last_kind → Walked w n last d q i
  pub apart : met ≡ false → Unmarked seen (recs w (i * record_size) (n - i)) → distinct (recs w (i * record_size) (n - i)) ≡ true → distinct (recs w 0 n) ≡ true

module _ (w : List ℕ) (n last : ℕ) where
  pub gather_start : (seen : List Bool) → length seen ≡ 256 → Gathered w n last seen false 0 0 0 0 0
  gather_start seen h =
      record { size = h; walked = λ _ _. rw sub-zero; apart = λ _ _ e. rw sub-zero at e }

  module _ (seen : List Bool) (met : Bool) (sorts kinds d q i : ℕ) (inv : Gathered w n last seen met sorts kinds d q i) where
    module _ (h : i < n) where
      abbrev x : Record
      x = record_at w (i * record_size)

      abbrev m : ℕ
      m = x.seq % 256

      abbrev rest : List Record
      rest = recs w ((i + 1) * record_size) (n - (i + 1))

      within : m < length seen
      within = omega (arith, inv.size)

      -- the number of a record that met no mark is that of no later one
      stays_apart : met || get_or seen m false ≡ false → Unmarked (set seen m true) rest → distinct rest ≡ true → distinct (recs w 0 n) ≡ true
      unfolding distinct
      stays_apart e u a =
          let unlike =
          absent x.seq rest
          (all_map {Q = λ (y : Record). y.seq ≡ x.seq → ⊥} (λ (y : Record) (z : get_or (set seen m true) (y.seq % 256) false ≡ false) (p : y.seq ≡ x.seq). other_mark seen m (y.seq % 256) within z (rw p)) rest u) in
          inv.apart (unmet met (get_or seen m false) e).0
          (rw (peel w n 0 0 i h) (
            (unmet met (get_or seen m false) e).1,
            all_map (λ (y : Record) (z : get_or (set seen m true) (y.seq % 256) false ≡ false). unset_before seen m (y.seq % 256) within z) rest u,
          ))
          (rw (peel w n 0 0 i h, unlike, a))

      on : (x.seq ≡ 0 → ⊥) → x.seq ≤ last → d ≤ x.due → (f : ℕ) → f ≡ bool_byte (ltb q x.seq) → (bit_or (x.due - d) f ≡ 0 → ⊥)
          → Gathered w n last (set seen m true) (met || get_or seen m false) (bit_or sorts x.sort) (bit_or kinds x.kind) x.due x.seq (i + 1)
      on a b e f g k =
          record {
            size = length-set seen m true ∙ inv.size;
            walked =
                λ s t.
                walk_on w n last d q i (inv.walked (or_left sorts x.sort last_sort s) (or_left kinds x.kind last_kind t)) x refl h
                (risen last d q x a b (or_right kinds x.kind last_kind t) (or_right sorts x.sort last_sort s) e (rw g at k));
            apart = stays_apart;
          }

      pub gather_on : (r : Record) → r ≡ x
          → (r.seq ≡ 0 → ⊥) → r.seq ≤ last → d ≤ r.due → (f : ℕ) → f ≡ bool_byte (ltb q r.seq) → (bit_or (r.due - d) f ≡ 0 → ⊥)
          → Gathered w n last (set seen (r.seq % 256) true) (met || get_or seen (r.seq % 256) false) (bit_or sorts r.sort) (bit_or kinds r.kind) r.due r.seq (i + 1)
      gather_on r e = rw e on

    pub gather_ends : n ≤ i → sorts ≤ last_sort → kinds ≤ last_kind → met ≡ false
        → (in_order last 0 0 (recs w 0 n) ≡ true) × (distinct (recs w 0 n) ≡ true)
    unfolding recs distinct
    gather_ends h s k e =
        let z : n - i ≡ 0 = omega arith in
        (sym (walk_ends w n last d q i (inv.walked s k) h), inv.apart e (rw z tt) (rw z))

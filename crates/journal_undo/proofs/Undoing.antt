-- The undoing of record after record: where a record that fits starts, and the walk of `undo_all`. Assumes nothing.
use Prim.Native.Nat.{ℕ, suc, ◌+◌, ◌-◌, ◌*◌, ◌/◌, ◌≤◌}
use mathlib.Core.Path.{◌≡◌, refl, sym, ap, ◌∙◌}
use mathlib.Core.List.{List}
use mathlib.Core.Bool.{Bool, true, false, cond, ◌&&◌}
use native.Mathlib.Omega.{arith}
use borrow.Author.Tests.{leb-true, leb-false}
use lib.Dec.{leb, eqb}
use lib.ListN.{length, get_or}
use Rattle.std.specs.Prelude.{Option, Some, None, IfSome}
use Rattle.nights.specs.Record.{recs}
use Rattle.nights.specs.Net.{capacity, Plain, well_formed}
use Rattle.nights.specs.Journal.{Undone as Told, misfit, undone, unsend, untake, unchoose, undo_as, undo_one, checked, further, undo_all}
use Rattle.network_form.specs.Forms.{plain_in, formed_in}
use Rattle.journal_tests.specs.declared.Undone.{Undone}
use Rattle.journal_tests.specs.Undone.{undone_in}
use Rattle.journal_undo.proofs.Telling.{no_room}

-- ---- where a record starts

picks : (p : Bool) (n m : Plain) (b c : ℕ) → cond p (undone n b) misfit ≡ undone m c → c ≡ b
picks true n m b c h = cc
picks false n m b c h = let z : ◌≡◌ {A = ℕ} 0 1 = cc in absurd (omega arith)

sorted : (p q x y v : Bool) (j k l m : Plain) (b c : ℕ)
    → cond p (cond x (undone j b) misfit) (cond q (cond y (undone k b) misfit) (cond v (undone l b) misfit)) ≡ undone m c → c ≡ b
sorted true q x y v j k l m b c h = picks x j m b c h
sorted false true x y v j k l m b c h = picks y k m b c h
sorted false false x y v j k l m b c h = picks v l m b c h

as_start : (k z b : ℕ) (n : Plain) (w : List ℕ) (e : ℕ) (m : Plain) (c : ℕ) → undo_as k z b n w e ≡ undone m c → c ≡ b
unfolding undo_as
as_start k z b n w e m c h =
    let t = (z - 2) / 8 in
    sorted (eqb k 1) (eqb k 2) (eqb z 6 && (leb 8 e && leb 1 n.sent))
    (eqb z (8 * t + 2) && (leb (2 + z) e && (leb t n.delivered && leb (length n.pending + t) capacity)))
    (eqb k 3 && (eqb z 7 && (leb 9 e && leb (get_or w (b + 4) 0) 1)))
    (unsend (get_or w b 0) (get_or w (b + 1) 0) (get_or w (b + 2) 0) (get_or w (b + 3) 0) n) (untake (recs w b t) n) (unchoose w b n)
    m b c h

checked_start : (u : Told) (b : ℕ) → ((n : Plain) (c : ℕ) → u ≡ undone n c → c ≡ b) → (m : Plain) (c : ℕ) → checked u ≡ undone m c → c ≡ b
unfolding checked
checked_start misfit b f m c h = let z : ◌≡◌ {A = ℕ} 0 1 = cc in absurd (omega arith)
checked_start (undone n a) b f m c h = picks (well_formed n) n m a c h ∙ f n a refl

module _ (n : Plain) (w : List ℕ) (e : ℕ) (m : Plain) (c : ℕ) (h : checked (undo_one n w e) ≡ undone m c) where
  abbrev size : ℕ
  size = get_or w (e - 1) 0

  start_is : c ≡ e - size
  unfolding undo_one
  start_is = checked_start _ (e - size) (λ (k : Plain) (d : ℕ) (g : undo_one n w e ≡ undone k d). as_start _ _ _ n w e k d g) m c h

  room : 2 + size ≤ e
  room = go (leb (2 + size) e) refl
    where
      go : (b : Bool) → leb (2 + size) e ≡ b → 2 + size ≤ e
      go true p = leb-true (2 + size) e p
      go false p = let g = no_room n w e (leb-false (2 + size) e p) in let z : ◌≡◌ {A = ℕ} 0 1 = cc in absurd (omega arith)

  starts : (2 ≤ c) × (c ≤ e)
  starts = (omega (arith, start_is, room), omega (arith, start_is))

-- ---- the walk

all_stop : (k : ℕ) (n : Plain) (w : List ℕ) (e : ℕ) → checked (undo_one n w e) ≡ misfit → undo_all (suc k) n w e ≡ misfit
unfolding undo_all further
all_stop k n w e h = rw h

all_on : (k : ℕ) (n : Plain) (w : List ℕ) (e : ℕ) (m : Plain) (c : ℕ) → checked (undo_one n w e) ≡ undone m c → undo_all (suc k) n w e ≡ undo_all k m w c
unfolding undo_all further
all_on k n w e m c h = rw h

-- after some records the others are still to be undone
pub record Undoing (k : ℕ) (j : List ℕ) (e : ℕ) (came : Undone) (v : List ℕ) (me : Undone) (w : List ℕ) (left : ℕ) : Type 0 where
  pub formed : formed_in me.head w ≡ true
  pub low : 2 ≤ me.start
  pub high : me.start ≤ length j
  pub rest : undo_all k (plain_in came.head v) j e ≡ undo_all left (plain_in me.head w) j me.start

module _ (k : ℕ) (j : List ℕ) (e : ℕ) (came : Undone) (v : List ℕ) (me : Undone) (w : List ℕ) (left : ℕ)
    (inv : Undoing k j e came v me w left) where
  module _ (more : ℕ) (one : left ≡ more + 1) (u : Option Undone) (z : List ℕ)
      (t : undone_in u z ≡ checked (undo_one (plain_in me.head w) j me.start)) where
    one_less : left ≡ suc more
    one_less = omega arith

    pub stops : u ≡ None → undone_in u z ≡ undo_all k (plain_in came.head v) j e
    unfolding undone_in
    stops n =
        let d : undone_in u z ≡ misfit = rw n in
        d
        ∙ sym
        (inv.rest
        ∙ (ap (λ (i : ℕ). undo_all i (plain_in me.head w) j me.start) one_less
        ∙ all_stop more (plain_in me.head w) j me.start (sym t ∙ d)))

    pub goes_on : (x : Undone) → u ≡ Some x → formed_in x.head z ≡ true → Undoing k j e came v x z more
    unfolding undone_in
    goes_on x n f =
        let d : checked (undo_one (plain_in me.head w) j me.start) ≡ undone (plain_in x.head z) x.start = sym t ∙ rw n in
        let s = starts (plain_in me.head w) j me.start (plain_in x.head z) x.start d in
        record {
          formed = f;
          low = s.0;
          high = omega (arith, s.1, inv.high);
          rest =
              inv.rest
              ∙ (ap (λ (i : ℕ). undo_all i (plain_in me.head w) j me.start) one_less
              ∙ all_on more (plain_in me.head w) j me.start (plain_in x.head z) x.start d);
        }

    -- the same from what the contract says of an answer
    pub goes_on_with : (x : Undone) → u ≡ Some x → IfSome u (λ y. formed_in y.head z ≡ true) → Undoing k j e came v x z more
    goes_on_with x n f = goes_on x n (rw n at f)

  pub ends : left ≤ 0 → undone_in (Some me) w ≡ undo_all k (plain_in came.head v) j e
  unfolding undone_in undo_all
  ends h = let z : left ≡ 0 = omega arith in sym (inv.rest ∙ rw z)

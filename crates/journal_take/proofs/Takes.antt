-- A journaled take: it is made to words of its own first, which have room for whatever is due, and its record ends those words. Assumes
-- nothing.
use Prim.Native.Nat.{ℕ, ◌+◌, ◌*◌, ◌≤◌, ◌<◌}
use mathlib.Core.Path.{◌≡◌, refl, sym, ap, ◌∙◌}
use mathlib.Core.List.{List, [], ◌∷◌, ◌++◌, append_assoc}
use mathlib.Core.Bool.{Bool, true, false}
use native.Mathlib.Omega.{arith}
use native.Mathlib.Numerals.{add-one}
use lib.ListN.{length, take, drop, set, length-append, length-drop}
use lib.Seq.{take_at, length-take-le, sets-eq}
use Rattle.nights.specs.Record.{Record, record_words}
use Rattle.nights.specs.Net.{collect, keep, is_due, effect}
use Rattle.basis.specs.Basis.{laid}
use Rattle.nights.specs.Tests.{Answer, done, refused, if_done}
use Rattle.nights.specs.Journal.{undo_words}
use Rattle.nights.proofs.Order.{length_split}
use Rattle.nights.proofs.Undo.{length-record_words}
use Rattle.network_queue.proofs.Inserting.{length-recs}
use Rattle.network.specs.declared.Network.{Network}
use Rattle.network_take.specs.Takes.{Count, counting}
use Rattle.network.specs.Forms.{plain_of, is_formed}
use Rattle.network.specs.Calls.{call_answer, call_network}
use Rattle.network_form.specs.Calls.{written}
use Rattle.network.proofs.Structs.{small, call_ill, follows, take_short, take_well, was_formed}

-- ---- what a count tells

pub told_done : (a : Answer) (n t : ℕ) → record { answer = done; records = t } ≡ counting a n → (a ≡ done) × (t ≡ n)
unfolding counting
told_done done n t e = (refl, ap (λ (x : Count). x.records) e)
told_done (refused k) n t e =
    let p : done ≡ refused k = ap (λ (x : Count). x.answer) e in let z : ◌≡◌ {A = ℕ} 0 1 = cc in absurd (omega arith)

pub told_refused : (a : Answer) (n k : ℕ) → record { answer = refused k; records = 0 } ≡ counting a n → a ≡ refused k
unfolding counting
told_refused done n k e =
    let p : refused k ≡ done = ap (λ (x : Count). x.answer) e in let z : ◌≡◌ {A = ℕ} 0 1 = cc in absurd (omega arith)
told_refused (refused j) n k e = sym (ap (λ (x : Count). x.answer) e)

-- ---- a record written at the end of a front

closed : (a : List ℕ) (n x y : ℕ) → n + 2 ≤ length a → take (n + 2) (set (set a n x) (n + 1) y) ≡ take n a ++ (x ∷ y ∷ [])
closed a n x y h =
    let q : length (take n a ++ (x ∷ y ∷ [])) ≡ n + 2 = omega (arith, length-append (take n a) (x ∷ y ∷ []), length-take-le n a (omega arith)) in
    rw (add-one n) (ap (λ (l : List ℕ). take (n + 2) l) (sets-eq (x ∷ y ∷ []) a n h) ∙ take_at (take n a ++ (x ∷ y ∷ [])) (drop (n + 2) a) (n + 2) q)

-- and words written at the front of an output
pub over_front : (out u : List ℕ) → laid out 0 u ≡ u ++ drop (length u) out
over_front out u = let z : 0 + length u ≡ length u = omega arith in rw z

-- ---- the take

module _ (s : Network) (now room : ℕ) where
  abbrev due_now : List Record
  due_now = keep (is_due now) (plain_of s).pending

  few_due : is_formed s ≡ true → 8 * length due_now ≤ 1024
  few_due f =
      omega (arith, small s f, length_split (is_due now) (plain_of s).pending, length-recs s.words 0 s.head.pending)

  -- made to 1,024 words it is refused only if the network is ill formed, and then with any room
  pub own_refused : (k : ℕ) → call_answer (collect now 1024) s ≡ refused k → call_answer (collect now room) s ≡ refused k
  own_refused k e = go (is_formed s) refl
    where
      go : (b : Bool) → is_formed s ≡ b → call_answer (collect now room) s ≡ refused k
      go true f =
          let d : call_answer (collect now 1024) s ≡ done =
          take_well s f now 1024 (length due_now) refl (omega (arith, few_due f)) in
          let z : ◌≡◌ {A = ℕ} 0 1 = cc in
          absurd (omega arith)
      go false f = call_ill s (collect now room) f ∙ (sym (call_ill s (collect now 1024) f) ∙ e)

  module _ (e : call_answer (collect now 1024) s ≡ done) (t : ℕ) (n : t ≡ length due_now) where
    pub own_small : t * 8 ≤ 1024
    own_small = omega (arith, few_due (was_formed (collect now 1024) s e))

    -- the lent output may be short
    pub lent_short : room < t * 8 → call_answer (collect now room) s ≡ refused 30
    lent_short h = take_short s (was_formed (collect now 1024) s e) now room t n h

    pub lent_well : t * 8 ≤ room → call_answer (collect now room) s ≡ done
    lent_well h = take_well s (was_formed (collect now 1024) s e) now room t n h

    -- the network does not turn on the room
    pub same_network : call_answer (collect now room) s ≡ done → call_network (collect now 1024) s ≡ call_network (collect now room) s
    unfolding effect
    same_network d = sym (follows s (collect now 1024) e) ∙ follows s (collect now room) d

    pub record_size : t * 8 + 2 ≡ length (undo_words (collect now room) (plain_of s))
    unfolding undo_words
    record_size =
        omega (arith, length-append (record_words due_now) (2 ∷ (8 * length due_now + 2) ∷ []), length-record_words due_now)

    -- its own words then: those taken, and more
    module _ (last own : List ℕ) (x y : ℕ) (long : length own ≡ 1024) (w : last ≡ written (call_answer (collect now 1024) s) (record_words due_now) own) where
      size : length (record_words due_now) ≡ t * 8
      size = omega (arith, length-record_words due_now)

      last_is : last ≡ record_words due_now ++ drop (length (record_words due_now)) own
      unfolding if_done
      last_is = rw e at w

      pub length_last : length last ≡ 1024
      length_last =
          omega (
            arith,
            ap length last_is,
            length-append (record_words due_now) (drop (length (record_words due_now)) own),
            length-drop (length (record_words due_now)) own,
            own_small,
            size,
          )

      pub taken_front : take (t * 8) (last ++ (x ∷ y ∷ [])) ≡ record_words due_now
      taken_front =
          ap (λ (l : List ℕ). take (t * 8) (l ++ (x ∷ y ∷ []))) last_is
          ∙ (ap (λ (l : List ℕ). take (t * 8) l) (append_assoc (record_words due_now) (drop (length (record_words due_now)) own) (x ∷ y ∷ []))
          ∙ take_at (record_words due_now) _ (t * 8) size)

      pub the_record : take (t * 8 + 2) (set (set (last ++ (x ∷ y ∷ [])) (t * 8) 2) (t * 8 + 1) (t * 8 + 2))
          ≡ undo_words (collect now room) (plain_of s)
      unfolding undo_words
      the_record =
          let z : t * 8 + 2 ≡ 8 * length due_now + 2 = omega arith in
          closed (last ++ (x ∷ y ∷ [])) (t * 8) 2 (t * 8 + 2) (omega (arith, length-append last (x ∷ y ∷ []), length_last, own_small))
          ∙ rw (taken_front, z)

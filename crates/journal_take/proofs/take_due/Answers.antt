-- `journal_take::take_due` meets its contract: the plain call to words of its own, the tests of the lent output and of the journal, and then
-- both written. Assumes nothing.
use Prim.Native.Nat.{ℕ, ◌+◌, ◌*◌, ◌≤◌}
use mathlib.Core.Path.{◌≡◌, refl, sym, ap, ◌∙◌}
use mathlib.Core.List.{List, [], ◌∷◌, ◌++◌}
use native.Mathlib.Omega.{arith}
use lib.ListN.{length, take, set, length-append, length-take, length-set}
use lib.Seq.{length-take-le}
use Rattle.nights.specs.Record.{Record, record_words}
use Rattle.nights.specs.Net.{Change, collect, keep, is_due}
use Rattle.basis.specs.Basis.{laid}
use Rattle.nights.specs.Tests.{Answer, done, if_done}
use Rattle.nights.specs.Journal.{logged, undo_words}
use Rattle.network.specs.declared.Network.{Network}
use Rattle.network_options.specs.Answers.{settled_of}
use Rattle.std.specs.Prelude.{Result, Ok}
use Rattle.network_options.specs.declared.Refusal.{Refusal}
use Rattle.network_take.specs.Takes.{counted_of, counting}
use Rattle.network.specs.Forms.{plain_of}
use Rattle.network.specs.Calls.{call_answer}
use Rattle.network_form.specs.Calls.{written}
use Rattle.network.proofs.Structs.{stays}
use Rattle.journal_ledger.proofs.Words.{roomy}
use Rattle.journal_calls.proofs.Journaled.{refused_first, refused_then, accepted}
use Rattle.journal_take.proofs.Takes.{over_front, told_done, told_refused, own_refused, own_small, lent_short, lent_well, same_network, record_size, length_last, taken_front, the_record}
use Rattle.journal_take.proofs.take_due.Goals as goal

-- what is due, of a network at a tick
abbrev due : Network → ℕ → List Record
due s now = keep (is_due now) (plain_of s).pending

-- what the plain call told
told : (s : Network) (now t : ℕ) {r : Result ℕ Refusal} → r ≡ Ok t
    → counted_of r ≡ counting (call_answer (collect now 1024) s) (length (due s now))
    → (call_answer (collect now 1024) s ≡ done) × (t ≡ length (due s now))
told s now t h e = told_done (call_answer (collect now 1024) s) (length (due s now)) t (sym (ap counted_of h) ∙ e)

-- the words of its own, once so many were taken
module _ (s : Network) (now t : ℕ) (k : (call_answer (collect now 1024) s ≡ done) × (t ≡ length (due s now))) (last own : List ℕ)
    (size : length own ≡ 1024) (w : last ≡ written (call_answer (collect now 1024) s) (record_words (due s now)) own) where
  small : t * 8 ≤ 1024
  small = own_small s now 0 k.0 t k.1

  long : length (last ++ (0 ∷ 0 ∷ [])) ≡ 1026
  long = omega (arith, length-append last (0 ∷ 0 ∷ []), length_last s now 0 k.0 t k.1 last own 0 0 size w)

  taken : take (t * 8) (last ++ (0 ∷ 0 ∷ [])) ≡ record_words (due s now)
  taken = taken_front s now 0 k.0 t k.1 last own 0 0 size w

  abbrev ended : List ℕ
  ended = set (set (last ++ (0 ∷ 0 ∷ [])) (t * 8) 2) (t * 8 + 1) (t * 8 + 2)

  long_enough : (x y : ℕ) → t * 8 + 2 ≤ length (set (set (last ++ (0 ∷ 0 ∷ [])) (t * 8) x) (t * 8 + 1) y)
  long_enough x y = simp length-set (omega (arith, small, long))

  wrote : (room : ℕ) → take (t * 8 + 2) ended ≡ undo_words (collect now room) (plain_of s)
  wrote room = the_record s now room k.0 t k.1 last own 0 0 size w

pub returns-in_default : goal.returns-in_default
unfolding counting if_done
returns-in_default c =
    let a = c.args in
    let s = a.network in
    let o = a.out.now in
    let n = c.take_due-taken.ensures in
    let r = ap counted_of c.in_default.is in
    let e = told_refused (call_answer (collect a.now 1024) s) (length (due s a.now)) _ (sym r ∙ n.answer) in
    let m = refused_first (collect a.now (length o)) s a.journal.now _ (own_refused s a.now (length o) _ e) in
    record {
      network = n.network ∙ (sym (stays s (collect a.now 1024) _ e) ∙ m.network);
      answer = r ∙ ap (λ (x : Answer). counting x (length (due s a.now))) m.answer;
      out = ap (λ (x : Answer). written x (record_words (due s a.now)) o) m.answer;
      journal = m.words;
    }

pub overflow_mul-size : goal.overflow_mul-size
overflow_mul-size c =
    let a = c.args in
    let k = told a.network a.now _ c.in-Ok.is c.take_due-taken.ensures.answer in
    omega (arith, own_small a.network a.now 0 k.0 _ k.1)

pub returns-then-out-size : goal.returns-then-out-size
unfolding counting if_done
returns-then-out-size c =
    let a = c.args in
    let s = a.network in
    let o = a.out.now in
    let k = told s a.now _ c.in-Ok.is c.take_due-taken.ensures.answer in
    let e = lent_short s a.now (length o) k.0 _ k.1 c.if-out-size.true in
    let m = refused_first (collect a.now (length o)) s a.journal.now 30 e in
    record {
      network = m.network;
      answer = ap (λ (x : Answer). counting x (length (due s a.now))) m.answer;
      out = ap (λ (x : Answer). written x (record_words (due s a.now)) o) m.answer;
      journal = m.words;
    }

pub slice_bounds-record-end-2 : goal.slice_bounds-record-end-2
slice_bounds-record-end-2 c =
    let a = c.args in
    let n = c.take_due-taken in
    let t = c.in-Ok.count in
    let k = told a.network a.now t c.in-Ok.is n.ensures.answer in
    omega (arith, small a.network a.now t k n.new.out _ refl n.ensures.out, long a.network a.now t k n.new.out _ refl n.ensures.out)

pub slice_bounds-write_at-end : goal.slice_bounds-write_at-end
slice_bounds-write_at-end c =
    let a = c.args in
    let n = c.take_due-taken in
    let t = c.in-Ok.count in
    let k = told a.network a.now t c.in-Ok.is n.ensures.answer in
    sym (length-take-le _ _
    (omega (arith, small a.network a.now t k n.new.out _ refl n.ensures.out, long a.network a.now t k n.new.out _ refl n.ensures.out)))

pub bounds-record-size : goal.bounds-record-size
bounds-record-size c =
    let a = c.args in
    let k = told a.network a.now _ c.in-Ok.is c.take_due-taken.ensures.answer in
    omega (arith, own_small a.network a.now 0 k.0 _ k.1)

pub bounds-record-size-2 : goal.bounds-record-size-2
bounds-record-size-2 c =
    let a = c.args in
    let k = told a.network a.now _ c.in-Ok.is c.take_due-taken.ensures.answer in
    omega (arith, own_small a.network a.now 0 k.0 _ k.1)

pub slice_bounds-record-end-3 : goal.slice_bounds-record-end-3
slice_bounds-record-end-3 c =
    let a = c.args in
    let n = c.take_due-taken in
    let t = c.in-Ok.count in
    let k = told a.network a.now t c.in-Ok.is n.ensures.answer in
    long_enough a.network a.now t k n.new.out _ refl n.ensures.out c.number.result _

pub slice_bounds-append-end : goal.slice_bounds-append-end
slice_bounds-append-end c =
    let a = c.args in
    let n = c.take_due-taken in
    let t = c.in-Ok.count in
    let k = told a.network a.now t c.in-Ok.is n.ensures.answer in
    sym (length-take-le _ _ (long_enough a.network a.now t k n.new.out _ refl n.ensures.out c.number.result _))

pub append-requires : goal.append-requires
append-requires c =
    let r = roomy c.args.journal.now (c.in-Ok.count * 8 + 2) (sym c.room_for.ensures ∙ ap settled_of c.in_default-room_for.is) in
    (r.0, simp length-take (omega (arith, r.1)))

pub returns : goal.returns
unfolding if_done
returns c =
    let a = c.args in
    let s = a.network in
    let o = a.out.now in
    let n = c.take_due-taken in
    let t = c.in-Ok.count in
    let k = told s a.now t c.in-Ok.is n.ensures.answer in
    let room = sym c.room_for.ensures ∙ ap settled_of c.in_default-room_for.is in
    let well = lent_well s a.now (length o) k.0 t k.1 c.if-out-size.false in
    let z = record_size s a.now (length o) k.0 t k.1 in
    let call : Change = collect a.now (length o) in
    let m = accepted call s a.journal.now well (undo_words call (plain_of s)) refl (rw (← z) room) in
    let d = sym well ∙ m.answer in
    record {
      network = n.ensures.network ∙ (same_network s a.now (length o) k.0 t k.1 well ∙ m.network);
      answer = n.ensures.answer ∙ ap (λ (x : Answer). counting x (length (due s a.now))) (k.0 ∙ d);
      out =
          c.write_at.ensures
          ∙ (ap (λ (x : List ℕ). laid o 0 x) (taken s a.now t k n.new.out _ refl n.ensures.out)
          ∙ (over_front o (record_words (due s a.now)) ∙ ap (λ (x : Answer). written x (record_words (due s a.now)) o) d));
      journal =
          (rw c.number.ensures at c.append.ensures)
          ∙ (ap (λ (x : List ℕ). logged a.journal.now x) (wrote s a.now t k n.new.out _ refl n.ensures.out (length o)) ∙ m.words);
    }

pub returns-in-Err : goal.returns-in-Err
unfolding counting if_done
returns-in-Err c =
    let a = c.args in
    let s = a.network in
    let o = a.out.now in
    let t = c.in-Ok.count in
    let k = told s a.now t c.in-Ok.is c.take_due-taken.ensures.answer in
    let e = lent_well s a.now (length o) k.0 t k.1 c.if-out-size.false in
    let j = sym c.room_for.ensures ∙ ap settled_of c.in-Err.is in
    let z = record_size s a.now (length o) k.0 t k.1 in
    let m = refused_then (collect a.now (length o)) s a.journal.now e _ _ z j in
    record {
      network = m.network;
      answer = ap (λ (x : Answer). counting x (length (due s a.now))) m.answer;
      out = ap (λ (x : Answer). written x (record_words (due s a.now)) o) m.answer;
      journal = m.words;
    }

-- What a take's record tells, test by test: a test that fails makes it a misfit, and where none fails the words left are those of all
-- records in their places, which are still to be tested. Assumes nothing.
use Prim.Native.Nat.{ℕ, ◌+◌, ◌-◌, ◌*◌, ◌/◌, ◌≤◌, ◌<◌}
use mathlib.Core.Path.{◌≡◌, sym, ap, ◌∙◌}
use mathlib.Core.List.{List}
use mathlib.Core.Bool.{Bool, true, ◌&&◌}
use native.Mathlib.Omega.{arith}
use borrow.Author.Tests.{le-leb, lt-leb, eq-eqb, ne_eqb}
use lib.Dec.{leb, eqb}
use lib.ListN.{length}
use Rattle.std.specs.Bool.{then_some}
use Rattle.nights.specs.Record.{Record, recs}
use Rattle.nights.specs.Net.{capacity, Plain, insert_all}
use Rattle.nights.specs.Journal.{misfit, undone, untake, undo_as, checked}
use Rattle.nights.proofs.Failing.{first, second}
use Rattle.nights.proofs.Order.{length-insert_all}
use Rattle.network_queue.specs.Packed.{packed, array_size}
use Rattle.network_queue.specs.Places.{inserted_all}
use Rattle.network_queue.proofs.Inserting.{length-recs}
use Rattle.network_queue.proofs.Packing.{packed-insert_all}
use Rattle.network_records.specs.Form.{records_rise}
use Rattle.network_form.specs.declared.Head.{Head}
use Rattle.network_form.specs.Forms.{plain_in, formed_in}
use Rattle.network_form.proofs.Maps.{plain_formed, words_are}
use Rattle.journal_tests.proofs.Laws.{take_breaks}
use Rattle.journal_tests.proofs.Telling.{Undoes, records_are, tested}

pub held_count : (v : List ℕ) (n : ℕ) → length (recs v 0 n) ≡ n
held_count v n = length-recs v 0 n

-- ---- the tests of the record

module _ (z b : ℕ) (n : Plain) (w : List ℕ) (e : ℕ) where
  module _ (t : ℕ) (i : t ≡ (z - 2) / 8) where
    pub take_size : (z ≡ 8 * t + 2 → ⊥) → checked (undo_as 2 z b n w e) ≡ misfit
    unfolding undo_as checked
    take_size h = rw (← i, ne_eqb z (8 * t + 2) h)

    pub few_delivered : n.delivered < t → checked (undo_as 2 z b n w e) ≡ misfit
    unfolding undo_as checked
    few_delivered h =
        rw (
          ← i,
          second (eqb z (8 * t + 2)) (leb (2 + z) e && (leb t n.delivered && leb (length n.pending + t) capacity))
              (second (leb (2 + z) e) (leb t n.delivered && leb (length n.pending + t) capacity)
              (first (leb t n.delivered) (leb (length n.pending + t) capacity) (lt-leb t n.delivered h))),
        )

    pub too_many : capacity < length n.pending + t → checked (undo_as 2 z b n w e) ≡ misfit
    unfolding undo_as checked
    too_many h =
        rw (
          ← i,
          second (eqb z (8 * t + 2)) (leb (2 + z) e && (leb t n.delivered && leb (length n.pending + t) capacity))
              (second (leb (2 + z) e) (leb t n.delivered && leb (length n.pending + t) capacity)
              (second (leb t n.delivered) (leb (length n.pending + t) capacity) (lt-leb (length n.pending + t) capacity h))),
        )

    pub take_fits : z ≡ 8 * t + 2 → 2 + z ≤ e → t ≤ n.delivered → length n.pending + t ≤ capacity
        → checked (undone (untake (recs w b t) n) b) ≡ checked (undo_as 2 z b n w e)
    unfolding undo_as
    take_fits h k d r =
        rw (
          ← i,
          eq-eqb z (8 * t + 2) h,
          le-leb (2 + z) e k,
          le-leb t n.delivered d,
          le-leb (length n.pending + t) capacity r,
        )

-- ---- what it leaves

module _ (h : Head) (v : List ℕ) (f : formed_in h v ≡ true) (long : length v ≡ array_size) where
  abbrev held : List Record
  held = recs v 0 h.pending

  held-length : length held ≡ h.pending
  held-length = length-recs v 0 h.pending

  module _ (rs : List Record) (t : ℕ) (w : List ℕ) (c : length rs ≡ t) (few : t ≤ h.delivered) (room : h.pending + t ≤ capacity)
      (e : w ≡ inserted_all v h.pending rs) where
    back : w ≡ packed (insert_all rs held)
    back =
        e
        ∙ (ap (λ (x : List ℕ). inserted_all x h.pending rs) (sym (words_are h v f long))
        ∙ (ap (λ (k : ℕ). inserted_all (packed held) k rs) (sym held-length)
        ∙ packed-insert_all rs held (omega (arith, held-length, c, room))))

    count : h.pending + t ≡ length (insert_all rs held)
    count = omega (arith, length-insert_all rs held, held-length, c)

    fewer : length (insert_all rs held) ≤ capacity
    fewer = omega (arith, room, count)

    abbrev untaken : Head
    untaken =
        record {
          options = h.options;
          pending = h.pending + t;
          seq = h.seq;
          sent = h.sent;
          delivered = h.delivered - t;
          lost = h.lost;
          replayed = h.replayed;
          delayed = h.delayed;
        }

    records_back : recs w 0 (h.pending + t) ≡ insert_all rs held
    records_back = records_are untaken w (insert_all rs held) back count fewer

    -- the records tell it all
    pub take_leaves : (b : ℕ) (p : Bool) → p ≡ records_rise w (h.pending + t) h.seq
        → Undoes (then_some p (record { head = untaken; start = b })) w (checked (undone (untake rs (plain_in h v)) b))
    take_leaves b p k =
        tested untaken w (insert_all rs held) back count fewer (untake rs (plain_in h v)) b p
        (rw (records_back, c))
        (take_breaks (plain_in h v) (plain_formed h v f) rs (omega (arith, c, few)) (omega (arith, c, held-length, room))
        ∙ sym (k ∙ rw records_back))

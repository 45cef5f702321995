-- What a send's record tells, test by test: a test that fails makes it a misfit, and where none fails the words left are those of the
-- records that stay, and the counters are still to be tested. Assumes nothing.
use Prim.Native.Nat.{ℕ, ◌+◌, ◌-◌, ◌*◌, ◌≤◌}
use mathlib.Core.Path.{◌≡◌, sym, ◌∙◌}
use mathlib.Core.List.{List, ◌++◌}
use mathlib.Core.Bool.{Bool, true, ◌&&◌}
use native.Mathlib.Omega.{arith}
use borrow.Author.Tests.{le-leb, lt-leb, eq-eqb, ne_eqb}
use lib.Dec.{leb, eqb}
use lib.ListN.{length, drop, get_or, replicate}
use Rattle.std.specs.Bool.{then_some}
use Rattle.nights.specs.Record.{Record, record_words, recs, record_size}
use Rattle.nights.specs.Net.{capacity, Plain, keep}
use Rattle.nights.specs.Journal.{misfit, undone, unsend, undo_as, checked}
use Rattle.nights.proofs.Failing.{second}
use Rattle.network_queue.specs.Packed.{packed, array_size}
use Rattle.network_drop.specs.Numbered.{up_to}
use Rattle.network_drop.proofs.Keeping.{kept_few}
use Rattle.network_drop.proofs.Dropping.{dropped}
use Rattle.network_form.specs.declared.Head.{Head}
use Rattle.network_form.specs.Forms.{plain_in, formed_in, counts_good}
use Rattle.network_form.proofs.Maps.{plain_formed, small, words_are}
use Rattle.journal_tests.proofs.Laws.{send_breaks}
use Rattle.journal_tests.proofs.Telling.{Undoes, records_are, tested}

-- ---- the tests of the record

module _ (z b : ℕ) (n : Plain) (w : List ℕ) (e : ℕ) where
  pub send_size : (z ≡ 6 → ⊥) → checked (undo_as 1 z b n w e) ≡ misfit
  unfolding undo_as checked
  send_size h = rw (ne_eqb z 6 h)

  pub none_sent : n.sent ≡ 0 → checked (undo_as 1 z b n w e) ≡ misfit
  unfolding undo_as checked
  none_sent h =
      rw (second (eqb z 6) (leb 8 e && leb 1 n.sent) (second (leb 8 e) (leb 1 n.sent) (lt-leb 1 n.sent (omega arith))))

  pub send_fits : z ≡ 6 → 8 ≤ e → (n.sent ≡ 0 → ⊥) → (q l r d : ℕ)
      → q ≡ get_or w b 0 → l ≡ get_or w (b + 1) 0 → r ≡ get_or w (b + 2) 0 → d ≡ get_or w (b + 3) 0
      → checked (undone (unsend q l r d n) b) ≡ checked (undo_as 1 z b n w e)
  unfolding undo_as
  send_fits h k s q l r d f g i j = rw (f, g, i, j, eq-eqb z 6 h, le-leb 8 e k, le-leb 1 n.sent (omega arith))

-- ---- what it leaves

module _ (h : Head) (v : List ℕ) (f : formed_in h v ≡ true) (long : length v ≡ array_size) where
  abbrev held : List Record
  held = recs v 0 h.pending

  module _ (q l r d m : ℕ) (w : List ℕ) (c : m ≡ length (keep (up_to q) held))
      (e : w ≡ record_words (keep (up_to q) held) ++ (replicate ((h.pending - m) * record_size) 0 ++ drop (h.pending * record_size) v)) where
    left : w ≡ packed (keep (up_to q) held)
    left = dropped v h.pending (sym (words_are h v f long)) (small h v f) q m w c e

    few : length (keep (up_to q) held) ≤ capacity
    few = omega (arith, kept_few v q h.pending, small h v f)

    abbrev unsent : Head
    unsent =
        record {
          options = h.options;
          pending = m;
          seq = q;
          sent = h.sent - 1;
          delivered = h.delivered;
          lost = l;
          replayed = r;
          delayed = d;
        }

    -- the counters tell it all
    pub send_leaves : (b : ℕ) (t : Bool) → t ≡ counts_good unsent
        → Undoes (then_some t (record { head = unsent; start = b })) w (checked (undone (unsend q l r d (plain_in h v)) b))
    send_leaves b t k =
        tested unsent w (keep (up_to q) held) left c few (unsend q l r d (plain_in h v)) b t
        (rw (records_are unsent w (keep (up_to q) held) left c few))
        (send_breaks (plain_in h v) (plain_formed h v f) q l r d ∙ sym (k ∙ rw c))

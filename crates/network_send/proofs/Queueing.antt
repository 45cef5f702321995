-- What an accepted send does to the head and the words: what the plain form's send does. Assumes nothing.
use mathlib.Core.Path.{◌≡◌, sym, ap, ◌∙◌}
use mathlib.Core.List.{List}
use mathlib.Core.Bool.{true}
use Prim.Native.Nat.{ℕ, ◌+◌, ◌≤◌}
use native.Mathlib.Omega.{arith}
use lib.ListN.{length}
use Rattle.nights.specs.Record.{Record, recs}
use Rattle.nights.specs.Net.{every, good_record, rising, good_options, well_formed, capacity, Fate, dues, lost_by, replayed_by, delayed_by, Letter, copies, insert_all, send_one}
use Rattle.nights.proofs.Order.{length-insert_all}
use Rattle.nights.proofs.Good.{length-copies}
use Rattle.network_queue.specs.Packed.{array_size, packed}
use Rattle.network_queue.specs.Places.{inserted_all}
use Rattle.network_queue.proofs.Inserting.{length-recs}
use Rattle.network_queue.proofs.Packing.{packed-insert_all}
use Rattle.network_options.proofs.OptionForms.{Held, options_back}
use Rattle.network_form.specs.declared.Head.{Head}
use Rattle.network_form.specs.Forms.{plain_in, head_of, formed_in}
use Rattle.basis.proofs.Laws.{both}
use Rattle.nights.proofs.Kept.{rises}
use Rattle.network_form.proofs.Maps.{plain_formed, words_are}

module _ (h : Head) (w : List ℕ) (m : Letter) (g : Fate) where
  abbrev held : List Record
  held = recs w 0 h.pending

  abbrev made : List Record
  made = copies m h.seq (dues g)

  many : length held ≡ h.pending
  many = length-recs w 0 h.pending

  pub sent_head : Held h.options
      → ◌≡◌ {A = Head}
      (record {
        options = h.options;
        pending = h.pending + length (dues g);
        seq = h.seq + length (dues g);
        sent = h.sent + 1;
        delivered = h.delivered;
        lost = h.lost + lost_by g;
        replayed = h.replayed + replayed_by g;
        delayed = h.delayed + delayed_by g;
      })
      (head_of (send_one m g (plain_in h w)))
  sent_head floats =
      let a : h.pending + length (dues g) ≡ length (insert_all made held) =
      omega (arith, length-insert_all made held, length-copies m h.seq (dues g), many) in
      rw (a, options_back h.options floats)

  pub sent_words : formed_in h w ≡ true → length w ≡ array_size → h.pending + length (dues g) ≤ capacity
      → (v : List ℕ) → v ≡ inserted_all w h.pending made → v ≡ packed (insert_all made held)
  sent_words f long room v p =
      p
      ∙ (ap (λ (x : List ℕ). inserted_all x h.pending made) (sym (words_are h w f long))
      ∙ (ap (λ (k : ℕ). inserted_all (packed held) k made) (sym many)
      ∙ packed-insert_all made held (omega (arith, room, many, length-copies m h.seq (dues g)))))

-- ---- the records of a well-formed network: each numbered up to its seq, and in order

pub records_good : (h : Head) (w : List ℕ) → formed_in h w ≡ true → every (good_record h.seq) (recs w 0 h.pending) ≡ true
unfolding well_formed
records_good h w f =
    let a = both (good_options (plain_in h w).options) _ (plain_formed h w f) in
    (both (every (good_record h.seq) (recs w 0 h.pending)) _ a.1).0

pub records_rise : (h : Head) (w : List ℕ) → formed_in h w ≡ true → rising (recs w 0 h.pending) ≡ true
records_rise h w f = rises (plain_in h w) (plain_formed h w f)

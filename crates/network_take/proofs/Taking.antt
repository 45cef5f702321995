-- A take test by test, and what it does to the head, the words and the lent output: what the plain form's take does. Assumes nothing.
use mathlib.Core.Path.{◌≡◌, sym, ap, ◌∙◌}
use mathlib.Core.List.{List, ◌++◌}
use mathlib.Core.Bool.{true}
use Prim.Native.Nat.{ℕ, ◌+◌, ◌-◌, ◌*◌, ◌≤◌, ◌<◌}
use native.Mathlib.Omega.{arith}
use borrow.Author.Tests.{le-leb, lt-leb}
use lib.ListN.{length, drop}
use Rattle.nights.specs.Record.{Record, record_size, record_words, recs}
use Rattle.nights.specs.Net.{keep, is_due, is_later, collect, take_due}
use Rattle.nights.specs.Tests.{done, refused, if_done, verdict, tests}
use Rattle.nights.proofs.Order.{length_split}
use Rattle.network_queue.specs.Packed.{array_size, packed}
use Rattle.network_queue.specs.Places.{due_count, left_words, gone_words}
use Rattle.network_queue.proofs.Inserting.{length-recs}
use Rattle.network_queue.proofs.Fronts.{front_is, back_is}
use Rattle.network_queue.proofs.Packing.{packed_left, packed_gone}
use Rattle.network_options.proofs.OptionForms.{Held, options_back}
use Rattle.network_form.specs.declared.Head.{Head}
use Rattle.network_form.specs.Forms.{plain_in, head_of, formed_in}
use Rattle.network_form.specs.Calls.{answer_in, head_after, records_after}
use Rattle.network_form.proofs.Maps.{small, in_order, words_are}
use Rattle.network_form.proofs.Calling.{call_well, head_stays, records_stay}
use Rattle.network_take.specs.Takes.{counting, due_records, take_tells, take_gives}

-- what a refused take tells, and hands back
pub untaken : (h : Head) (w : List ℕ) (tick : ℕ) (out : List ℕ) (k : ℕ) → answer_in (collect tick (length out)) h w ≡ refused k
    → (h ≡ head_after (collect tick (length out)) h w)
    × ((w ≡ records_after (collect tick (length out)) h w)
    × ((record { answer = refused k; records = 0 } ≡ take_tells tick (length out) h w) × (out ≡ take_gives tick out h w)))
unfolding counting if_done
untaken h w tick out k e =
    (head_stays h w (collect tick (length out)) k e, (records_stay h w (collect tick (length out)) k e, (rw e, rw e)))

module _ (h : Head) (w : List ℕ) (f : formed_in h w ≡ true) where
  abbrev held : List Record
  held = recs w 0 h.pending

  many : length held ≡ h.pending
  many = length-recs w 0 h.pending

  -- ---- the answer

  module _ (tick room k : ℕ) (e : k ≡ length (due_records tick h w)) where
    pub take_short : room < k * record_size → answer_in (collect tick room) h w ≡ refused 30
    unfolding tests verdict
    take_short q =
        call_well h w (collect tick room) f ∙ rw (lt-leb (record_size * length (due_records tick h w)) room (omega arith))

    pub take_well : k * record_size ≤ room → answer_in (collect tick room) h w ≡ done
    unfolding tests verdict
    take_well q =
        call_well h w (collect tick room) f ∙ rw (le-leb (record_size * length (due_records tick h w)) room (omega arith))

  -- ---- what is taken

  module _ (tick k : ℕ) (e : k ≡ due_count tick held) where
    pub taken_count : k ≡ length (due_records tick h w)
    taken_count = e ∙ ap length (front_is tick held (in_order h w f))

    pub taken_head : Held h.options
        → ◌≡◌ {A = Head}
        (record {
          options = h.options;
          pending = h.pending - k;
          seq = h.seq;
          sent = h.sent;
          delivered = h.delivered + k;
          lost = h.lost;
          replayed = h.replayed;
          delayed = h.delayed;
        })
        (head_of (take_due tick (plain_in h w)))
    taken_head floats =
        let a : h.pending - k ≡ length (keep (is_later tick) held) = omega (arith, taken_count, length_split (is_due tick) held, many) in
        rw (a, taken_count, options_back h.options floats)

    module _ (long : length w ≡ array_size) where
      pub taken_words : (v : List ℕ) → v ≡ left_words w h.pending tick → v ≡ packed (keep (is_later tick) held)
      taken_words v p =
          p
          ∙ (ap (λ (x : List ℕ). left_words x h.pending tick) (sym (words_are h w f long))
          ∙ (ap (λ (m : ℕ). left_words (packed held) m tick) (sym many)
          ∙ (packed_left held tick (omega (arith, small h w f, many)) ∙ ap packed (back_is tick held (in_order h w f)))))

      pub taken_out : (o out : List ℕ) → o ≡ gone_words w h.pending tick out
          → o ≡ record_words (due_records tick h w) ++ drop (length (record_words (due_records tick h w))) out
      taken_out o out p =
          p
          ∙ (ap (λ (x : List ℕ). gone_words x h.pending tick out) (sym (words_are h w f long))
          ∙ (ap (λ (m : ℕ). gone_words (packed held) m tick out) (sym many)
          ∙ (packed_gone held tick out
          ∙ ap (λ (x : List Record). record_words x ++ drop (length (record_words x)) out) (front_is tick held (in_order h w f)))))

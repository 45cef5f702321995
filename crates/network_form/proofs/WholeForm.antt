-- Well-formedness part by part: what a failed part says of the whole, and what all that hold say. Assumes nothing.
use mathlib.Core.Path.{◌≡◌, refl, sym, ◌∙◌}
use mathlib.Core.Bool.{Bool, true, false, ◌&&◌}
use mathlib.Core.List.{List}
use Prim.Native.Nat.{ℕ, ◌*◌}
use lib.Dec.{leb}
use lib.ListN.{drop}
use Rattle.basis.proofs.Laws.{both}
use Rattle.nights.specs.Record.{record_size, recs}
use Rattle.nights.specs.Net.{capacity, every, good_record, rising, good_options, good_counts, well_formed}
use Rattle.network_queue.specs.Packed.{zeros}
use Rattle.network_queue.proofs.Inserting.{length-recs}
use Rattle.network_records.specs.Form.{records_formed}
use Rattle.network_options.specs.Options.{plain_options}
use Rattle.network_form.specs.declared.Head.{Head}
use Rattle.network_form.specs.Forms.{formed_in, counts_good}

shuffle : (o e r k l z : Bool) → (k ≡ true → l ≡ true) → (o && (e && (r && k))) && (l && z) ≡ o && (k && (e && (r && z)))
shuffle false e r k l z h = refl
shuffle true false r true l z h = refl
shuffle true false r false l z h = refl
shuffle true true false true l z h = refl
shuffle true true false false l z h = refl
shuffle true true true true l z h = rw (h refl)
shuffle true true true false l z h = refl

module _ (h : Head) (w : List ℕ) where
  has_room : counts_good h ≡ true → leb h.pending capacity ≡ true
  unfolding good_counts
  has_room e = (both (leb h.pending capacity) _ e).0

  whole : formed_in h w ≡ good_options (plain_options h.options) && (counts_good h && records_formed w h.pending h.seq)
  unfolding formed_in well_formed records_formed
  whole =
      rw (length-recs w 0 h.pending)
      (shuffle (good_options (plain_options h.options)) (every (good_record h.seq) (recs w 0 h.pending))
      (rising (recs w 0 h.pending)) (counts_good h) (leb h.pending capacity) (zeros (drop (record_size * h.pending) w)) has_room)

  pub options_fail : good_options (plain_options h.options) ≡ false → false ≡ formed_in h w
  options_fail e = sym (whole ∙ rw e)

  module _ (o : good_options (plain_options h.options) ≡ true) where
    pub counts_fail : counts_good h ≡ false → false ≡ formed_in h w
    counts_fail e = sym (whole ∙ rw (o, e))

    pub all_told : counts_good h ≡ true → {b : Bool} → b ≡ records_formed w h.pending h.seq → b ≡ formed_in h w
    all_told e f = f ∙ sym (whole ∙ rw (o, e))

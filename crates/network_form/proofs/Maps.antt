-- The maps between a head with its words and the plain form. On well-formed ones each is the other's inverse. Assumes nothing.
use mathlib.Core.Path.{◌≡◌}
use mathlib.Core.List.{List}
use mathlib.Core.Bool.{true}
use Prim.Native.Nat.{ℕ, ◌*◌, ◌≤◌}
use borrow.Author.Tests.{leb-true, le-leb}
use denote.Floats.{passes}
use lib.Dec.{leb}
use lib.ListN.{length, drop}
use Rattle.basis.proofs.Laws.{both}
use Rattle.chance.specs.Probability.{good_word}
use Rattle.chance.proofs.ThereAndBack.{there_and_back}
use Rattle.nights.specs.Record.{record_size, recs}
use Rattle.nights.specs.Net.{capacity, Plain, good_options, well_formed}
use Rattle.nights.proofs.Order.{Ordered}
use Rattle.nights.proofs.Kept.{Counts, counted, good, options_good}
use Rattle.network_queue.specs.Packed.{array_size, packed, zeros}
use Rattle.network_queue.proofs.Inserting.{length-recs}
use Rattle.network_queue.proofs.Packing.{unpacked, repacked, packed-zeros}
use Rattle.network_options.specs.Options.{plain_options}
use Rattle.network_options.proofs.OptionForms.{Held, options_back}
use Rattle.network_form.specs.declared.Head.{Head}
use Rattle.network_form.specs.Forms.{plain_in, head_of, formed_in}

-- ---- a well-formed head and its words

module _ (h : Head) (w : List ℕ) (f : formed_in h w ≡ true) where
  parts : (well_formed (plain_in h w) ≡ true) × (h.pending ≤ capacity) × (zeros (drop (record_size * h.pending) w) ≡ true)
  unfolding formed_in
  parts =
      let a = both (well_formed (plain_in h w)) _ f in
      let b = both (leb h.pending capacity) _ a.1 in
      (a.0, leb-true h.pending capacity b.0, b.1)

  pub plain_formed : well_formed (plain_in h w) ≡ true
  plain_formed = parts.0

  pub small : h.pending ≤ capacity
  small = parts.1

  pub good_in : good_options (plain_options h.options) ≡ true
  good_in = options_good (plain_in h w) plain_formed

  pub in_order : Ordered (plain_in h w).pending
  in_order = (good (plain_in h w) plain_formed).ordered

  pub counts : Counts h.pending h.seq h.sent h.delivered h.lost h.replayed h.delayed
  counts = rw (length-recs w 0 h.pending) at (counted (plain_in h w) plain_formed)

  -- its words are those of its records, and its head is that of its plain form
  pub words_are : length w ≡ array_size → packed (recs w 0 h.pending) ≡ w
  words_are long = repacked w h.pending long small parts.2

  pub head_is : Held h.options → head_of (plain_in h w) ≡ h
  head_is held = rw (options_back h.options held, length-recs w 0 h.pending)

-- ---- a well-formed plain form

module _ (n : Plain) (f : well_formed n ≡ true) where
  -- the plain form of its head and words is that plain form
  pub plain_back : plain_in (head_of n) (packed n.pending) ≡ n
  unfolding good_options
  plain_back =
      let g = both (good_word n.options.loss) _ (options_good n f) in
      let h = both (good_word n.options.replay) _ g.1 in
      rw ((there_and_back n.options.loss (passes _ g.0)).0, (there_and_back n.options.replay (passes _ h.0)).0, unpacked n.pending)

  -- and they are well formed
  pub formed_back : formed_in (head_of n) (packed n.pending) ≡ true
  unfolding formed_in
  formed_back = rw (plain_back, f, le-leb (length n.pending) capacity (counted n f).small, packed-zeros n.pending)

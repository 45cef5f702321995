-- A head's words and the head that they are read as give each other back: what one call writes is what the next one reads. Assumes
-- nothing.
use Prim.Native.Nat.{ℕ, zero, suc, ◌+◌, ◌≤◌}
use mathlib.Core.Path.{◌≡◌, refl, sym, ap, ◌∙◌}
use mathlib.Core.Bool.{true}
use mathlib.Core.List.{List, [], ◌∷◌}
use native.Mathlib.Omega.{arith}
use borrow.Author.Tests.{leb-true}
use denote.Floats.{passes}
use lib.Dec.{leb, eqb}
use lib.ListN.{length, drop, get_or, drop_of_length-le}
use lib.Seq.{drop-cons}
use lib.Ieee.{binary64, of_bits}
use lib.Ieee.Bits.{of_bits-fits}
use Rattle.basis.specs.Basis.{bit}
use Rattle.basis.proofs.Laws.{both}
use Rattle.chance.specs.Probability.{good_word}
use Rattle.chance.proofs.ThereAndBack.{there_and_back}
use Rattle.nights.specs.Net.{Options, good_options}
use Rattle.nights.proofs.Undo.{eqb-bit, leb-bit}
use Rattle.network_options.specs.Options.{plain_options, struct_options}
use Rattle.network_options.proofs.OptionForms.{Held, options_back}
use Rattle.network_form.specs.declared.Head.{Head}
use Rattle.network_layout.specs.Layout.{head_size, head_fits, head_in, head_words}

-- ---- from a head

module _ (h : Head) where
  -- its words are read as that head; `Held`: its floats are such as the format holds, and every f64 is
  pub read_back : Held h.options → head_in (head_words h) ≡ h
  read_back held = rw (eqb-bit h.options.fault_client_messages, options_back h.options held)

  -- and where its options are good they fit
  pub fits_back : good_options (plain_options h.options) ≡ true → head_fits (head_words h) ≡ true
  unfolding head_fits good_options
  fits_back g =
      let p = both (good_word (plain_options h.options).loss) _ g in
      let q = both (good_word (plain_options h.options).replay) _ p.1 in
      rw (p.0, q.0, leb-bit h.options.fault_client_messages)

-- and those of options that were words are
pub of_words : (o : Options) → Held (struct_options o)
of_words o = record { loss = of_bits-fits binary64 o.loss; replay = of_bits-fits binary64 o.replay }

-- ---- from words

flag_word : (w : ℕ) → leb w 1 ≡ true → bit (eqb w 1) ≡ w
flag_word zero e = refl
flag_word (suc zero) e = refl
flag_word (suc (suc w)) e = absurd (omega (arith, leb-true (suc (suc w)) 1 e))

-- the words from a place on, read one by one
unfoldable listed : List ℕ → ℕ → ℕ → List ℕ
listed w k zero = []
listed w k (suc n) = get_or w k 0 ∷ listed w (suc k) n

all_listed : (n k : ℕ) (w : List ℕ) → length w ≡ k + n → listed w k n ≡ drop k w
unfolding listed
all_listed zero k w e = let h : length w ≤ k = omega arith in sym (drop_of_length-le w h)
all_listed (suc n) k w e =
    ap (λ (l : List ℕ). get_or w k 0 ∷ l) (all_listed n (suc k) w (omega arith)) ∙ sym (drop-cons w k 0 (omega arith))

-- words that fit are those of the head that they are read as
pub back_read : (w : List ℕ) → length w ≡ head_size → head_fits w ≡ true → head_words (head_in w) ≡ w
unfolding head_fits listed
back_read w long f =
    let p = both (good_word (get_or w 0 0)) _ f in
    let q = both (good_word (get_or w 1 0)) _ p.1 in
    rw (
      (there_and_back (get_or w 0 0) (passes _ p.0)).0,
      (there_and_back (get_or w 1 0) (passes _ q.0)).0,
      flag_word (get_or w 4 0) q.1,
    )
    (all_listed head_size 0 w long)

-- The header's table, said once more: what each of the twelve words is read as, and so, since words are read back, where each is
-- written. Two words exchanged alike in reading and in writing would meet all of the above.
pub word_by_word : (loss replay min mean flag pending seq sent delivered lost replayed delayed : ℕ)
    → head_in (loss ∷ replay ∷ min ∷ mean ∷ flag ∷ pending ∷ seq ∷ sent ∷ delivered ∷ lost ∷ replayed ∷ delayed ∷ [])
    ≡ record {
      options =
          record {
            packet_loss_probability = of_bits binary64 loss;
            packet_replay_probability = of_bits binary64 replay;
            one_way_delay_min = min;
            one_way_delay_mean = mean;
            fault_client_messages = eqb flag 1;
          };
      pending = pending;
      seq = seq;
      sent = sent;
      delivered = delivered;
      lost = lost;
      replayed = replayed;
      delayed = delayed;
    }
word_by_word loss replay min mean flag pending seq sent delivered lost replayed delayed = refl

-- What the record of a change of options tells, test by test: a test that fails makes it a misfit, and where none fails the options are
-- still to be tested. Assumes nothing.
use Prim.Native.Nat.{ℕ, ◌+◌, ◌≤◌, ◌<◌}
use mathlib.Core.Path.{◌≡◌, sym, ap, ◌∙◌}
use mathlib.Core.List.{List}
use mathlib.Core.Bool.{Bool, true, false, ◌&&◌}
use borrow.Author.Tests.{le-leb, lt-leb, eq-eqb, ne_eqb}
use lib.Dec.{leb, eqb}
use lib.ListN.{get_or}
use Rattle.std.specs.Prelude.{IfSome}
use Rattle.std.specs.Bool.{then_some}
use Rattle.basis.proofs.Laws.{both}
use Rattle.chance.specs.Probability.{good_word}
use Rattle.nights.specs.Net.{Plain, good_options, well_formed}
use Rattle.nights.specs.Journal.{misfit, undone, unchoose, undo_as, checked}
use Rattle.nights.proofs.Failing.{first, second}
use Rattle.network_options.specs.declared.NetworkOptions.{NetworkOptions}
use Rattle.network_options.specs.Options.{plain_options}
use Rattle.network_form.specs.declared.Head.{Head}
use Rattle.network_form.specs.Forms.{plain_in, formed_in}
use Rattle.network_form.proofs.Maps.{plain_formed}
use Rattle.journal_tests.specs.declared.Undone.{Undone}
use Rattle.journal_tests.specs.Undone.{undone_in}
use Rattle.journal_tests.proofs.Laws.{options_break}

-- ---- the tests of the record

module _ (z b : ℕ) (n : Plain) (w : List ℕ) (e : ℕ) where
  pub options_size : (z ≡ 7 → ⊥) → checked (undo_as 3 z b n w e) ≡ misfit
  unfolding undo_as checked
  options_size h = rw (ne_eqb z 7 h)

  pub bad_flag : 1 < get_or w (b + 4) 0 → checked (undo_as 3 z b n w e) ≡ misfit
  unfolding undo_as checked
  bad_flag h =
      rw (second (eqb z 7) (leb 9 e && leb (get_or w (b + 4) 0) 1)
      (second (leb 9 e) (leb (get_or w (b + 4) 0) 1) (lt-leb (get_or w (b + 4) 0) 1 h)))

  pub options_fit : z ≡ 7 → 9 ≤ e → get_or w (b + 4) 0 ≤ 1 → checked (undone (unchoose w b n) b) ≡ checked (undo_as 3 z b n w e)
  unfolding undo_as
  options_fit h k f = rw (eq-eqb z 7 h, le-leb 9 e k, le-leb (get_or w (b + 4) 0) 1 f)

  -- options that are not good leave an ill-formed network
  bad_options : good_options (unchoose w b n).options ≡ false → z ≡ 7 → 9 ≤ e → get_or w (b + 4) 0 ≤ 1
      → checked (undo_as 3 z b n w e) ≡ misfit
  unfolding checked well_formed
  bad_options g h k f = sym (options_fit h k f) ∙ rw g

  pub bad_loss : good_word (get_or w b 0) ≡ false → z ≡ 7 → 9 ≤ e → get_or w (b + 4) 0 ≤ 1 → checked (undo_as 3 z b n w e) ≡ misfit
  unfolding good_options
  bad_loss g h k f = bad_options (rw g) h k f

  pub bad_replay : good_word (get_or w (b + 1) 0) ≡ false → z ≡ 7 → 9 ≤ e → get_or w (b + 4) 0 ≤ 1
      → checked (undo_as 3 z b n w e) ≡ misfit
  unfolding good_options
  bad_replay g h k f = bad_options (second (good_word (get_or w b 0)) _ (first (good_word (get_or w (b + 1) 0)) _ g)) h k f

-- ---- what it leaves

module _ (h : Head) (w : List ℕ) (f : formed_in h w ≡ true) (j : List ℕ) (b : ℕ) (o : NetworkOptions)
    (e : plain_options o ≡ (unchoose j b (plain_in h w)).options) where
  abbrev unchosen : Head
  unchosen =
      record {
        options = o;
        pending = h.pending;
        seq = h.seq;
        sent = h.sent;
        delivered = h.delivered;
        lost = h.lost;
        replayed = h.replayed;
        delayed = h.delayed;
      }

  -- the options tell it all
  whole : (t : Bool) → t ≡ good_options (plain_options o) → well_formed (unchoose j b (plain_in h w)) ≡ t
  whole t k = options_break (plain_in h w) (plain_formed h w f) j b ∙ sym (k ∙ ap good_options e)

  pub options_leave : (t : Bool) → t ≡ good_options (plain_options o)
      → undone_in (then_some t (record { head = unchosen; start = b })) w ≡ checked (undone (unchoose j b (plain_in h w)) b)
  unfolding undone_in checked
  options_leave true k = rw (e, whole true k)
  options_leave false k = rw (whole false k)

  pub options_stay : (t : Bool) → t ≡ good_options (plain_options o)
      → IfSome {T = Undone} (then_some t (record { head = unchosen; start = b })) (λ u. formed_in u.head w ≡ true)
  unfolding formed_in
  options_stay true k = rw (e, whole true k) (both (well_formed (plain_in h w)) _ f).1
  options_stay false k = tt

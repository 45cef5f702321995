-- A fate decided alone is that of the send: under the options of a network whose send is accepted, bellmantle_fate answers 0, its first four
-- words are what the send tells, and the due ticks that it tells are those of the copies that the send queues. Assumes nothing.
use Prim.Native.Nat.{ℕ}
use mathlib.Core.Path.{◌≡◌, refl, sym, ap, ◌∙◌}
use mathlib.Core.Bool.{true}
use mathlib.Core.List.{List, []}
use native.Mathlib.Omega.{arith}
use borrow.Author.Tests.{le-leb}
use lib.ListN.{take}
use Rattle.basis.proofs.Laws.{both}
use Rattle.chance.specs.Probability.{good_word}
use Rattle.nights.specs.Net.{Fate, refuse, lose, once, twice, Letter, send, dues, lost_by, replayed_by, good_options}
use Rattle.nights.specs.Draws.{Decided, decided, fate_of}
use Rattle.nights.specs.Tests.{done, allowed, verdict, if_done}
use Rattle.nights.proofs.Good.{PassedSend}
use Rattle.nights.proofs.Run.{passed_tests}
use Rattle.nights.proofs.Kept.{options_good}
use Rattle.network_form.specs.Forms.{plain_in}
use Rattle.network_form.specs.Calls.{answer_in}
use Rattle.network_form.proofs.Calling.{call_well}
use Rattle.network_form.proofs.Laws.{was_formed}
use Rattle.network_form.proofs.Maps.{plain_formed}
use Rattle.network_layout.specs.Layout.{head_in}
use Rattle.network_words.specs.Calls.{Rows, send_rows}
use Rattle.network_fate.specs.Fates.{fate_told, fate_answered, fate_number, fate_words}
use Rattle.host.specs.Calls.{sending, rows_of}
use Rattle.host.specs.Fates.{dues_told}
use Rattle.host.proofs.Refusing.{wrote_by, zero_is_done, head_done}

-- the due ticks told are those of the fate
dues_of : (f : Fate) (x y : ℕ) → allowed f ≡ true → dues_told (fate_told (record { fate = f; draws = x; extras = y })) ≡ dues f
unfolding dues lost_by replayed_by
dues_of (refuse k) x y a = let z : ◌≡◌ {A = ℕ} 0 1 = cc in absurd (omega arith)
dues_of lose x y a = refl
dues_of (once t l) x y a = refl
dues_of (twice c t k l) x y a = refl

module _ (h r : List ℕ) (m : Letter) (draws extras told : List ℕ) (e : (send_rows h r m draws extras told).number ≡ 0) where
  abbrev drawn : Decided
  drawn = decided (plain_in (head_in h) r).options m.now m.kind draws extras

  is_done : answer_in (send m draws extras) (head_in h) r ≡ done
  is_done = head_done h _ (zero_is_done (rows_of h r) (sending m draws extras told) e)

  passed : PassedSend m drawn.fate (plain_in (head_in h) r)
  passed =
      let c = send m draws extras in
      (passed_tests fate_of c (plain_in (head_in h) r) [] (sym (call_well (head_in h) r c (was_formed c (head_in h) r is_done)) ∙ is_done)).0

  answers : fate_answered (plain_in (head_in h) r).options m.now m.kind draws extras ≡ done
  unfolding verdict good_options
  answers =
      let good = options_good (plain_in (head_in h) r) (plain_formed (head_in h) r (was_formed (send m draws extras) (head_in h) r is_done)) in
      let a = both (good_word (plain_in (head_in h) r).options.loss) _ good in
      let b = both (good_word (plain_in (head_in h) r).options.replay) _ a.1 in
      rw (a.0, b.0, b.1, le-leb m.kind 10 passed.kind, passed.fated)

  pub fate_answers : fate_number (plain_in (head_in h) r).options m.now m.kind draws extras ≡ 0
  unfolding fate_number
  fate_answers = rw answers

  pub fate_tells : (six : List ℕ)
      → take 4 (fate_words (plain_in (head_in h) r).options m.now m.kind draws extras six) ≡ (send_rows h r m draws extras told).told
  unfolding fate_words if_done
  fate_tells six =
      rw answers (sym (ap (λ (t : Rows). t.told) (wrote_by _ _ _ (zero_is_done (rows_of h r) (sending m draws extras told) e))))

  pub fate_dues : (six : List ℕ)
      → dues_told (fate_words (plain_in (head_in h) r).options m.now m.kind draws extras six) ≡ dues drawn.fate
  unfolding fate_words if_done
  fate_dues six = rw answers (dues_of drawn.fate drawn.draws drawn.extras passed.fated)

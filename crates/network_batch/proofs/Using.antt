-- A send uses no more draws and extras than there are, and refuses with no number over 33. Assumes nothing.
use Prim.Native.Nat.{ℕ, ◌+◌, ◌≤◌}
use mathlib.Core.Path.{◌≡◌, refl}
use mathlib.Core.Bool.{Bool, true, false, cond, ◌&&◌}
use mathlib.Core.List.{List, [], ◌∷◌}
use native.Mathlib.Omega.{arith}
use borrow.Author.Tests.{ltb-true, leb-true}
use lib.Dec.{leb, ltb}
use lib.Ieee.{Float, binary64, of_bits, to_bits}
use lib.ListN.{length, get_or}
use Rattle.chance.specs.Probability.{is_one, is_zero, threshold_of}
use Rattle.std.specs.Prelude.{Option, Some, None}
use Rattle.chance.specs.Draw.{drawn, by_word, gen_bool, gen_bool_in_send}
use Rattle.chance.specs.declared.Draw.{Draw}
use Rattle.nights.specs.Net.{Options, lose, once, twice, Letter, send}
use Rattle.nights.specs.Draws.{Decided, refusing, is_faulted, extras_for, due_at, is_tick, is_late, alone, both, after_replay, after_loss, decided, fate_of}
use Rattle.nights.specs.Tests.{refused, Test, verdict, refusal, send_tests, tests}
use Rattle.network_options.specs.declared.Refusal.{Refusal}
use Rattle.network_options.specs.declared.Refusal.TheVariants.{BadLoss, BadReplay, MinOverMean, IllFormed, BadKindOrSort, SentLimit, ShortDraws, ShortExtras, LateTick, Full, ShortOutput, BadJournal, NoJournalRoom, TooFarBack}
use Rattle.network_options.specs.Answers.{refusal_number}
use Rattle.network_options.specs.Options.{plain_options}
use Rattle.network_form.specs.declared.Head.{Head}
use Rattle.network_form.specs.Forms.{plain_in}
use Rattle.network_form.specs.Calls.{form_test, answer_in}

-- ---- draws

-- the place of the next word, after a draw that found one
abbrev next : Option Draw → ℕ
next (Some d) = d.next
next None = 0

module _ (p : Float) (draws : List ℕ) (place : ℕ) (h : place ≤ length draws) where
  by_word_lem : next (by_word p draws place) ≤ length draws
  unfolding by_word
  by_word_lem = go (ltb place (length draws)) refl (ltb (get_or draws place 0) (threshold_of (to_bits binary64 p)))
    where
      go : (b : Bool) → ltb place (length draws) ≡ b → (d : Bool) → next (cond b (drawn d (place + 1)) None) ≤ length draws
      go true e d = omega (arith, ltb-true place (length draws) e)
      go false e d = omega arith

  in_send : next (gen_bool_in_send p draws place) ≤ length draws
  unfolding gen_bool gen_bool_in_send
  in_send = go (is_zero p) (is_one p)
    where
      go : (z o : Bool) → next (cond z (drawn false place) (cond o (drawn true place) (by_word p draws place))) ≤ length draws
      go true o = h
      go false true = h
      go false false = by_word_lem

-- ---- a decided send

pub record Modest (draws extras : List ℕ) (d : Decided) : Type 0 where
  pub draws_within : d.draws ≤ length draws
  pub extras_within : d.extras ≤ length extras
  pub number_small : refusal d.fate ≤ 33

module _ (o : Options) (now : ℕ) (draws extras : List ℕ) where
  module _ (drawn : ℕ) (h : drawn ≤ length draws) where
    one_copy : Modest draws extras (alone o now extras drawn)
    unfolding alone
    one_copy = go (leb (extras_for o 1) (length extras)) refl (is_tick (due_at o now extras 0))
      where
        go : (b : Bool) → leb (extras_for o 1) (length extras) ≡ b → (t : Bool) → Modest draws extras (cond b (cond t (record { fate = once (due_at o now extras 0) (is_late o extras 0); draws = drawn; extras = extras_for o 1 }) (refusing 28)) (refusing 27))
        go true e true = record { draws_within = h; extras_within = leb-true _ _ e; number_small = omega arith }
        go true e false = record { draws_within = omega arith; extras_within = omega arith; number_small = omega arith }
        go false e t = record { draws_within = omega arith; extras_within = omega arith; number_small = omega arith }

    two_copies : Modest draws extras (both o now extras drawn)
    unfolding both
    two_copies = go (leb (extras_for o 2) (length extras)) refl (is_tick (due_at o now extras 0) && is_tick (due_at o now extras 1))
      where
        go : (b : Bool) → leb (extras_for o 2) (length extras) ≡ b → (t : Bool)
            → Modest draws extras (cond b (cond t (record { fate = twice (due_at o now extras 0) (due_at o now extras 1) (is_late o extras 0) (is_late o extras 1); draws = drawn; extras = extras_for o 2 }) (refusing 28)) (refusing 27))
        go true e true = record { draws_within = h; extras_within = leb-true _ _ e; number_small = omega arith }
        go true e false = record { draws_within = omega arith; extras_within = omega arith; number_small = omega arith }
        go false e t = record { draws_within = omega arith; extras_within = omega arith; number_small = omega arith }

  replay_modest : (d : Option Draw) → next d ≤ length draws → Modest draws extras (after_replay o now extras d)
  unfolding after_replay
  replay_modest (Some d) h = go d.yes
    where
      go : (b : Bool) → Modest draws extras (cond b (both o now extras d.next) (alone o now extras d.next))
      go true = two_copies d.next h
      go false = one_copy d.next h
  replay_modest None h = record { draws_within = omega arith; extras_within = omega arith; number_small = omega arith }

  loss_modest : (d : Option Draw) → next d ≤ length draws → Modest draws extras (after_loss o now draws extras d)
  unfolding after_loss
  loss_modest (Some d) h = go d.yes
    where
      go : (b : Bool)
          → Modest draws extras (cond b (record { fate = lose; draws = d.next; extras = 0 }) (after_replay o now extras (gen_bool_in_send (of_bits binary64 o.replay) draws d.next)))
      go true = record { draws_within = h; extras_within = omega arith; number_small = omega arith }
      go false = replay_modest _ (in_send (of_bits binary64 o.replay) draws d.next h)
  loss_modest None h = record { draws_within = omega arith; extras_within = omega arith; number_small = omega arith }

  pub modest : (kind : ℕ) → Modest draws extras (decided o now kind draws extras)
  unfolding decided
  modest kind = go (is_faulted o kind)
    where
      go : (b : Bool) → Modest draws extras (cond b (after_loss o now draws extras (gen_bool_in_send (of_bits binary64 o.loss) draws 0)) (record { fate = once now false; draws = 0; extras = 0 }))
      go true = loss_modest _ (in_send (of_bits binary64 o.loss) draws 0 (omega arith))
      go false = record { draws_within = omega arith; extras_within = omega arith; number_small = omega arith }

-- ---- the numbers of refusals

abbrev Under : List Test → Type 0
Under [] = Unit {0}
Under (t ∷ ts) = (t.number ≤ 33) × Under ts

under : (ts : List Test) → Under ts → (k : ℕ) → verdict ts ≡ refused k → k ≤ 33
unfolding verdict
under [] u k e = let z : ◌≡◌ {A = ℕ} 0 1 = cc in absurd (omega arith)
under (t ∷ ts) u k e = go t.passes (λ q. under ts u.1 k q) e
  where
    go : (b : Bool) → (verdict ts ≡ refused k → k ≤ 33) → cond b (verdict ts) (refused t.number) ≡ refused k → k ≤ 33
    go true more q = more q
    go false more q = let z : t.number ≡ k = cc in omega (arith, u.0)

pub send_number : (m : Letter) (draws extras : List ℕ) (h : Head) (w : List ℕ) (k : ℕ) → answer_in (send m draws extras) h w ≡ refused k → k ≤ 33
unfolding answer_in tests
send_number m draws extras h w k e =
    under (form_test h w ∷ send_tests m (fate_of (plain_options h.options) m.now m.kind draws extras) (plain_in h w) [])
    (omega arith, (omega arith, (omega arith, ((modest (plain_options h.options) m.now draws extras m.kind).number_small, (omega arith, tt))))) k e

pub number_under : (r : Refusal) → refusal_number r ≤ 33
number_under BadLoss = omega arith
number_under BadReplay = omega arith
number_under MinOverMean = omega arith
number_under IllFormed = omega arith
number_under BadKindOrSort = omega arith
number_under SentLimit = omega arith
number_under ShortDraws = omega arith
number_under ShortExtras = omega arith
number_under LateTick = omega arith
number_under Full = omega arith
number_under ShortOutput = omega arith
number_under BadJournal = omega arith
number_under NoJournalRoom = omega arith
number_under TooFarBack = omega arith

pub number_over : (r : Refusal) → refusal_number r ≡ 0 → ⊥
number_over BadLoss e = omega arith
number_over BadReplay e = omega arith
number_over MinOverMean e = omega arith
number_over IllFormed e = omega arith
number_over BadKindOrSort e = omega arith
number_over SentLimit e = omega arith
number_over ShortDraws e = omega arith
number_over ShortExtras e = omega arith
number_over LateTick e = omega arith
number_over Full e = omega arith
number_over ShortOutput e = omega arith
number_over BadJournal e = omega arith
number_over NoJournalRoom e = omega arith
number_over TooFarBack e = omega arith

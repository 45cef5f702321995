-- The claim applied to two runs: the table's, and one with a mark, a refused call, and a rewind across a take and a second send.
-- Of each the standing list is written out; the claim then says what the network is, and no queue is run for it.
use Prim.Native.Nat.{ℕ, suc}
use mathlib.Core.Path.{◌≡◌, refl, sym, ap, subst}
use mathlib.Core.Logic.{◌⊎◌, inl, inr}
use mathlib.Core.List.Memᴰ.{cases_cons}
use mathlib.Core.List.Memᴰ.{head as here}
use mathlib.Core.List.Memᴰ.{not-nil}
use mathlib.Core.List.Memᴰ.{tail as there}
use mathlib.Core.List.{List, [], ◌∷◌, Memᴰ as Member}
use mathlib.Core.Bool.{true, false}
use native.Mathlib.Omega.{arith}
use lib.ListN.{length, get_or}
use lib.Ieee.{to_bits, of_bits}
use Rattle.nights.specs.Record.{Record, record_words, recs}
use Rattle.nights.specs.Net
use Rattle.nights.specs.Net.{Change, send, keep, every, earlier, insert_by, insert_all, dues, lost_by, replayed_by, delayed_by, copies, effect, good_options, good_record, ahead, rising, good_counts, well_formed}
use Rattle.nights.specs.Tests.{done, refused, verdict, tests, if_done}
use Rattle.nights.specs.Journal.{Call, change, rewind, mark, held, used, logged, good_header, undo_words, undo_as, undo_one, checked, further, undo_all, do_change, rewound, do_rewind, do_mark, step}
use Rattle.nights.specs.Standing.{strike, struck, reach_by, reached}
use Rattle.nights.specs.Rule.{options_by, fate_by, fates, makes, made, Made, missed_by, untaken, waits, from, Exactly, Told}
use Rattle.nights.specs.Claim.{run, log, stands, reach, stack, Claim}
use Rattle.nights.proofs.Folding.{replay, flat, recorded}
use Rattle.chance.specs.Probability.{good_word, is_one, is_zero, threshold_of}
use Rattle.chance.specs.Draw.{by_word, gen_bool, gen_bool_in_send}
use Rattle.nights.specs.Draws.{is_faulted, extras_for, extra_at, due_at, is_tick, is_late, alone as alone_of, both, after_replay, after_loss, decided, fate_of}
use Rattle.nights.proofs.Claim.{folded, claim_of_the_rules}
use Rattle.nights.proofs.Unique.{exactly_one}
use Rattle.worked.proofs.Runs.{letter_at, rest, doubled, alone, answers, four}
use Rattle.worked.specs.Table.{options, draws, extras, taking, after}

options_good : good_options options ≡ true
unfolding to_bits good_options good_word
options_good = refl

claimed : (cs : List Call) → Claim fate_of options rest cs
claimed cs = claim_of_the_rules options options_good rest cs

-- the claim of a run whose standing list is known
known : (cs : List Call) (st : List Change) → stands fate_of options rest cs ≡ st → Told fate_of options st (after cs).net
known cs st e = subst (λ (l : List Change). Told fate_of options l (after cs).net) e (claimed cs).told

-- words 0 and 1, from what the journal holds
headed : (cs : List Call)
    → (held (after cs).words ≡ reach fate_of options rest cs)
    × (used (after cs).words ≡ suc (suc (length (recorded fate_of options (reach fate_of options rest cs) (stack fate_of options rest cs)))))
headed cs =
    let h = (folded fate_of options options_good rest cs).holds in
    (ap (λ (w : List ℕ). get_or w 0 0) h.1, ap (λ (w : List ℕ). get_or w 1 0) h.1)

-- ---- the table's run: the send stands alone

abbrev first : Change
first = send (letter_at 10) draws extras

-- its copy is due at 17 under the number 1, the original at 12 under the number 2
abbrev copy_first : Record
copy_first = record { due = 17; seq = 1; sent_at = 10; sort = 0; origin = 1; to = 2; kind = 1; handle = 7 }

abbrev original : Record
original = record { due = 12; seq = 2; sent_at = 10; sort = 0; origin = 1; to = 2; kind = 1; handle = 7 }

abbrev made_then : List Change → List Made
made_then later = record { copy = copy_first; later = later } ∷ record { copy = original; later = later } ∷ []

four-stands : stands fate_of options rest four ≡ first ∷ []
unfolding
    to_bits of_bits good_word is_one is_zero threshold_of by_word gen_bool gen_bool_in_send
    is_faulted extras_for extra_at due_at is_tick is_late alone_of both after_replay after_loss decided
    keep every earlier insert_by insert_all dues lost_by replayed_by delayed_by copies effect good_options good_record ahead rising good_counts well_formed
    logged good_header record_words recs undo_words undo_as undo_one checked further undo_all verdict tests if_done do_change rewound do_rewind do_mark step
    run log strike struck
four-stands = refl

-- both wait, in the order of their due ticks
both_wait : Exactly (made_then []) (original ∷ copy_first ∷ [])
unfolding rising every ahead earlier untaken from
both_wait =
    record {
      rises = refl;
      all = λ (m : Made) (p : Member m (made_then [])) (w : waits m ≡ true). all m (cases_cons p);
      only = λ (r : Record) (p : Member r (original ∷ copy_first ∷ [])). only r (cases_cons p);
      numbers = refl;
    }
  where
    one : Made
    one = record { copy = copy_first; later = [] }

    two : Made
    two = record { copy = original; later = [] }

    last : (m : Made) → (m ≡ two) ⊎ Member m [] → Member m.copy (original ∷ copy_first ∷ [])
    last m (inl e) = here (ap (λ (x : Made). x.copy) e)
    last m (inr p) = absurd (not-nil p)

    all : (m : Made) → (m ≡ one) ⊎ Member m (two ∷ []) → Member m.copy (original ∷ copy_first ∷ [])
    all m (inl e) = there (here (ap (λ (x : Made). x.copy) e))
    all m (inr p) = last m (cases_cons p)

    only_last : (r : Record) → (r ≡ copy_first) ⊎ Member r [] → (m : Made) × Member m (made_then []) × (waits m ≡ true) × (m.copy ≡ r)
    only_last r (inl e) = (one, here refl, refl, sym e)
    only_last r (inr p) = absurd (not-nil p)

    only : (r : Record) → (r ≡ original) ⊎ Member r (copy_first ∷ []) → (m : Made) × Member m (made_then []) × (waits m ≡ true) × (m.copy ≡ r)
    only r (inl e) = (two, there (here refl), refl, sym e)
    only r (inr p) = only_last r (cases_cons p)

-- Rewind 2: both pending, word 0 is 1, word 1 is 8
pub document_run :
    ((after four).net.pending ≡ original ∷ copy_first ∷ [])
    × ((after four).net.sent ≡ 1)
    × ((after four).net.delivered ≡ 0)
    × (held (after four).words ≡ 1)
    × (used (after four).words ≡ 8)
unfolding
    to_bits of_bits good_word is_one is_zero threshold_of by_word gen_bool gen_bool_in_send
    is_faulted extras_for extra_at due_at is_tick is_late alone_of both after_replay after_loss decided
    keep every earlier insert_by insert_all dues lost_by replayed_by delayed_by copies effect good_options good_record ahead rising good_counts well_formed
    logged good_header record_words recs undo_words undo_as undo_one checked further undo_all verdict tests if_done do_change rewound do_rewind do_mark step
    run log strike struck reach_by reached replay flat options_by fate_by fates makes made missed_by untaken
document_run =
    let t : Told fate_of options (first ∷ []) (after four).net = known four (first ∷ []) four-stands in (
      exactly_one (made_then []) (after four).net.pending (original ∷ copy_first ∷ []) t.pending both_wait,
      t.counted.sent,
      t.counted.delivered,
      (headed four).0,
      (headed four).1,
    )

-- ---- a mark, a take that is refused for want of room, and a rewind across a take and a second send

abbrev across : List Call
across =
    doubled 10
    ∷ mark
    ∷ change (Net.collect 12 7)
    ∷ taking 12
    ∷ alone 20
    ∷ rewind 2
    ∷ rewind 1
    ∷ taking 12
    ∷ []

abbrev then_taken : List Change
then_taken = first ∷ Net.collect 12 80 ∷ []

across-stands : (answers across ≡ done ∷ done ∷ refused 30 ∷ done ∷ done ∷ done ∷ refused 33 ∷ done ∷ []) × (stands fate_of options rest across ≡ then_taken)
unfolding
    to_bits of_bits good_word is_one is_zero threshold_of by_word gen_bool gen_bool_in_send
    is_faulted extras_for extra_at due_at is_tick is_late alone_of both after_replay after_loss decided
    keep every earlier insert_by insert_all dues lost_by replayed_by delayed_by copies effect good_options good_record ahead rising good_counts well_formed
    logged good_header record_words recs undo_words undo_as undo_one checked further undo_all verdict tests if_done do_change rewound do_rewind do_mark step
    run log strike struck
across-stands = (refl, refl)

-- the copy waits alone, and the original is gone
one_waits : Exactly (made_then (Net.collect 12 80 ∷ [])) (copy_first ∷ [])
unfolding rising every ahead earlier untaken missed_by from
one_waits =
    record {
      rises = refl;
      all = λ (m : Made) (p : Member m ms) (w : waits m ≡ true). all m w (cases_cons p);
      only = λ (r : Record) (p : Member r (copy_first ∷ [])). only r (cases_cons p);
      numbers = refl;
    }
  where
    ms : List Made
    ms = made_then (Net.collect 12 80 ∷ [])

    one : Made
    one = record { copy = copy_first; later = Net.collect 12 80 ∷ [] }

    two : Made
    two = record { copy = original; later = Net.collect 12 80 ∷ [] }

    last : (m : Made) → waits m ≡ true → (m ≡ two) ⊎ Member m [] → Member m.copy (copy_first ∷ [])
    last m w (inl e) =
        let x : false ≡ true = subst (λ (y : Made). waits y ≡ true) e w in
        let z : ◌≡◌ {A = ℕ} 0 1 = cc in absurd (omega arith)
    last m w (inr p) = absurd (not-nil p)

    all : (m : Made) → waits m ≡ true → (m ≡ one) ⊎ Member m (two ∷ []) → Member m.copy (copy_first ∷ [])
    all m w (inl e) = here (ap (λ (x : Made). x.copy) e)
    all m w (inr p) = last m w (cases_cons p)

    only : (r : Record) → (r ≡ copy_first) ⊎ Member r [] → (m : Made) × Member m ms × (waits m ≡ true) × (m.copy ≡ r)
    only r (inl e) = (one, here refl, refl, sym e)
    only r (inr p) = absurd (not-nil p)

pub rewind-across :
    ((after across).net.pending ≡ copy_first ∷ [])
    × ((after across).net.sent ≡ 1)
    × ((after across).net.delivered ≡ 1)
    × (held (after across).words ≡ 1)
    × (used (after across).words ≡ 12)
unfolding
    to_bits of_bits good_word is_one is_zero threshold_of by_word gen_bool gen_bool_in_send
    is_faulted extras_for extra_at due_at is_tick is_late alone_of both after_replay after_loss decided
    keep every earlier insert_by insert_all dues lost_by replayed_by delayed_by copies effect good_options good_record ahead rising good_counts well_formed
    logged good_header record_words recs undo_words undo_as undo_one checked further undo_all verdict tests if_done do_change rewound do_rewind do_mark step
    run log strike struck reach_by reached replay flat options_by fate_by fates makes made missed_by untaken
rewind-across =
    let t : Told fate_of options then_taken (after across).net = known across then_taken across-stands.1 in (
      exactly_one (made_then (Net.collect 12 80 ∷ [])) (after across).net.pending (copy_first ∷ []) t.pending one_waits,
      t.counted.sent,
      t.counted.delivered,
      (headed across).0,
      (headed across).1,
    )

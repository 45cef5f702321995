-- The table's run beside the rule that runs no queue, and some more runs, by computation. Assumes nothing.
use Prim.Native.Nat.{ℕ}
use mathlib.Core.Path.{◌≡◌, refl}
use mathlib.Core.List.{List, [], ◌∷◌, ◌++◌, map}
use mathlib.Core.Bool.{true, false}
use lib.ListN.{length, replicate}
use lib.Ieee.{to_bits, of_bits}
use Rattle.nights.specs.Net
use Rattle.nights.specs.Record.{Record, record_words, recs}
use Rattle.nights.specs.Net.{Options, Letter, twice, send, choose, fresh, keep, every, earlier, insert_by, insert_all, dues, lost_by, replayed_by, delayed_by, copies, effect, good_options, good_record, ahead, rising, good_counts, well_formed}
use Rattle.nights.specs.Journal.{State, Call, change, rewind, mark, held, used, logged, good_header, undo_words, undo_as, undo_one, checked, further, undo_all, do_change, rewound, do_rewind, do_mark, step}
use Rattle.nights.specs.Tests.{Answer, done, refused, verdict, tests, if_done}
use Rattle.nights.specs.Standing.{Entry, strike, struck, reach_by, reached}
use Rattle.nights.specs.Rule.{options_by, options_rule, fate_by, fates, total, makes, made, missed_by, untaken, waits, delivered_rule, sent_rule, lost_rule, replayed_rule, delayed_rule}
use Rattle.nights.specs.Claim.{run, log, log_of, stands, reach}
use Rattle.nights.proofs.Fold.{copy_of}
use Rattle.chance.specs.Probability.{good_word, is_one, is_zero, threshold_of}
use Rattle.chance.specs.Draw.{by_word, gen_bool, gen_bool_in_send}
use Rattle.nights.specs.Draws.{is_faulted, extras_for, extra_at, due_at, is_tick, is_late, alone as alone_of, both, after_replay, after_loss, decided, fate_of}
use Rattle.worked.specs.Table.{options, draws, extras, taking, after}

abbrev pub letter_at : ℕ → Letter
letter_at now = record { now = now; sort = 0; origin = 1; to = 2; kind = 1; handle = 7 }

-- replayed, as in the table's run; lost; alone, with no delay
abbrev pub doubled : ℕ → Call
doubled now = change (send (letter_at now) draws extras)

abbrev pub gone : ℕ → Call
gone now = change (send (letter_at now) (0 ∷ []) [])

abbrev pub alone : ℕ → Call
alone now = change (send (letter_at now) (9223372036854775808 ∷ 9223372036854775808 ∷ []) (0 ∷ []))

-- the words of the table's journal behind its header
abbrev pub rest : List ℕ
rest = replicate 80 9

abbrev pub answers : List Call → List Answer
answers cs = map (λ (x : Entry). x.answer) (log_of fate_of options rest cs)

abbrev pub numbers_of : List Record → List ℕ
numbers_of l = map (λ (r : Record). r.seq) l

abbrev pub ticks_of : List Record → List ℕ
ticks_of l = map (λ (r : Record). r.due) l

-- the copies that wait by the rule, in the order of making
abbrev pub rule_of : List Call → List Record
rule_of cs = map copy_of (keep waits (made fate_of options 0 (stands fate_of options rest cs)))

-- the table's run: every call is accepted, and by the rule too the copy waits after the takes, and both after the rewind
abbrev pub three : List Call
three = doubled 10 ∷ taking 12 ∷ taking 16 ∷ []

abbrev pub four : List Call
four = three ++ (rewind 2 ∷ [])

pub by_the_rule :
    (answers four ≡ done ∷ done ∷ done ∷ done ∷ [])
    × (numbers_of (after three).net.pending ≡ 1 ∷ [])
    × (numbers_of (rule_of three) ≡ 1 ∷ [])
    × (numbers_of (rule_of four) ≡ 1 ∷ 2 ∷ [])
unfolding
    to_bits of_bits good_word is_one is_zero threshold_of by_word gen_bool gen_bool_in_send
    is_faulted extras_for extra_at due_at is_tick is_late alone_of both after_replay after_loss decided
    keep every earlier insert_by insert_all dues lost_by replayed_by delayed_by copies effect good_options good_record ahead rising good_counts well_formed
    logged good_header record_words recs undo_words undo_as undo_one checked further undo_all verdict tests if_done do_change rewound do_rewind do_mark step
    run log strike struck options_by options_rule fate_by fates total makes made missed_by untaken
by_the_rule = (refl, refl, refl, refl)

-- its send, decided
pub decided_so : decided options 10 1 draws extras ≡ record { fate = twice 17 12 true false; draws = 2; extras = 2 }
unfolding
    to_bits of_bits good_word is_one is_zero threshold_of by_word gen_bool gen_bool_in_send
    is_faulted extras_for extra_at due_at is_tick is_late alone_of both after_replay after_loss decided
decided_so = refl

-- the clock goes back: a take at 20, and then a send at 3; a mark; a rewind that is refused, and one that is not
abbrev pub back : List Call
back = doubled 10 ∷ taking 20 ∷ gone 20 ∷ alone 3 ∷ rewind 5 ∷ mark ∷ rewind 1 ∷ doubled 4 ∷ taking 9 ∷ rewind 1 ∷ []

pub clock_goes_back :
    (answers back ≡ done ∷ done ∷ done ∷ done ∷ refused 33 ∷ done ∷ refused 33 ∷ done ∷ done ∷ done ∷ [])
    × (ticks_of (after back).net.pending ≡ 5 ∷ 6 ∷ 11 ∷ [])
    × (numbers_of (after back).net.pending ≡ 3 ∷ 5 ∷ 4 ∷ [])
    × (ticks_of (rule_of back) ≡ 5 ∷ 11 ∷ 6 ∷ [])
    × (numbers_of (rule_of back) ≡ 3 ∷ 4 ∷ 5 ∷ [])
    × (length (stands fate_of options rest back) ≡ 5)
    × (reach fate_of options rest back ≡ 1)
    × (held (after back).words ≡ 1)
    × (sent_rule fate_of options (stands fate_of options rest back) ≡ 4)
    × (replayed_rule fate_of options (stands fate_of options rest back) ≡ 2)
    × (delivered_rule fate_of options (stands fate_of options rest back) ≡ 2)
    × (lost_rule fate_of options (stands fate_of options rest back) ≡ 1)
    × (delayed_rule fate_of options (stands fate_of options rest back) ≡ 2)
unfolding
    to_bits of_bits good_word is_one is_zero threshold_of by_word gen_bool gen_bool_in_send
    is_faulted extras_for extra_at due_at is_tick is_late alone_of both after_replay after_loss decided
    keep every earlier insert_by insert_all dues lost_by replayed_by delayed_by copies effect good_options good_record ahead rising good_counts well_formed
    logged good_header record_words recs undo_words undo_as undo_one checked further undo_all verdict tests if_done do_change rewound do_rewind do_mark step
    run log strike struck reach_by reached options_by options_rule fate_by fates total makes made missed_by untaken
clock_goes_back = (refl, refl, refl, refl, refl, refl, refl, refl, refl, refl, refl, refl, refl)

-- options: all is lost until the change is taken back; bad ones are refused
abbrev pub all_lost : Options
all_lost = record { loss = 0x3ff0_0000_0000_0000; replay = 0; least = 3; mean = 3; faulted = true }

abbrev pub changed : List Call
changed =
    change (choose all_lost)
    ∷ gone 1
    ∷ change (choose (record { loss = 0x3ff0_0000_0000_0001; replay = 0; least = 3; mean = 3; faulted = true }))
    ∷ change (choose (record { loss = 0; replay = 0; least = 4; mean = 3; faulted = true }))
    ∷ []

pub options-change :
    (answers changed ≡ done ∷ done ∷ refused 20 ∷ refused 22 ∷ [])
    × ((after changed).net.lost ≡ 1)
    × ((after changed).net.options.least ≡ 3)
    × (used (after changed).words ≡ 15)
    × ((after (changed ++ (rewind 2 ∷ []))).net ≡ fresh options)
    × (numbers_of (after (changed ++ (rewind 2 ∷ alone 1 ∷ []))).net.pending ≡ 1 ∷ [])
unfolding
    to_bits of_bits good_word is_one is_zero threshold_of by_word gen_bool gen_bool_in_send
    is_faulted extras_for extra_at due_at is_tick is_late alone_of both after_replay after_loss decided
    keep every earlier insert_by insert_all dues lost_by replayed_by delayed_by copies effect good_options good_record ahead rising good_counts well_formed
    logged good_header record_words recs undo_words undo_as undo_one checked further undo_all verdict tests if_done do_change rewound do_rewind do_mark step
    run log
options-change = (refl, refl, refl, refl, refl, refl)

-- the refusals of the journal: on words that no run leaves
abbrev pub on : List ℕ → State
on w = record { net = fresh options; words = w }

pub refusals :
    ((step fate_of (on (0 ∷ 2 ∷ replicate 5 0)) (doubled 10)).answer ≡ refused 32)
    × ((step fate_of (on (0 ∷ 9 ∷ replicate 5 0)) (doubled 10)).answer ≡ refused 31)
    × ((step fate_of (on (1 ∷ 2 ∷ replicate 9 0)) (rewind 1)).answer ≡ refused 31)
    × ((step fate_of (on (1 ∷ 8 ∷ 0 ∷ 0 ∷ 0 ∷ 0 ∷ 1 ∷ 6 ∷ [])) (rewind 2)).answer ≡ refused 33)
    × ((step fate_of (on (1 ∷ 8 ∷ 0 ∷ 0 ∷ 0 ∷ 0 ∷ 1 ∷ 6 ∷ [])) (rewind 1)).answer ≡ refused 31)
    × ((step fate_of (on (1 ∷ 9 ∷ 0 ∷ 0 ∷ 3 ∷ 4 ∷ 2 ∷ 3 ∷ 7 ∷ [])) (rewind 1)).answer ≡ refused 31)
    × ((step fate_of (on (1 ∷ 9 ∷ 0 ∷ 0 ∷ 5 ∷ 4 ∷ 1 ∷ 3 ∷ 7 ∷ [])) (rewind 1)).answer ≡ refused 31)
    × ((step fate_of (on (1 ∷ 9 ∷ 0 ∷ 0 ∷ 3 ∷ 4 ∷ 1 ∷ 3 ∷ 7 ∷ [])) (rewind 1)).answer ≡ done)
    × ((step fate_of (on (0 ∷ [])) mark).answer ≡ refused 32)
    × ((step fate_of (after (doubled 10 ∷ [])) (change (Net.collect 17 15))).answer ≡ refused 30)
    × ((step fate_of (run fate_of (record { net = fresh options; words = 0 ∷ 2 ∷ replicate 400 0 }) (replicate 64 (doubled 10))) (alone 10)).answer ≡ refused 29)
unfolding
    to_bits of_bits good_word is_one is_zero threshold_of by_word gen_bool gen_bool_in_send
    is_faulted extras_for extra_at due_at is_tick is_late alone_of both after_replay after_loss decided
    keep every earlier insert_by insert_all dues lost_by replayed_by delayed_by copies effect good_options good_record ahead rising good_counts well_formed
    logged good_header record_words recs undo_words undo_as undo_one checked further undo_all verdict tests if_done do_change rewound do_rewind do_mark step
    run log
refusals = (refl, refl, refl, refl, refl, refl, refl, refl, refl, refl, refl)

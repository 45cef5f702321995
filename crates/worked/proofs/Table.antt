-- The table of worked numbers holds, by computation. Assumes nothing.
use mathlib.Core.Path.{refl}
use lib.Ieee.{to_bits, of_bits}
use Rattle.numeral.specs.Digits.{is_digit, is_all_digits, value_of}
use Rattle.numeral.specs.Reading.{unsigned, begins_number, stop_from, stop, number_of}
use Rattle.chance.specs.Probability.{good_word, is_one, is_zero, threshold_of}
use Rattle.chance.specs.Draw.{by_word, gen_bool, gen_bool_in_send}
use Rattle.basis.specs.Basis.{plant_count}
use Rattle.plants.specs.State.{tested, none_set, counts_fit}
use Rattle.plants.specs.State as State
use Rattle.plants_lineup.specs.Shuffle.{shuffled_from, picks_within}
use Rattle.plants_lineup.specs.Core.{picks_in_range, ids_from, those, line_up, inserted_id, sorted_ids, core_of, recovering_fit, healthy_count}
use Rattle.plants_liveness.specs.Choice.{member, in_core, newly_set, lent_tested, choice_tested, chosen}
use Rattle.nights.specs.Record.{record_words, recs}
use Rattle.nights.specs.Net.{keep, every, earlier, insert_by, insert_all, dues, lost_by, replayed_by, delayed_by, copies, effect, good_options, good_record, ahead, rising, good_counts, well_formed}
use Rattle.nights.specs.Draws.{is_faulted, extras_for, extra_at, due_at, is_tick, is_late, alone, both, after_replay, after_loss, decided}
use Rattle.nights.specs.Journal.{logged, good_header, undo_words, undo_as, undo_one, checked, further, undo_all, do_change, rewound, do_rewind, do_mark, step}
use Rattle.nights.specs.Tests.{verdict, tests, if_done}
use Rattle.nights.specs.Claim.{run}
use Rattle.worked.specs.Table.{Worked}

pub worked : Worked
unfolding
    number_of stop stop_from begins_number unsigned is_all_digits is_digit value_of
    to_bits of_bits good_word is_one is_zero threshold_of by_word gen_bool gen_bool_in_send
    tested plant_count State.plants_formed none_set counts_fit
    shuffled_from picks_within picks_in_range ids_from those line_up inserted_id sorted_ids core_of
    member in_core newly_set recovering_fit healthy_count lent_tested choice_tested chosen
    is_faulted extras_for extra_at due_at is_tick is_late alone both after_replay after_loss decided
    keep every earlier insert_by insert_all dues lost_by replayed_by delayed_by copies effect good_options good_record ahead rising good_counts well_formed
    logged good_header record_words recs undo_words undo_as undo_one checked further undo_all verdict tests if_done do_change rewound do_rewind do_mark step run
worked =
    record {
      half = refl;
      below_one = refl;
      minus_64 = refl;
      minus_65 = refl;
      minus_65_draws = refl;
      last_pick_0 = refl;
      last_pick_1 = refl;
      four_of_four = refl;
      two_of_five = refl;
      plus_007 = refl;
      comma = refl;
      largest = refl;
      one_more = refl;
      one_more_then_stray = refl;
      no_word = refl;
      plus_alone = refl;
      plus_then_stray = refl;
      draws_used = refl;
      extras_used = refl;
      due_ticks = refl;
      numbers = refl;
      delayed = refl;
      take_12 = refl;
      take_16 = refl;
      words_used = refl;
      both_pending = refl;
      calls_held = refl;
      words_back = refl;
    }

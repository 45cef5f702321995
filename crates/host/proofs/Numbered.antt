-- The numbers are those of the rules. Assumes nothing.
use mathlib.Core.Path.{refl}
use Rattle.properties_verdicts.specs.Verdicts.{property_number, properties_refusal}
use Rattle.host.specs.Numbers.{NetworkNumbered, PlantsNumbered, PropertiesNumbered}

pub network_numbered : NetworkNumbered
network_numbered =
    record {
      loss_not_good = refl;
      replay_not_good = refl;
      minimum_over_mean = refl;
      network_ill_formed = refl;
      kind_or_sort = refl;
      sent_limit = refl;
      too_few_draws = refl;
      too_few_extras = refl;
      due_tick_too_late = refl;
      full = refl;
      output_too_short = refl;
      bad_header_or_record = refl;
      no_room_in_journal = refl;
      rewind_too_far = refl;
    }

pub plants_numbered : PlantsNumbered
plants_numbered =
    record {
      count = refl;
      no_such_plant = refl;
      state_ill_formed = refl;
      count_full = refl;
      no_nonce = refl;
      flags = refl;
      picks_short = refl;
      pick_out_of_range = refl;
      healthy_under_quorum = refl;
      delivered = refl;
      receiver_down = refl;
      cut_off = refl;
    }

pub properties_numbered : PropertiesNumbered
unfolding property_number properties_refusal
properties_numbered =
    record {
      count = refl;
      no_such_plant = refl;
      snapshot = refl;
      tracker = refl;
      commit_number_monotonic = refl;
      committed_prefix_agreement = refl;
      no_duplicate_ops = refl;
      durability = refl;
      convergence = refl;
    }

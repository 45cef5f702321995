-- Options of the code and of the plain form, which has each probability by its word. Assumes nothing.
use Rattle.std.specs.Prelude.{false}
use Rattle.std.specs.Float.{binary64}
use Rattle.std.specs.Float.Ieee.{to_bits, of_bits}
use Rattle.nights.specs.Net.{Options}
use Rattle.network_options.specs.declared.NetworkOptions.{NetworkOptions}

abbrev pub plain_options : NetworkOptions → Options
plain_options o =
    record {
      loss = to_bits binary64 o.packet_loss_probability;
      replay = to_bits binary64 o.packet_replay_probability;
      least = o.one_way_delay_min;
      mean = o.one_way_delay_mean;
      faulted = o.fault_client_messages;
    }

abbrev pub struct_options : Options → NetworkOptions
struct_options o =
    record {
      packet_loss_probability = of_bits binary64 o.loss;
      packet_replay_probability = of_bits binary64 o.replay;
      one_way_delay_min = o.least;
      one_way_delay_mean = o.mean;
      fault_client_messages = o.faulted;
    }

-- the perfect options: zeros and false
abbrev pub perfect_options : Options
perfect_options = record { loss = 0; replay = 0; least = 0; mean = 0; faulted = false }

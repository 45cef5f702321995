-- The parts of being well formed (RULES, "The network"): the options, the records and the counters. A network is well formed exactly if all
-- three hold. Assumes nothing.
use Rattle.std.specs.Prelude.{Bool, ◌&&◌, length}
use Rattle.nights.specs.Net.{Plain, every, good_options, good_record, rising, good_counts}

-- its options are good
abbrev pub options_hold : Plain → Bool
options_hold n = good_options n.options

-- each of its records is good, they rise, and no number stands twice
abbrev pub records_hold : Plain → Bool
records_hold n = every (good_record n.seq) n.pending && rising n.pending

-- its counters are even
abbrev pub counters_hold : Plain → Bool
counters_hold n = good_counts (length n.pending) n.seq n.sent n.delivered n.lost n.replayed n.delayed

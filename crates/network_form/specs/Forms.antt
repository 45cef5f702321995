-- A head and its words, and the plain form of a network: the one of the other, and when a head and its words are well formed (RULES, "The
-- network"). On those that are the maps are each other's inverse. Assumes nothing.
use Rattle.std.specs.Prelude.{ℕ, ◌*◌, Bool, ◌&&◌, List, length, drop, leb}
use Rattle.nights.specs.Record.{record_size, recs}
use Rattle.nights.specs.Net.{capacity, Plain, good_counts, well_formed}
use Rattle.network_queue.specs.Packed.{zeros}
use Rattle.network_options.specs.Options.{plain_options, struct_options}
use Rattle.network_form.specs.declared.Head.{Head}

-- the plain form of a head and its words
abbrev pub plain_in : Head → List ℕ → Plain
plain_in h w =
    record {
      options = plain_options h.options;
      pending = recs w 0 h.pending;
      seq = h.seq;
      sent = h.sent;
      delivered = h.delivered;
      lost = h.lost;
      replayed = h.replayed;
      delayed = h.delayed;
    }

-- the head of a plain form; its words are `packed` of what is pending
abbrev pub head_of : Plain → Head
head_of n =
    record {
      options = struct_options n.options;
      pending = length n.pending;
      seq = n.seq;
      sent = n.sent;
      delivered = n.delivered;
      lost = n.lost;
      replayed = n.replayed;
      delayed = n.delayed;
    }

-- well formed: the plain form is, no more records are said to be pending than there is room for, and the words behind them are 0
unfoldable pub formed_in : Head → List ℕ → Bool
formed_in h w = well_formed (plain_in h w) && (leb h.pending capacity && zeros (drop (record_size * h.pending) w))

-- the part of it that speaks of the counters
abbrev pub counts_good : Head → Bool
counts_good h = good_counts h.pending h.seq h.sent h.delivered h.lost h.replayed h.delayed

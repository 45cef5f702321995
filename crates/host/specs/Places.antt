-- Where each word stands, by the numbers that include/bellmantle.h documents: the 12 of a network's head, the 8 of a record, the 6 of a
-- message of a tick, the 4 that a send tells, and the 49 of a state of plants. Assumes nothing.
use Rattle.std.specs.Prelude.{ℕ, ◌+◌, ◌*◌, ◌<◌, ◌≡◌, false, List, get_or}
use Rattle.std.specs.Float.{binary64}
use Rattle.std.specs.Float.Ieee.{to_bits}
use Rattle.basis.specs.Basis.{bit}
use Rattle.nights.specs.Record.{Record}
use Rattle.nights.specs.Net.{Letter, lost_by, replayed_by}
use Rattle.nights.specs.Draws.{Decided}
use Rattle.network_form.specs.declared.Head.{Head}
use Rattle.plants.specs.declared.Plants.{Plants}

-- the words w are those of the head h
pub record HeadPlaces (w : List ℕ) (h : Head) : Type 0 where
  pub loss : get_or w 0 0 ≡ to_bits binary64 h.options.packet_loss_probability
  pub replay : get_or w 1 0 ≡ to_bits binary64 h.options.packet_replay_probability
  pub least : get_or w 2 0 ≡ h.options.one_way_delay_min
  pub mean : get_or w 3 0 ≡ h.options.one_way_delay_mean
  pub flag : get_or w 4 0 ≡ bit h.options.fault_client_messages
  pub pending : get_or w 5 0 ≡ h.pending
  pub seq : get_or w 6 0 ≡ h.seq
  pub sent : get_or w 7 0 ≡ h.sent
  pub delivered : get_or w 8 0 ≡ h.delivered
  pub lost : get_or w 9 0 ≡ h.lost
  pub replayed : get_or w 10 0 ≡ h.replayed
  pub delayed : get_or w 11 0 ≡ h.delayed

-- the words from place b on are those of the record r
pub record RecordPlaces (w : List ℕ) (b : ℕ) (r : Record) : Type 0 where
  pub due : get_or w b 0 ≡ r.due
  pub seq : get_or w (b + 1) 0 ≡ r.seq
  pub sent_at : get_or w (b + 2) 0 ≡ r.sent_at
  pub sort : get_or w (b + 3) 0 ≡ r.sort
  pub origin : get_or w (b + 4) 0 ≡ r.origin
  pub to : get_or w (b + 5) 0 ≡ r.to
  pub kind : get_or w (b + 6) 0 ≡ r.kind
  pub handle : get_or w (b + 7) 0 ≡ r.handle

-- the words of the message number i of a list are those of the letter m
pub record MessagePlaces (w : List ℕ) (i : ℕ) (m : Letter) : Type 0 where
  pub now : get_or w (i * 6) 0 ≡ m.now
  pub sort : get_or w (i * 6 + 1) 0 ≡ m.sort
  pub origin : get_or w (i * 6 + 2) 0 ≡ m.origin
  pub to : get_or w (i * 6 + 3) 0 ≡ m.to
  pub kind : get_or w (i * 6 + 4) 0 ≡ m.kind
  pub handle : get_or w (i * 6 + 5) 0 ≡ m.handle

-- the words w are what a decided send tells
pub record ToldPlaces (w : List ℕ) (d : Decided) : Type 0 where
  pub lost : get_or w 0 0 ≡ lost_by d.fate
  pub replayed : get_or w 1 0 ≡ replayed_by d.fate
  pub draws : get_or w 2 0 ≡ d.draws
  pub extras : get_or w 3 0 ≡ d.extras

-- the words w are those of the plants s, of which plant i has a word in each of the three rows of 15
pub record PlantsPlaces (w : List ℕ) (s : Plants) : Type 0 where
  pub n : get_or w 0 0 ≡ s.n
  pub up : (i : ℕ) → i < 15 → get_or w (1 + i) 0 ≡ bit (get_or s.up i false)
  pub partitioned : (i : ℕ) → i < 15 → get_or w (16 + i) 0 ≡ bit (get_or s.partitioned i false)
  pub stable : (i : ℕ) → i < 15 → get_or w (31 + i) 0 ≡ get_or s.stable_until i 0
  pub crashes : get_or w 46 0 ≡ s.crashes
  pub restarts : get_or w 47 0 ≡ s.restarts
  pub reboots : get_or w 48 0 ≡ s.reboots

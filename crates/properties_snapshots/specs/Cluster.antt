-- What the properties look at: the plants with their logs, and what the tracker remembers of earlier ticks; and how the lent words hold them.
-- Assumes nothing.
use Rattle.std.specs.Prelude.{Bool, false, ◌&&◌, List, [], ◌∷◌, ◌++◌, ℕ, eqb, get_or}
use Rattle.properties_snapshots.specs.Below.{numbered}
use Rattle.properties_snapshots.specs.Layout.{client_at, request_at, id_at, body_at, log_entries, recovering_at, commit_at, op_at, size_at, entry_at, length_at, last_at, canonical_at, seen_at}

-- a log entry: the request of a client, and the op that it asks for
pub record LogEntry : Type 0 where
  pub client : ℕ
  pub request : ℕ
  pub id : ℕ
  pub body : ℕ

-- a plant: it holds a log, of which the first `commit` entries are committed
pub record Plant : Type 0 where
  pub recovering : Bool
  pub commit : ℕ
  pub op : ℕ
  pub log : List LogEntry

-- what is remembered: the union of all committed prefixes seen so far, and for each plant how many entries are verified, and their op ids
pub record Tracker : Type 0 where
  pub canonical : List LogEntry
  pub lasts : List ℕ
  pub seen : List (List ℕ)

pub record Cluster : Type 0 where
  pub size : ℕ
  pub plants : List Plant
  pub tracker : Tracker

-- two entries are equal in every word
unfoldable pub same_entry : LogEntry → LogEntry → Bool
same_entry a b =
    eqb a.client b.client && eqb a.request b.request && eqb a.id b.id && eqb a.body b.body

-- an entry's words
abbrev pub words_of_entry : LogEntry → List ℕ
words_of_entry e = e.client ∷ e.request ∷ e.id ∷ e.body ∷ []

unfoldable pub words_of_entries : List LogEntry → List ℕ
words_of_entries [] = []
words_of_entries (e ∷ es) = words_of_entry e ++ words_of_entries es

-- what stands where there is no entry or no plant; no answer depends on it
abbrev pub no_entry : LogEntry
no_entry = record { client = 0; request = 0; id = 0; body = 0 }

abbrev pub no_plant : Plant
no_plant = record { recovering = false; commit = 0; op = 0; log = [] }

-- the parts of a cluster by plant and index
unfoldable pub plant : Cluster → ℕ → Plant
plant c r = get_or c.plants r no_plant

unfoldable pub entry : Cluster → ℕ → ℕ → LogEntry
entry c r i = get_or (plant c r).log i no_entry

unfoldable pub last : Cluster → ℕ → ℕ
last c r = get_or c.tracker.lasts r 0

unfoldable pub seen_id : Cluster → ℕ → ℕ → ℕ
seen_id c r i = get_or (get_or c.tracker.seen r []) i 0

-- the entry that stands from a place of the words on
abbrev pub entry_in : List ℕ → ℕ → LogEntry
entry_in w b =
    record { client = get_or w (client_at b) 0; request = get_or w (request_at b) 0; id = get_or w (id_at b) 0; body = get_or w (body_at b) 0 }

-- plant r in the plant and log words: as many entries as its length says, whatever words lie past them
unfoldable pub plant_in : List ℕ → List ℕ → ℕ → Plant
plant_in p l r =
    record {
      recovering = eqb (get_or p (recovering_at r) 0) 1;
      commit = get_or p (commit_at r) 0;
      op = get_or p (op_at r) 0;
      log = numbered (get_or p (size_at r) 0) (λ i. entry_in l (entry_at r i));
    }

-- the tracker's words
unfoldable pub tracker_in : ℕ → List ℕ → Tracker
tracker_in n t =
    record {
      canonical = numbered (get_or t length_at 0) (λ i. entry_in t (canonical_at n i));
      lasts = numbered n (λ r. get_or t (last_at r) 0);
      seen = numbered n (λ r. numbered log_entries (λ i. get_or t (seen_at n r i) 0));
    }

abbrev pub cluster_in : ℕ → List ℕ → List ℕ → List ℕ → Cluster
cluster_in n p l t = record { size = n; plants = numbered n (plant_in p l); tracker = tracker_in n t }

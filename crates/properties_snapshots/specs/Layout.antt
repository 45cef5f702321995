-- Where the lent words of a snapshot and of the tracker stand (RULES, "Properties"): the widths and the offsets, each said once. Entries of
-- another width change `entry_words` and the places of an entry's words, and nothing else here. Assumes nothing.
use Rattle.std.specs.Prelude.{ℕ, ◌+◌, ◌*◌}

-- an entry is client, request, op id and op body
abbrev pub entry_words : ℕ
entry_words = 4

-- the words of the entry that stands from a place on
abbrev pub client_at : ℕ → ℕ
client_at place = place

abbrev pub request_at : ℕ → ℕ
request_at place = place + 1

abbrev pub id_at : ℕ → ℕ
id_at place = place + 2

abbrev pub body_at : ℕ → ℕ
body_at place = place + 3

-- a log and the canonical part have room for 128 of them
abbrev pub log_entries : ℕ
log_entries = 128

abbrev pub log_words : ℕ
log_words = log_entries * entry_words

-- a plant is recovering, commit, op number and log length
abbrev pub plant_words : ℕ
plant_words = 4

abbrev pub recovering_at : ℕ → ℕ
recovering_at r = r * plant_words

abbrev pub commit_at : ℕ → ℕ
commit_at r = r * plant_words + 1

abbrev pub op_at : ℕ → ℕ
op_at r = r * plant_words + 2

abbrev pub size_at : ℕ → ℕ
size_at r = r * plant_words + 3

-- the entry of plant r at index i
abbrev pub entry_at : ℕ → ℕ → ℕ
entry_at r i = r * log_words + i * entry_words

-- the tracker: n, the canonical length, n last commits, the canonical entries, and for each plant the ids seen
abbrev pub count_at : ℕ
count_at = 0

abbrev pub length_at : ℕ
length_at = 1

abbrev pub lasts_at : ℕ
lasts_at = 2

abbrev pub last_at : ℕ → ℕ
last_at r = lasts_at + r

abbrev pub canonical_at : ℕ → ℕ → ℕ
canonical_at n i = lasts_at + n + i * entry_words

abbrev pub seen_at : ℕ → ℕ → ℕ → ℕ
seen_at n r i = lasts_at + n + log_words + r * log_entries + i

abbrev pub tracker_words : ℕ → ℕ
tracker_words n = lasts_at + n + log_words + n * log_entries

-- The network in its plain form (RULES, "The network"): its options, its pending records in delivery order, its counters; what a
-- send, a take and a change of options do to it; and when it is well formed. What a send's draws and extras make of it, its fate,
-- is a parameter here, and `Draws` says what it is. Assumes nothing.
use Rattle.std.specs.Prelude.{ℕ, ◌+◌, ◌^◌, List, [], ◌∷◌, Bool, true, false, cond, ◌&&◌, not, length, leb, ltb, eqb}
use Rattle.basis.specs.Basis.{bit}
use Rattle.chance.specs.Probability.{good_word}
use Rattle.nights.specs.Record.{Record}

-- so many records can be pending, and so many messages sent
abbrev pub capacity : ℕ
capacity = 128

abbrev pub sent_limit : ℕ
sent_limit = 2 ^ 62

-- the kinds are 0 to 10, and the sorts of an origin 0 and 1
abbrev pub last_kind : ℕ
last_kind = 10

abbrev pub last_sort : ℕ
last_sort = 1

-- the two probabilities by their words, the two delays, and whether client messages are faulted
pub record Options : Type 0 where
  pub loss : ℕ
  pub replay : ℕ
  pub least : ℕ
  pub mean : ℕ
  pub faulted : Bool

pub record Plain : Type 0 where
  pub options : Options
  pub pending : List Record
  pub seq : ℕ
  pub sent : ℕ
  pub delivered : ℕ
  pub lost : ℕ
  pub replayed : ℕ
  pub delayed : ℕ

-- a fresh network: its options, and zeros
abbrev pub fresh : Options → Plain
fresh o = record { options = o; pending = []; seq = 0; sent = 0; delivered = 0; lost = 0; replayed = 0; delayed = 0 }

-- those of a list that pass a test, in the list's order; and whether all do
module _ {A : Type 0} where
  unfoldable pub keep : (A → Bool) → List A → List A
  keep p [] = []
  keep p (x ∷ xs) = cond (p x) (x ∷ keep p xs) (keep p xs)

  unfoldable pub every : (A → Bool) → List A → Bool
  every p [] = true
  every p (x ∷ xs) = p x && every p xs

-- x stands before the key (d, q): by due tick, then by seq
unfoldable pub earlier : Record → ℕ → ℕ → Bool
earlier x d q = cond (ltb x.due d) true (cond (ltb d x.due) false (ltb x.seq q))

-- a record put into its place, and several, one after the other
unfoldable pub insert_by : Record → List Record → List Record
insert_by r [] = r ∷ []
insert_by r (x ∷ xs) = cond (earlier x r.due r.seq) (x ∷ insert_by r xs) (r ∷ x ∷ xs)

unfoldable pub insert_all : List Record → List Record → List Record
insert_all [] l = l
insert_all (r ∷ rs) l = insert_all rs (insert_by r l)

-- What the draws and the extras make of a send: a refusal with its number; a loss; the original alone; or the copy before the
-- original. Each with its due tick, and whether its extra was above 0.
pub data Fate : Type 0 where
  refuse : ℕ → Fate
  lose : Fate
  once : (due : ℕ) (late : Bool) → Fate
  twice : (copy original : ℕ) (copy_late original_late : Bool) → Fate

-- the due ticks of the copies that a fate queues, in the order of their numbers; and what it adds to the counters
unfoldable pub dues : Fate → List ℕ
dues (refuse k) = []
dues lose = []
dues (once d x) = d ∷ []
dues (twice c d x y) = c ∷ d ∷ []

unfoldable pub lost_by : Fate → ℕ
lost_by (refuse k) = 0
lost_by lose = 1
lost_by (once d x) = 0
lost_by (twice c d x y) = 0

unfoldable pub replayed_by : Fate → ℕ
replayed_by (refuse k) = 0
replayed_by lose = 0
replayed_by (once d x) = 0
replayed_by (twice c d x y) = 1

unfoldable pub delayed_by : Fate → ℕ
delayed_by (refuse k) = 0
delayed_by lose = 0
delayed_by (once d x) = bit x
delayed_by (twice c d x y) = bit x + bit y

-- the draw rules: the fate by the options, the clock, the kind, the lent draws and the lent extras
abbrev pub Draws : Type 0
Draws = Options → ℕ → ℕ → List ℕ → List ℕ → Fate

-- what a send is told
pub record Letter : Type 0 where
  pub now : ℕ
  pub sort : ℕ
  pub origin : ℕ
  pub to : ℕ
  pub kind : ℕ
  pub handle : ℕ

-- the copy of a letter that is due at a tick, under a number; and the copies, one for each due tick, numbered from q + 1
abbrev pub copy_at : Letter → (due seq : ℕ) → Record
copy_at m d q =
    record { due = d; seq = q; sent_at = m.now; sort = m.sort; origin = m.origin; to = m.to; kind = m.kind; handle = m.handle }

unfoldable pub copies : Letter → ℕ → List ℕ → List Record
copies m q [] = []
copies m q (d ∷ ds) = copy_at m d (q + 1) ∷ copies m (q + 1) ds

-- the three calls that a rewind can undo, with all that the host lends: `room` is the length of the lent output
pub data Change : Type 0 where
  send : (m : Letter) (draws extras : List ℕ) → Change
  collect : (now room : ℕ) → Change
  choose : (o : Options) → Change

-- a record is due at a tick, or later
abbrev pub is_due : ℕ → Record → Bool
is_due now r = leb r.due now

abbrev pub is_later : ℕ → Record → Bool
is_later now r = not (leb r.due now)

-- the queueing of a fate: the copies in their places, the counters up
abbrev pub send_one : Letter → Fate → Plain → Plain
send_one m f n =
    record {
      options = n.options;
      pending = insert_all (copies m n.seq (dues f)) n.pending;
      seq = n.seq + length (dues f);
      sent = n.sent + 1;
      delivered = n.delivered;
      lost = n.lost + lost_by f;
      replayed = n.replayed + replayed_by f;
      delayed = n.delayed + delayed_by f;
    }

abbrev pub take_due : ℕ → Plain → Plain
take_due now n =
    record {
      options = n.options;
      pending = keep (is_later now) n.pending;
      seq = n.seq;
      sent = n.sent;
      delivered = n.delivered + length (keep (is_due now) n.pending);
      lost = n.lost;
      replayed = n.replayed;
      delayed = n.delayed;
    }

abbrev pub set_options : Options → Plain → Plain
set_options o n =
    record {
      options = o;
      pending = n.pending;
      seq = n.seq;
      sent = n.sent;
      delivered = n.delivered;
      lost = n.lost;
      replayed = n.replayed;
      delayed = n.delayed;
    }

-- the network after an accepted call
unfoldable pub effect : Draws → Change → Plain → Plain
effect fate (send m draws extras) n = send_one m (fate n.options m.now m.kind draws extras) n
effect fate (collect now room) n = take_due now n
effect fate (choose o) n = set_options o n

-- WELL FORMED

-- both probabilities good, and the least delay at most the mean
unfoldable pub good_options : Options → Bool
good_options o = good_word o.loss && (good_word o.replay && leb o.least o.mean)

-- a record's seq is from 1 to the network's, and its kind and sort are among those there are
unfoldable pub good_record : ℕ → Record → Bool
good_record q r = leb 1 r.seq && (leb r.seq q && (leb r.kind last_kind && leb r.sort last_sort))

-- the records rise strictly in (due, seq), and no seq stands twice
unfoldable pub ahead : Record → Record → Bool
ahead x y = earlier x y.due y.seq && not (eqb x.seq y.seq)

unfoldable pub rising : List Record → Bool
rising [] = true
rising (x ∷ xs) = every (ahead x) xs && rising xs

-- the counters, over whole numbers: none of these sums wraps
unfoldable pub good_counts : (pending seq sent delivered lost replayed delayed : ℕ) → Bool
good_counts p q s d l r y =
    leb p capacity
    && (leb s sent_limit && (leb l s && (leb r s && (eqb (s + r) (d + l + p) && (eqb q (d + p) && leb y q)))))

unfoldable pub well_formed : Plain → Bool
well_formed n =
    good_options n.options
    && (every (good_record n.seq) n.pending
    && (rising n.pending
    && good_counts (length n.pending) n.seq n.sent n.delivered n.lost n.replayed n.delayed))

-- Exported calls on a network's words, one after the other, each on the head and the records that the last one left, be it refused or
-- not; and what words are in form (RULES, "The host's boundary"). Assumes nothing.
use Rattle.std.specs.Prelude.{ℕ, ◌≡◌, true, cond, List, [], ◌∷◌, eqb, length, get_or}
use Rattle.nights.specs.Net.{Options, Plain, Letter, Change, send, collect, choose, effect, well_formed}
use Rattle.nights.specs.Draws.{fate_of}
use Rattle.nights.specs.Tests.{Answer}
use Rattle.network_queue.specs.Packed.{array_size}
use Rattle.network_form.specs.Forms.{plain_in, formed_in}
use Rattle.network_form.specs.Calls.{answer_in}
use Rattle.network_layout.specs.Layout.{head_size, head_fits, head_in, if_head}
use Rattle.network_words.specs.Calls.{Rows, option_rows, send_rows, take_rows}

-- a call that changes a network, with all that the host lends beside the network's words
pub data Exported : Type 0 where
  sending : (m : Letter) (draws extras told : List ℕ) → Exported
  taking : (tick : ℕ) (out told : List ℕ) → Exported
  choosing : (o : Options) → Exported

-- the same call of the plain form
abbrev pub change_of : Exported → Change
change_of (sending m draws extras told) = send m draws extras
change_of (taking tick out told) = collect tick (length out)
change_of (choosing o) = choose o

-- a head and records as rows
abbrev pub rows_of : (h r : List ℕ) → Rows
rows_of h r = record { number = 0; head = h; records = r; out = []; told = [] }

-- what a call answers and leaves, on the head and the records of rows
abbrev pub on_rows : Rows → Exported → Rows
on_rows t (sending m draws extras told) = send_rows t.head t.records m draws extras told
on_rows t (taking tick out told) = take_rows t.head t.records tick out told
on_rows t (choosing o) = option_rows t.head t.records o

-- its answer, by the call on the head and the records that the words are
abbrev pub answer_on : Rows → Exported → Answer
answer_on t c = if_head t.head (answer_in (change_of c) (head_in t.head) t.records)

-- where a send tells how many draws and how many extras it used
abbrev pub draws_told : Rows → ℕ
draws_told t = get_or t.told 2 0

abbrev pub extras_told : Rows → ℕ
extras_told t = get_or t.told 3 0

-- the rows as they are lent to a call: one that it is not lent is empty
abbrev pub out_of : Exported → List ℕ
out_of (sending m draws extras told) = []
out_of (taking tick out told) = out
out_of (choosing o) = []

abbrev pub told_of : Exported → List ℕ
told_of (sending m draws extras told) = told
told_of (taking tick out told) = told
told_of (choosing o) = []

abbrev pub lent_to : Exported → Rows → Rows
lent_to c t = record { number = 0; head = t.head; records = t.records; out = out_of c; told = told_of c }

-- calls one after the other: the rows that the last one leaves, and those that were accepted, as calls of the plain form
unfoldable pub after_calls : Rows → List Exported → Rows
after_calls t [] = t
after_calls t (c ∷ cs) = after_calls (on_rows t c) cs

unfoldable pub accepted_of : Rows → List Exported → List Change
accepted_of t [] = []
accepted_of t (c ∷ cs) =
    cond (eqb (on_rows t c).number 0) (change_of c ∷ accepted_of (on_rows t c) cs) (accepted_of (on_rows t c) cs)

-- the plain form after accepted calls
unfoldable pub effects : Plain → List Change → Plain
effects n [] = n
effects n (c ∷ cs) = effects (effect fate_of c n) cs

-- words in form: a head of 12 and 1,024 of records, which every call takes for a well-formed network, this one
pub record InForm (h r : List ℕ) (n : Plain) : Type 0 where
  pub head : length h ≡ head_size
  pub records : length r ≡ array_size
  pub fits : head_fits h ≡ true
  pub formed : formed_in (head_in h) r ≡ true
  pub plain : plain_in (head_in h) r ≡ n
  pub well : well_formed n ≡ true

-- rows that a call left as they were lent to it
pub record Unchanged (left came : Rows) : Type 0 where
  pub head : left.head ≡ came.head
  pub records : left.records ≡ came.records
  pub out : left.out ≡ came.out
  pub told : left.told ≡ came.told

-- The answer of a call, and the tests 20 to 30 of a send, a take and a change of options, in their order (RULES, "Refusal numbers"):
-- the first that fails answers. 23, the network's own test, comes before them; those of the journal come behind. Assumes nothing.
use Rattle.std.specs.Prelude.{ℕ, ◌+◌, ◌*◌, List, [], ◌∷◌, Bool, true, false, cond, ◌&&◌, length, leb, ltb}
use Rattle.chance.specs.Probability.{good_word}
use Rattle.nights.specs.Record.{record_size}
use Rattle.nights.specs.Net.{capacity, sent_limit, last_kind, last_sort, Options, Plain, keep, Fate, refuse, lose, once, twice, dues, Draws, Letter, Change, send, collect, choose, is_due}

-- a call's answer
pub data Answer : Type 0 where
  done : Answer
  refused : ℕ → Answer

-- what a call leaves: the new thing if it is done, and otherwise the old one
unfoldable pub if_done : {A : Type 0} → Answer → (new old : A) → A
if_done done new old = new
if_done (refused k) new old = old

-- a test and the number of its refusal; the first that fails answers
pub record Test : Type 0 where
  pub passes : Bool
  pub number : ℕ

unfoldable pub verdict : List Test → Answer
verdict [] = done
verdict (t ∷ ts) = cond t.passes (verdict ts) (refused t.number)

abbrev pub allowed : Fate → Bool
allowed (refuse k) = false
allowed lose = true
allowed (once d x) = true
allowed (twice c d x y) = true

abbrev pub refusal : Fate → ℕ
refusal (refuse k) = k
refusal lose = 0
refusal (once d x) = 0
refusal (twice c d x y) = 0

abbrev pub send_tests : Letter → Fate → Plain → List Test → List Test
send_tests m f n more =
    record { passes = leb m.kind last_kind && leb m.sort last_sort; number = 24 }
    ∷ record { passes = ltb n.sent sent_limit; number = 25 }
    ∷ record { passes = allowed f; number = refusal f }
    ∷ record { passes = leb (length n.pending + length (dues f)) capacity; number = 29 }
    ∷ more

abbrev pub option_tests : Options → List Test → List Test
option_tests o more =
    record { passes = good_word o.loss; number = 20 }
    ∷ record { passes = good_word o.replay; number = 21 }
    ∷ record { passes = leb o.least o.mean; number = 22 }
    ∷ more

-- the tests of a call, in order: after that of the network and before those of the journal
unfoldable pub tests : Draws → Change → Plain → List Test → List Test
tests fate (send m draws extras) n more = send_tests m (fate n.options m.now m.kind draws extras) n more
tests fate (collect now room) n more =
    record { passes = leb (record_size * length (keep (is_due now) n.pending)) room; number = 30 } ∷ more
tests fate (choose o) n more = option_tests o more

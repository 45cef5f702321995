-- The standing list (RULES, "Journal"): what stands of any calls, from the calls and their answers alone. Assumes nothing.
use Rattle.std.specs.Prelude.{ℕ, ◌+◌, ◌-◌, List, [], ◌∷◌, reverse, drop}
use Rattle.nights.specs.Net.{Change}
use Rattle.nights.specs.Tests.{Answer, done, refused}
use Rattle.nights.specs.Journal.{Call, change, rewind, mark}

pub record Entry : Type 0 where
  pub call : Call
  pub answer : Answer

-- the newest first: a refused call is struck out, an accepted rewind of k strikes out the last k that stand, a mark nothing
unfoldable pub strike : List Change → Call → Answer → List Change
strike st (change c) done = c ∷ st
strike st (change c) (refused k) = st
strike st (rewind k) done = drop k st
strike st (rewind k) (refused j) = st
strike st mark done = st
strike st mark (refused k) = st

unfoldable pub struck : List Change → List Entry → List Change
struck st [] = st
struck st (x ∷ xs) = struck (strike st x.call x.answer) xs

-- the oldest first
abbrev pub standing : List Entry → List Change
standing xs = reverse (struck [] xs)

-- how many of them stand since the last mark: so far a rewind can go
unfoldable pub reach_by : ℕ → Call → Answer → ℕ
reach_by n (change c) done = n + 1
reach_by n (change c) (refused k) = n
reach_by n (rewind k) done = n - k
reach_by n (rewind k) (refused j) = n
reach_by n mark done = 0
reach_by n mark (refused k) = n

unfoldable pub reached : ℕ → List Entry → ℕ
reached n [] = n
reached n (x ∷ xs) = reached (reach_by n x.call x.answer) xs

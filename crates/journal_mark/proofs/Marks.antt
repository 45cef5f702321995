-- What a mark leaves, in words that are long enough and in words that are not. Assumes nothing.
use Prim.Native.Nat.{ℕ, ◌≤◌, ◌<◌}
use mathlib.Core.Path.{◌≡◌}
use mathlib.Core.List.{List, ◌∷◌}
use borrow.Author.Tests.{le-leb, lt-leb}
use lib.ListN.{length, drop}
use Rattle.nights.specs.Net.{fresh}
use Rattle.nights.specs.Tests.{done, refused}
use Rattle.nights.specs.Journal.{do_mark, step}
use Rattle.network_options.specs.Options.{perfect_options}
use Rattle.journal_calls.specs.Calls.{marked}

module _ (w : List ℕ) where
  pub mark_short : length w < 2 → marked w ≡ record { state = record { net = fresh perfect_options; words = w }; answer = refused 32 }
  unfolding step do_mark
  mark_short h = rw (lt-leb 2 (length w) h)

  pub mark_long : 2 ≤ length w → marked w ≡ record { state = record { net = fresh perfect_options; words = 0 ∷ 2 ∷ drop 2 w }; answer = done }
  unfolding step do_mark
  mark_long h = rw (le-leb 2 (length w) h)

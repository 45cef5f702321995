-- What the code's undoing tells of the words that it left, in the plain form. Assumes nothing.
use Rattle.std.specs.Prelude.{ℕ, List, Option, Some, None}
use Rattle.nights.specs.Journal.{Undone as Told, misfit, undone}
use Rattle.network_form.specs.Forms.{plain_in}
use Rattle.journal_tests.specs.declared.Undone.{Undone}

-- the network from before and where its records start, if they fit
unfoldable pub undone_in : Option Undone → List ℕ → Told
undone_in None w = misfit
undone_in (Some u) w = undone (plain_in u.head w) u.start

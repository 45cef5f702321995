-- `journal_rewind::rewind` meets its contract: the rewind in place, on a copy of the records. Assumes nothing.
use mathlib.Core.Path.{sym}
use Rattle.nights.specs.Journal.{rewind}
use Rattle.journal_rewind.proofs.Rewinds.{stays}
use Rattle.journal_rewind.proofs.rewind.Goals as goal

pub returns-in-Err-clause-network : goal.returns-in-Err-clause-network
returns-in-Err-clause-network c = stays (rewind c.args.k) c.args.network c.args.journal.now _ (sym c.in-Err.ensures.answer)

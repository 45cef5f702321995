-- The word of each sort of a record (RULES, "Journal"), and the sort of a word. Assumes nothing.
use Rattle.std.specs.Prelude.{ℕ, Option, Some, None, cond, eqb}
use Rattle.journal_ledger.specs.declared.Sort.{Sort}
use Rattle.journal_ledger.specs.declared.Sort.TheVariants.{Send, Take, Options}

abbrev pub sort_number : Sort → ℕ
sort_number Send = 1
sort_number Take = 2
sort_number Options = 3

abbrev pub sort_of : ℕ → Option Sort
sort_of k = cond (eqb k 1) (Some Send) (cond (eqb k 2) (Some Take) (cond (eqb k 3) (Some Options) None))

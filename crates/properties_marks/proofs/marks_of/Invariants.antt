use Rattle.std.proofs.Common.{◌≡◌, ◌<◌, ℕ, length, get_or}
use Rattle.properties_marks.specs.Marks.{marks, Marked}
use Rattle.properties_marks.proofs.marks_of.Given as goal

abbrev pub invariant-loop-id : goal.invariant-loop-id
invariant-loop-id l = (length l.seen ≡ marks) × ((j : ℕ) → j < l.id-index → Marked l.seen (get_or l.ids j 0))

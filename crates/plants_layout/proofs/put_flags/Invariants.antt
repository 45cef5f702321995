use Rattle.std.proofs.Common.{◌≡◌}
use lib.Seq.{paste}
use Rattle.plants_layout.specs.Layout.{bits}
use Rattle.plants_layout.proofs.put_flags.Given as goal

-- The flags written so far stand from the place on.
abbrev pub invariant-loop-i : goal.invariant-loop-i
invariant-loop-i l = l.words ≡ paste l.initial.words l.at (bits l.flags) l.i

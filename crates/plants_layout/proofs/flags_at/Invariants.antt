use Rattle.std.proofs.Common.{◌≡◌, false, take, drop}
use Rattle.std.proofs.Math.ListN.{replicate}
use lib.Seq.{paste}
use Rattle.plants_layout.specs.Layout.{flags_in}
use Rattle.plants_layout.proofs.flags_at.Given as goal

-- The flags read so far stand in front.
abbrev pub invariant-loop-i : goal.invariant-loop-i
invariant-loop-i l = l.flag-items ≡ paste (replicate 15 false) 0 (flags_in (take 15 (drop l.at l.words))) l.i

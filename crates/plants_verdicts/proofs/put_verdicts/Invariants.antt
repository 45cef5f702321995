use Rattle.std.proofs.Common.{◌≡◌, map, length}
use lib.Seq.{paste}
use Rattle.nights.specs.Record.{recs}
use Rattle.plants_verdicts.specs.Calls.{told_on}
use Rattle.plants_verdicts.proofs.put_verdicts.Given as goal

-- The verdicts told so far stand in front.
abbrev pub invariant-loop-i : goal.invariant-loop-i
invariant-loop-i l = l.told ≡ paste l.initial.told 0 (map (told_on l.words) (recs l.records 0 (length l.initial.told))) l.i

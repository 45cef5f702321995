use Rattle.std.proofs.Common.{◌≡◌, ◌++◌, length, take}
use Rattle.plants_lineup.specs.Core.{those, has_flag}
use Rattle.plants_lineup.proofs.Walks.{Written}
use Rattle.plants_lineup.proofs.append.Given as goal

-- Those found so far stand behind the front, and what was there behind them.
abbrev pub invariant-loop-id : goal.invariant-loop-id
invariant-loop-id l = (length l.line ≡ length l.initial.line) × Written (take l.at l.initial.line ++ those (has_flag l.flags l.flag) (take l.id-index l.ids)) l.initial.line l.count l.line

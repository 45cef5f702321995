use Rattle.std.proofs.Common.{◌≡◌, ◌-◌, true, drop}
use Rattle.plants_lineup.specs.Shuffle.{shuffled_from, picks_within}
use Rattle.plants_lineup.proofs.shuffle.Given as goal

-- What is still to be swapped, of what is swapped, is the whole shuffle.
abbrev pub invariant-loop-at : goal.invariant-loop-at
invariant-loop-at l =
    (picks_within (l.last - l.at) (drop l.at l.picks) ≡ true)
    × (shuffled_from (l.last - l.at) (drop l.at l.picks) l.list ≡ shuffled_from l.last l.picks l.initial.list)

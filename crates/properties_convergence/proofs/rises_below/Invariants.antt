use mathlib.Core.Path.{◌≡◌}
use lib.ListN.{drop}
use Rattle.properties_convergence.specs.Core.{rises_below}
use Rattle.properties_convergence.proofs.rises_below.Given as goal

-- what is left of the ids, from the least that may follow, says what all of them say
abbrev pub invariant-loop-word : goal.invariant-loop-word
invariant-loop-word l = rises_below l.n 0 l.core ≡ rises_below l.n l.least (drop l.word-index l.core)

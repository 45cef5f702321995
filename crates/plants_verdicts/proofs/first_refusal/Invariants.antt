use Rattle.std.proofs.Common.{◌≡◌, map}
use Rattle.nights.specs.Record.{recs}
use Rattle.plants_verdicts.specs.Calls.{answer_on, state_answer, first_answer}
use Rattle.plants_verdicts.proofs.Each.{asked}
use Rattle.plants_verdicts.proofs.first_refusal.Given as goal

-- What is left to ask decides.
abbrev pub invariant-loop-i : goal.invariant-loop-i
invariant-loop-i l =
    first_answer (map (answer_on l.words) (recs l.records 0 l.count)) (state_answer l.words) ≡ asked (answer_on l.words) l.records l.count (state_answer l.words) l.i

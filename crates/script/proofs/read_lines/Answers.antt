-- `script::read_lines` meets its contract. The loop's invariant is the reading under way (Reading): the events of the lines passed stand at the
-- front of the held words, and the lines left say the rest. Assumes nothing.
use Rattle.std.proofs.Common.{arith}
use Rattle.std.proofs.lemmas.Grind.{common_steps}
use Rattle.script.proofs.Reading.{starts, ends_in, roomy, stops, goes_on, answers, all_written}
use Rattle.script.proofs.read_lines.Goals as goal

pub loop-at-init : goal.loop-at-init
loop-at-init c = starts c.args.room c.args.text.now c.args.held.now c.requires.0 c.requires.1

pub slice_bounds-read_line-end : goal.slice_bounds-read_line-end
slice_bounds-read_line-end c = ends_in c.loop-at.invariant c.loop-at-test.true c.find-end.ensures

pub read_line-requires : goal.read_line-requires
read_line-requires c = roomy c.loop-at.invariant c.loop-at-test.true c.find-end.ensures

pub returns-in_err-found-clause-answer : goal.returns-in_err-found-clause-answer
returns-in_err-found-clause-answer c =
    grind (arith, common_steps, stops c.loop-at.invariant c.loop-at-test.true c.find-end.ensures)

pub loop-at-preserved : goal.loop-at-preserved
loop-at-preserved c = let w = c.read_line in
    goes_on c.loop-at.invariant c.loop-at-test.true c.find-end.ensures w.new.held c.in_ok-found.found
    (grind (arith, common_steps)) (grind (arith, common_steps))

pub returns-clause-answer : goal.returns-clause-answer
returns-clause-answer c = answers c.loop-at.invariant c.loop-at-test.false

pub returns-clause-words : goal.returns-clause-words
returns-clause-words c = λ ok. all_written c.loop-at.invariant c.loop-at-test.false

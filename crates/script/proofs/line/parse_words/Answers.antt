-- `script::line::parse_words` meets its contract, word by word. Assumes nothing.
use Rattle.std.proofs.Common.{◌∙◌, arith}
use Rattle.std.proofs.lemmas.Grind.{common_steps}
use Rattle.script.proofs.Saying.{no_words, one_word, bad_tick, unknown, known}
use Rattle.script.proofs.line.parse_words.Goals as goal

pub returns-in_default : goal.returns-in_default
returns-in_default c = no_words _ (rw (c.new-words.ensures.0, c.new-words.ensures.1) at c.in_default.ensures.words)

pub returns-in_default-next : goal.returns-in_default-next
returns-in_default-next c =
    one_word c.in-Some.word.now _ _ (rw (c.new-words.ensures.0, c.new-words.ensures.1) at c.in-Some.ensures.words) c.in_default-next.ensures.words

pub returns-in_err-tick : goal.returns-in_err-tick
returns-in_err-tick c =
    grind (
      arith,
      c.map_err.ensures.cases,
      c.read.ensures,
      bad_tick c.in-Some.word.now c.in-Some-next.name.now _ _ _ (rw (c.new-words.ensures.0, c.new-words.ensures.1) at c.in-Some.ensures.words)
          c.in-Some-next.ensures.words,
    )

pub returns-in_default-fault_of : goal.returns-in_default-fault_of
returns-in_default-fault_of c =
    unknown c.in-Some.word.now c.in-Some-next.name.now _ _ _ (rw (c.new-words.ensures.0, c.new-words.ensures.1) at c.in-Some.ensures.words)
    c.in-Some-next.ensures.words c.in_ok-tick.tick (grind (arith, common_steps)) (grind (arith, common_steps))

pub returns : goal.returns
returns c =
    c.parse_id.ensures
    ∙ known c.in-Some.word.now c.in-Some-next.name.now _ _ _ (rw (c.new-words.ensures.0, c.new-words.ensures.1) at c.in-Some.ensures.words)
    c.in-Some-next.ensures.words c.in_ok-tick.tick c.in-Some-fault_of.fault (grind (arith, common_steps)) (grind (arith, common_steps))

-- `chance::good_word` meets its contract: the first test decides, or the second does. Assumes nothing.
use native.Mathlib.Omega.{arith}
use borrow.Author.Tests.{le-leb, lt-leb}
use Rattle.chance.specs.Probability.{good_word, one_word}
use Rattle.chance.proofs.good_word.Goals as goal

pub returns-then-word-le4607182418800017408 : goal.returns-then-word-le4607182418800017408
unfolding good_word
returns-then-word-le4607182418800017408 c = simp (le-leb c.args.word one_word (omega (arith, c.if-word-le4607182418800017408.true)))

pub returns-else-word-le4607182418800017408 : goal.returns-else-word-le4607182418800017408
unfolding good_word
returns-else-word-le4607182418800017408 c = simp (lt-leb c.args.word one_word (omega (arith, c.if-word-le4607182418800017408.false)))

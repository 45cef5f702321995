-- `script_words::reader::Reader::next` meets its contract: a word stands within its line, and is empty exactly where none is left.
-- Assumes nothing.
use native.Mathlib.Omega.{arith}
use Rattle.script_words.proofs.Cutting.{from_in, no_word, a_word}
use Rattle.script_words.proofs.reader.Reader.next.Goals as goal

pub invariant_of-self : goal.invariant_of-self
invariant_of-self c = let s = c.args.self.now in record { within = rw c.word_from-start.ensures (from_in s.line.now s.at (omega arith)).1 }

pub slice_bounds-result-count : goal.slice_bounds-result-count
slice_bounds-result-count c = let s = c.args.self.now in rw c.word_from-start.ensures (from_in s.line.now s.at (omega arith)).0

pub slice_bounds-result-start : goal.slice_bounds-result-start
slice_bounds-result-start c = let s = c.args.self.now in rw c.word_from-start.ensures (from_in s.line.now s.at (omega arith)).0

pub slice_bounds-result-end : goal.slice_bounds-result-end
slice_bounds-result-end c = let s = c.args.self.now in rw c.word_from-start.ensures (from_in s.line.now s.at (omega arith)).1

pub returns-then-start-end-clause-words : goal.returns-then-start-end-clause-words
returns-then-start-end-clause-words c = let s = c.args.self.now in no_word s.line.now s.at (rw c.word_from-start.ensures at c.if-start-end.true)

pub returns-clause-words : goal.returns-clause-words
returns-clause-words c = let s = c.args.self.now in
    rw c.word_from-start.ensures (a_word s.line.now s.at (omega arith) (rw c.word_from-start.ensures at c.if-start-end.false))

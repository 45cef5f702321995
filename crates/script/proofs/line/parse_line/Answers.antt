-- `script::line::parse_line` meets its contract: what stands before the comment has the same words when it is not stripped.
-- Assumes nothing.
use native.Mathlib.Omega.{arith}
use mathlib.Core.List.{List}
use mathlib.Core.Path.{◌≡◌, sym, ◌∙◌}
use Prim.Native.Nat.{ℕ, ◌+◌}
use lib.Dec.{eqb}
use lib.ListN.{take}
use lib.Seq.{length-take-le}
use Rattle.script_words.specs.Words.{until, cut_at, line_words}
use Rattle.script.specs.Lines.{of_words, line_says}
use Rattle.script_words.proofs.Walk.{until_within}
use Rattle.script_words.proofs.Cutting.{strip_words}
use Rattle.script.proofs.line.parse_line.Goals as goal

cut_says : (l : List ℕ) (r : ℕ) → r ≡ 0 + until (eqb 35) l → of_words (line_words (take r l)) ≡ line_says l
unfolding line_says cut_at
cut_says l r e =
    let z : r ≡ until (eqb 35) l = omega arith in
    rw (z, strip_words (take (until (eqb 35) l) l))

pub slice_bounds-parse_words-end : goal.slice_bounds-parse_words-end
slice_bounds-parse_words-end c = let l = c.args.line.now in
    sym (length-take-le c.find-end.result l (omega (arith, until_within (eqb 35) l, c.find-end.ensures)))

pub returns : goal.returns
returns c = c.parse_words.ensures ∙ cut_says c.args.line.now c.find-end.result c.find-end.ensures

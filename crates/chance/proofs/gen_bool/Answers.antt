use Rattle.std.proofs.Common.{ℕ, ◌+◌, sym, ap, ◌∙◌, ltb}
use denote.Floats.{passes}
use Rattle.std.specs.Float.{binary64}
use Rattle.std.specs.Float.Ieee.{to_bits}
use Rattle.chance.specs.Probability.{threshold_of}
use Rattle.chance.specs.Draw.{drawn}
use Rattle.chance.proofs.ZeroAndOneByWord.{equals_one}
use Rattle.chance.proofs.DrawCases.{one, no_word, word_used}
use Rattle.chance.proofs.gen_bool.Goals as goal

-- `chance::gen_bool` meets its contract: each of its returns is a case of the draw, and the first test is one of p's word. Assumes nothing.
pub returns-then-p : goal.returns-then-p
returns-then-p c = sym (one c.args.p c.args.draws.now c.args.place (sym (equals_one c.args.p (passes _ c.well_formed.0.1)) ∙ c.if-p.true))

pub returns-in_err-word : goal.returns-in_err-word
returns-in_err-word c =
    c.from_residual.ensures
    ∙ sym (no_word c.args.p c.args.draws.now c.args.place (sym (equals_one c.args.p (passes _ c.well_formed.0.1)) ∙ c.if-p.false) c.in_err-word.ensures.lookup.3)

pub threshold-requires-clause-p_value : goal.threshold-requires-clause-p_value
threshold-requires-clause-p_value c = sym (equals_one c.args.p (passes _ c.well_formed.0.1)) ∙ c.if-p.false

pub returns : goal.returns
returns c =
    let there = c.in_ok-word.ensures.lookup.3 in
    let bound : ℕ = threshold_of (to_bits binary64 c.args.p) in
    ap (λ (t : ℕ). drawn (ltb c.in_ok-word.field-0.now t) (c.args.place + 1)) c.threshold.ensures
    ∙ ap (λ (x : ℕ). drawn (ltb x bound) (c.args.place + 1)) (there.1 0)
    ∙ sym (word_used c.args.p c.args.draws.now c.args.place (sym (equals_one c.args.p (passes _ c.well_formed.0.1)) ∙ c.if-p.false) there.0)

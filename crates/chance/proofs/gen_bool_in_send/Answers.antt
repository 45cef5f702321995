use Rattle.std.proofs.Common.{sym, ◌∙◌}
use denote.Floats.{passes}
use Rattle.chance.proofs.ZeroAndOneByWord.{equals_zero}
use Rattle.chance.proofs.DrawCases.{zero_in_send, other_in_send}
use Rattle.chance.proofs.gen_bool_in_send.Goals as goal

-- `chance::gen_bool_in_send` meets its contract. Assumes nothing.
pub returns-then-p : goal.returns-then-p
returns-then-p c = sym (zero_in_send c.args.p c.args.draws.now c.args.place (sym (equals_zero c.args.p (passes _ c.well_formed.0.1)) ∙ c.if-p.true))

pub returns : goal.returns
returns c = c.gen_bool.ensures ∙ sym (other_in_send c.args.p c.args.draws.now c.args.place (sym (equals_zero c.args.p (passes _ c.well_formed.0.1)) ∙ c.if-p.false))

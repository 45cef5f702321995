-- `script_packed::packed` meets its contract: the parts are so small that the word holds them. Assumes nothing.
use native.Mathlib.Omega.{arith}
use Rattle.script_packed.proofs.Parts.{number_range, why_range}
use Rattle.script_packed.proofs.packed.Goals as goal

pub overflow_mul-number : goal.overflow_mul-number
overflow_mul-number c = omega (arith, (number_range c.args.refused.refusal).1, c.number-number.ensures)

pub overflow_mul-why : goal.overflow_mul-why
overflow_mul-why c = omega (arith, why_range c.args.refused.refusal, c.why-why.ensures)

pub overflow_mul-byte : goal.overflow_mul-byte
overflow_mul-byte c = omega (arith, c.requires.0, c.byte.ensures)

pub overflow_add-result : goal.overflow_add-result
overflow_add-result c = let r = c.args.refused.refusal in
    omega (arith, (number_range r).1, c.number-number.ensures, why_range r, c.why-why.ensures)

pub overflow_add-result-2 : goal.overflow_add-result-2
overflow_add-result-2 c = let r = c.args.refused.refusal in
    omega (arith, (number_range r).1, c.number-number.ensures, why_range r, c.why-why.ensures, c.requires.0, c.byte.ensures)

pub overflow_add-result-3 : goal.overflow_add-result-3
overflow_add-result-3 c = let r = c.args.refused.refusal in
    omega (
      arith,
      (number_range r).1,
      c.number-number.ensures,
      why_range r,
      c.why-why.ensures,
      c.requires.0,
      c.byte.ensures,
      c.requires.1,
    )

pub returns : goal.returns
returns c = rw (c.number-number.ensures, c.why-why.ensures, c.byte.ensures)

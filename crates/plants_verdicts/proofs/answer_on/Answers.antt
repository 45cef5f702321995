-- `plants_verdicts::answer_on` meets its contract: where the state refuses, that is the answer. Assumes nothing.
use Rattle.std.proofs.Common.{◌≡◌, sym, ap, ◌∙◌, Err, rules, arith}
use Rattle.plants.specs.Refusals.{plants_refusal, answer_number}
use Rattle.plants_words.proofs.Answering.{nonzero}
use Rattle.plants_verdicts.specs.Calls.{refused_number}
use Rattle.plants_verdicts.specs.declared.Refused.TheVariants.{ByPlants}
use Rattle.plants_verdicts.proofs.Judging.{state_refuses}
use Rattle.plants_verdicts.proofs.answer_on.Goals as goal

pub returns-in_err-state : goal.returns-in_err-state
returns-in_err-state c =
    let a = c.args in
    let r = c.in_err-state.field-0.0 in
    let e : c.from_residual.result ≡ Err (ByPlants r) = search rules in
    ap refused_number e
    ∙ state_refuses a.words.now a.sort a.id a.to (omega arith) (plants_refusal r)
    (sym (ap answer_number c.in_err-state.was) ∙ c.requires) (nonzero r)

-- `plants_words::apply` meets its contract: an unknown fault, or the fault of its number. Assumes nothing.
use Rattle.std.proofs.Common.{◌≡◌, sym, ◌∙◌, ℕ, List, arith}
use Rattle.plants.specs.Faults.{applied}
use Rattle.plants_layout.specs.Layout.{plants_in, state_words}
use Rattle.plants_words.specs.Calls.{on_zero, drawn}
use Rattle.plants_words.proofs.Answering.{kept, fault_over, fault_known}
use Rattle.plants_words.proofs.apply.Goals as goal

-- an answer of 5 changes no word
unchanged : (k : ℕ) (after before : List ℕ) → k ≡ 5 → before ≡ on_zero k after before
unchanged k after before e = kept k after before (λ z. omega arith)

pub returns-then-fault-gt5-clause-answer : goal.returns-then-fault-gt5-clause-answer
returns-then-fault-gt5-clause-answer c = let a = c.args in
    sym (fault_over a.words.now a.tick a.fault a.id a.draws.now c.if-fault-gt5.true)

pub returns-then-fault-gt5-clause-words : goal.returns-then-fault-gt5-clause-words
returns-then-fault-gt5-clause-words c = let a = c.args in
    unchanged _ _ a.words.now (fault_over a.words.now a.tick a.fault a.id a.draws.now c.if-fault-gt5.true)

pub returns-then-fault-gt5-clause-nonce : goal.returns-then-fault-gt5-clause-nonce
returns-then-fault-gt5-clause-nonce c = let a = c.args in
    unchanged _ _ a.nonce.now (fault_over a.words.now a.tick a.fault a.id a.draws.now c.if-fault-gt5.true)

pub returns-clause-answer : goal.returns-clause-answer
returns-clause-answer c = let a = c.args in
    c.number_of.ensures
    ∙ (c.apply_known.ensures.answer ∙ fault_known a.words.now a.tick a.fault a.id a.draws.now c.if-fault-gt5.false c.fault_of-known.result c.fault_of-known.ensures)

pub returns-clause-words : goal.returns-clause-words
returns-clause-words c = let a = c.args in
    let k = c.apply_known.ensures.answer
    ∙ fault_known a.words.now a.tick a.fault a.id a.draws.now c.if-fault-gt5.false c.fault_of-known.result c.fault_of-known.ensures in
    c.apply_known.ensures.words
    ∙ (λ t. on_zero (k t) (state_words (applied (plants_in a.words.now) a.tick (c.fault_of-known.ensures t) a.draws.now).state) a.words.now)

pub returns-clause-nonce : goal.returns-clause-nonce
returns-clause-nonce c = let a = c.args in
    let k = c.apply_known.ensures.answer
    ∙ fault_known a.words.now a.tick a.fault a.id a.draws.now c.if-fault-gt5.false c.fault_of-known.result c.fault_of-known.ensures in
    c.apply_known.ensures.nonce
    ∙ (λ t. on_zero (k t) (drawn (applied (plants_in a.words.now) a.tick (c.fault_of-known.ensures t) a.draws.now).answer a.nonce.now) a.nonce.now)

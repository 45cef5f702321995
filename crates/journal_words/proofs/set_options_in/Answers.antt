-- `journal_words::set_options_in` meets its contract: bad options are refused before the journal is looked at, and good ones are the
-- journal's change on the network of the words. Assumes nothing.
use Prim.Native.Nat.{ℕ}
use mathlib.Core.Path.{◌≡◌, sym, ap, ◌∙◌}
use mathlib.Core.Bool.{true}
use mathlib.Core.List.{List}
use Rattle.std.proofs.lemmas.Result.{err_from_is_err_and}
use Rattle.nights.specs.Net.{Options, choose}
use Rattle.nights.specs.Tests.{refused}
use Rattle.network_options.specs.Answers.{settled_of}
use Rattle.network_form.specs.declared.Head.{Head}
use Rattle.network_form.specs.Forms.{formed_in}
use Rattle.network.specs.Calls.{call_answer}
use Rattle.network.proofs.Structs.{call_ill, formed_options}
use Rattle.journal_calls.specs.Calls.{chooses, answer_of}
use Rattle.journal_calls.proofs.Journaled.{refused_first}
use Rattle.network_layout.specs.Layout.{head_fits, options_of}
use Rattle.network_layout.proofs.Heads.{unfit, head_read}
use Rattle.network_words.proofs.InPlace.{chosen_answer}
use Rattle.journal_words.specs.Calls.{network_in, journal_answer}
use Rattle.journal_words.proofs.Told.{Kept, unread, read_kept}
use Rattle.journal_words.proofs.After.{left, wrote}
use Rattle.journal_words.proofs.set_options_in.Goals as goal

-- where the plain change is refused so is the journal's
refuses : (h r : List ℕ) (f : head_fits h ≡ true) (asked : Options) (j : List ℕ) (k : ℕ)
    → call_answer (choose asked) (network_in h r) ≡ refused k → Kept (journal_answer (chooses asked) h r j) k
refuses h r f asked j k q =
    read_kept h (answer_of (chooses asked) (network_in h r) j) f k (sym (refused_first (choose asked) (network_in h r) j k q).answer)

pub returns-in_default : goal.returns-in_default
returns-in_default c =
    let a = c.args in
    let k : Kept (journal_answer (chooses (options_of a.options)) a.head.now a.records.now a.journal.now) 23 =
    unread _ (answer_of (chooses (options_of a.options)) (network_in a.head.now a.records.now) a.journal.now)
    (unfit a.head.now (sym c.in_default.is ∙ c.load.ensures)) in
    record { answer = k.number; head = k.words _ _; journal = k.words _ _ }

pub returns-then-not-formed : goal.returns-then-not-formed
returns-then-not-formed c =
    let a = c.args in
    let l = head_read a.head.now c.in-Some.old (sym c.in-Some.is ∙ c.load.ensures) in
    let g = ap (λ (x : Head). formed_in x a.records.now) (sym l.1) ∙ (sym c.formed.ensures ∙ c.if-not-formed.true) in
    let k =
    refuses a.head.now a.records.now l.0 (options_of a.options) a.journal.now 23
    (call_ill (network_in a.head.now a.records.now) (choose (options_of a.options)) g) in
    record { answer = k.number; head = k.words _ _; journal = k.words _ _ }

pub returns-in_err-options : goal.returns-in_err-options
returns-in_err-options c =
    let a = c.args in
    let l = head_read a.head.now c.in-Some.old (sym c.in-Some.is ∙ c.load.ensures) in
    let g = ap (λ (x : Head). formed_in x a.records.now) (sym l.1) ∙ (sym c.formed.ensures ∙ c.if-not-formed.false) in
    let p = err_from_is_err_and c.from_residual.result c.from_residual.ensures.1 in
    let k =
    refuses a.head.now a.records.now l.0 (options_of a.options) a.journal.now _
    (chosen_answer (options_of a.options) a.head.now a.records.now g ∙ sym c.in_err-options.ensures.answer) in
    record { answer = rw (p.1, p.2) k.number; head = k.words _ _; journal = k.words _ _ }

pub returns-in_err-next : goal.returns-in_err-next
returns-in_err-next c =
    let a = c.args in
    let asked : Options = options_of a.options in
    let l = head_read a.head.now c.in-Some.old (sym c.in-Some.is ∙ c.load.ensures) in
    let m = rw (c.in_ok-options.ensures.options, l.1) at c.set_options-next.ensures in
    let p = err_from_is_err_and c.from_residual-in_err-next.result c.from_residual-in_err-next.ensures.1 in
    let x =
    left (chooses asked) a.head.now a.records.now a.journal.now l.0 _ _ m.network m.journal _
    (sym m.answer ∙ ap settled_of c.in_err-next.was) in
    record { answer = rw (p.1, p.2) x.kept.number; head = x.kept.words _ _; journal = x.journal }

pub store-requires : goal.store-requires
store-requires c =
    let a = c.args in
    let asked : Options = options_of a.options in
    let l = head_read a.head.now c.in-Some.old (sym c.in-Some.is ∙ c.load.ensures) in
    let m = rw (c.in_ok-options.ensures.options, l.1) at c.set_options-next.ensures in
    let w =
    wrote (chooses asked) a.head.now a.records.now a.journal.now l.0 _ _ m.network m.journal
    (sym m.answer ∙ ap settled_of c.in_ok-next.was) in
    formed_options _ w.formed

pub returns : goal.returns
returns c =
    let a = c.args in
    let asked : Options = options_of a.options in
    let l = head_read a.head.now c.in-Some.old (sym c.in-Some.is ∙ c.load.ensures) in
    let m = rw (c.in_ok-options.ensures.options, l.1) at c.set_options-next.ensures in
    let w =
    wrote (chooses asked) a.head.now a.records.now a.journal.now l.0 _ _ m.network m.journal
    (sym m.answer ∙ ap settled_of c.in_ok-next.was) in
    record { answer = w.finished.number; head = c.store.ensures ∙ w.head; journal = w.journal }

-- `journal_rewind::rewind_in` meets its contract: each test in turn, and then the undoing of the last k. Assumes nothing.
use mathlib.Core.Path.{sym, ◌∙◌}
use native.Mathlib.Omega.{arith}
use borrow.Author.Rules.{rules}
use lib.ListN.{length-set}
use Rattle.network.specs.Forms.{network_of}
use Rattle.network_options.proofs.OptionForms.{Held}
use Rattle.journal_ledger.proofs.Words.{good_header_lem, headed}
use Rattle.journal_rewind.proofs.Rewinds.{ill, bad_header, too_far, no_fit, went_back}
use Rattle.journal_rewind.proofs.rewind_in.Goals as goal

pub returns-then-not-formed-clause-answer : goal.returns-then-not-formed-clause-answer
returns-then-not-formed-clause-answer c =
    let m = ill c.args.k (network_of c.args.head c.args.w.now) c.args.journal.now (sym c.formed.ensures ∙ c.if-not-formed.true) in m.answer

pub returns-then-not-formed-clause-journal : goal.returns-then-not-formed-clause-journal
returns-then-not-formed-clause-journal c =
    let m = ill c.args.k (network_of c.args.head c.args.w.now) c.args.journal.now (sym c.formed.ensures ∙ c.if-not-formed.true) in m.words

pub returns-then-not-header_good-clause-answer : goal.returns-then-not-header_good-clause-answer
returns-then-not-header_good-clause-answer c =
    let formed = sym c.formed.ensures ∙ c.if-not-formed.false in
    let bad = sym c.header_good.ensures ∙ c.if-not-header_good.true in
    let m = bad_header c.args.k (network_of c.args.head c.args.w.now) c.args.journal.now formed bad in m.answer

pub returns-then-not-header_good-clause-journal : goal.returns-then-not-header_good-clause-journal
returns-then-not-header_good-clause-journal c =
    let formed = sym c.formed.ensures ∙ c.if-not-formed.false in
    let bad = sym c.header_good.ensures ∙ c.if-not-header_good.true in
    let m = bad_header c.args.k (network_of c.args.head c.args.w.now) c.args.journal.now formed bad in m.words

pub bounds-journal-0 : goal.bounds-journal-0
bounds-journal-0 c =
    let top = good_header_lem c.args.journal.now (sym c.header_good.ensures ∙ c.if-not-header_good.false) in omega (arith, top.long)

pub returns-then-held-k-clause-answer : goal.returns-then-held-k-clause-answer
returns-then-held-k-clause-answer c =
    let formed = sym c.formed.ensures ∙ c.if-not-formed.false in
    let good = sym c.header_good.ensures ∙ c.if-not-header_good.false in
    let m =
    too_far c.args.k (network_of c.args.head c.args.w.now) c.args.journal.now formed good (omega (arith, c.if-held-k.true)) in m.answer

pub returns-then-held-k-clause-journal : goal.returns-then-held-k-clause-journal
returns-then-held-k-clause-journal c =
    let formed = sym c.formed.ensures ∙ c.if-not-formed.false in
    let good = sym c.header_good.ensures ∙ c.if-not-header_good.false in
    let m =
    too_far c.args.k (network_of c.args.head c.args.w.now) c.args.journal.now formed good (omega (arith, c.if-held-k.true)) in m.words

pub bounds-journal-1 : goal.bounds-journal-1
bounds-journal-1 c =
    let top = good_header_lem c.args.journal.now (sym c.header_good.ensures ∙ c.if-not-header_good.false) in omega (arith, top.long)

pub undo_all-requires : goal.undo_all-requires
undo_all-requires c =
    let top = good_header_lem c.args.journal.now (sym c.header_good.ensures ∙ c.if-not-header_good.false) in
    (sym c.formed.ensures ∙ c.if-not-formed.false, top.low, top.high)

pub returns-in_default-clause-answer : goal.returns-in_default-clause-answer
returns-in_default-clause-answer c =
    let u = c.undo_all in
    let formed = sym c.formed.ensures ∙ c.if-not-formed.false in
    let good = sym c.header_good.ensures ∙ c.if-not-header_good.false in
    let m =
    no_fit c.args.k (network_of c.args.head c.args.w.now) c.args.journal.now formed good c.if-held-k.false u.result _ u.ensures.undone
    c.in_default.is in m.answer

pub returns-in_default-clause-journal : goal.returns-in_default-clause-journal
returns-in_default-clause-journal c =
    let u = c.undo_all in
    let formed = sym c.formed.ensures ∙ c.if-not-formed.false in
    let good = sym c.header_good.ensures ∙ c.if-not-header_good.false in
    let m =
    no_fit c.args.k (network_of c.args.head c.args.w.now) c.args.journal.now formed good c.if-held-k.false u.result _ u.ensures.undone
    c.in_default.is in m.words

pub bounds-journal-0-2 : goal.bounds-journal-0-2
bounds-journal-0-2 c =
    let top = good_header_lem c.args.journal.now (sym c.header_good.ensures ∙ c.if-not-header_good.false) in omega (arith, top.long)

pub bounds-journal-1-2 : goal.bounds-journal-1-2
bounds-journal-1-2 c =
    let top = good_header_lem c.args.journal.now (sym c.header_good.ensures ∙ c.if-not-header_good.false) in
    simp length-set (omega (arith, top.long))

pub returns : goal.returns
returns c =
    let u = c.undo_all in
    let x = c.in-Some.undone in
    let formed = sym c.formed.ensures ∙ c.if-not-formed.false in
    let good = sym c.header_good.ensures ∙ c.if-not-header_good.false in
    let top = good_header_lem c.args.journal.now good in
    let held : Held x.head.options = record { loss = search rules; replay = search rules } in
    let m =
    went_back c.args.k (network_of c.args.head c.args.w.now) c.args.journal.now formed good c.if-held-k.false u.result u.new.w u.ensures.undone
    x c.in-Some.is c.in-Some.ensures.formed held u.array_long in
    record { network = m.network; answer = m.answer; journal = headed c.args.journal.now _ _ top.long ∙ m.words }

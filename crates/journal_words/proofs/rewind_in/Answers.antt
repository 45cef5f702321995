-- `journal_words::rewind_in` meets its contract: the journal's rewind in place, on the network of the words; a refusal puts back what came.
-- Assumes nothing.
use mathlib.Core.Path.{refl, sym, ◌∙◌}
use Rattle.nights.specs.Journal.{rewind}
use Rattle.network.specs.Forms.{network_of}
use Rattle.network.proofs.Structs.{formed_options}
use Rattle.journal_calls.specs.Calls.{answer_of}
use Rattle.journal_words.specs.Calls.{network_in, journal_answer}
use Rattle.network_layout.proofs.Heads.{unfit, head_read}
use Rattle.journal_words.proofs.Told.{Kept, unread}
use Rattle.journal_words.proofs.After.{left, wrote}
use Rattle.journal_words.proofs.rewind_in.Goals as goal

pub returns-in_default : goal.returns-in_default
returns-in_default c =
    let a = c.args in
    let k : Kept (journal_answer (rewind a.k) a.head.now a.records.now a.journal.now) 23 =
    unread _ (answer_of (rewind a.k) (network_in a.head.now a.records.now) a.journal.now)
    (unfit a.head.now (sym c.in_default.is ∙ c.load.ensures)) in
    record { answer = k.number; head = k.words _ _; records = k.words _ _; journal = k.words _ _ }

pub store-requires : goal.store-requires
store-requires c =
    let a = c.args in
    let l = head_read a.head.now c.in-Some.old (sym c.in-Some.is ∙ c.load.ensures) in
    -- the call in place was made on the network of the words
    let m = rw (l.1, c.in-Ok.is) at c.rewind_in.ensures in
    let w =
    wrote (rewind a.k) a.head.now a.records.now a.journal.now l.0 (network_of c.in-Ok.back c.rewind_in.new.w) c.rewind_in.new.journal
    m.network m.journal (sym m.answer) in
    formed_options _ w.formed

pub returns-in-Ok : goal.returns-in-Ok
returns-in-Ok c =
    let a = c.args in
    let l = head_read a.head.now c.in-Some.old (sym c.in-Some.is ∙ c.load.ensures) in
    let m = rw (l.1, c.in-Ok.is) at c.rewind_in.ensures in
    let w =
    wrote (rewind a.k) a.head.now a.records.now a.journal.now l.0 (network_of c.in-Ok.back c.rewind_in.new.w) c.rewind_in.new.journal
    m.network m.journal (sym m.answer) in
    record { answer = w.finished.number; head = c.store.ensures ∙ w.head; records = w.records; journal = w.journal }

pub returns-in-Err : goal.returns-in-Err
returns-in-Err c =
    let a = c.args in
    let l = head_read a.head.now c.in-Some.old (sym c.in-Some.is ∙ c.load.ensures) in
    let m = rw (l.1, c.in-Err.is) at c.rewind_in.ensures in
    let x = left (rewind a.k) a.head.now a.records.now a.journal.now l.0 _ _ refl m.journal _ (sym m.answer) in
    record { answer = x.kept.number; head = x.kept.words _ _; records = x.kept.words _ _; journal = x.journal }

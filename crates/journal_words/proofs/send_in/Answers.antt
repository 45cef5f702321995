-- `journal_words::send_in` meets its contract: the journal's send on the network of the words. Assumes nothing.
use mathlib.Core.Path.{sym, ◌∙◌}
use Rattle.std.proofs.lemmas.Result.{err_from_is_err_and}
use Rattle.nights.specs.Journal.{Call}
use Rattle.journal_calls.specs.Calls.{sends_letter, answer_of}
use Rattle.journal_words.specs.Calls.{network_in, journal_answer}
use Rattle.network_options.proofs.OptionForms.{flag_bit}
use Rattle.network_layout.proofs.Heads.{unfit, head_read}
use Rattle.journal_words.proofs.Told.{Kept, unread}
use Rattle.network_words.proofs.Told.{sent_refused, sent_done, sent_told}
use Rattle.journal_words.proofs.After.{left, wrote}
use Rattle.journal_words.proofs.send_in.Goals as goal

pub returns-in_default : goal.returns-in_default
returns-in_default c =
    let a = c.args in
    let call : Call = sends_letter a.letter a.draws.now a.extras.now in
    let k : Kept (journal_answer call a.head.now a.records.now a.journal.now) 23 =
    unread _ (answer_of call (network_in a.head.now a.records.now) a.journal.now) (unfit a.head.now (sym c.in_default.is ∙ c.load.ensures)) in
    record { answer = k.number; head = k.words _ _; records = k.words _ _; journal = k.words _ _; told = k.words _ _ }

pub returns-in_err-accepted : goal.returns-in_err-accepted
returns-in_err-accepted c =
    let a = c.args in
    let call : Call = sends_letter a.letter a.draws.now a.extras.now in
    let l = head_read a.head.now c.in-Some.old (sym c.in-Some.is ∙ c.load.ensures) in
    let m = rw l.1 at c.send-sent.ensures in
    let p = err_from_is_err_and c.from_residual.result c.from_residual.ensures.1 in
    let x =
    left call a.head.now a.records.now a.journal.now l.0 _ _ m.network m.journal _ (sent_refused _ _ _ m.answer _ c.in_err-accepted.was) in
    record {
      answer = rw (p.1, p.2) x.kept.number;
      head = x.kept.words _ _;
      records = x.kept.words _ _;
      journal = x.journal;
      told = x.kept.words _ _;
    }

pub write-requires : goal.write-requires
write-requires c =
    let a = c.args in
    let call : Call = sends_letter a.letter a.draws.now a.extras.now in
    let l = head_read a.head.now c.in-Some.old (sym c.in-Some.is ∙ c.load.ensures) in
    let m = rw l.1 at c.send-sent.ensures in
    let w = wrote call a.head.now a.records.now a.journal.now l.0 _ _ m.network m.journal (sent_done _ _ _ m.answer _ c.in_ok-accepted.was) in
    w.formed

pub returns : goal.returns
returns c =
    let a = c.args in
    let call : Call = sends_letter a.letter a.draws.now a.extras.now in
    let l = head_read a.head.now c.in-Some.old (sym c.in-Some.is ∙ c.load.ensures) in
    let m = rw l.1 at c.send-sent.ensures in
    let w = wrote call a.head.now a.records.now a.journal.now l.0 _ _ m.network m.journal (sent_done _ _ _ m.answer _ c.in_ok-accepted.was) in
    let e = c.write.ensures in
    record {
      answer = w.finished.number;
      head = e.head ∙ w.head;
      records = e.records ∙ w.records;
      journal = w.journal;
      told =
          rw (c.from.ensures ∙ flag_bit c.in_ok-accepted.accepted.lost, c.from-2.ensures ∙ flag_bit c.in_ok-accepted.accepted.replayed)
          (sent_told _ _ _ m.answer _ c.in_ok-accepted.was ∙ w.finished.words _ _);
    }

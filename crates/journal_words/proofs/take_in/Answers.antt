-- `journal_words::take_in` meets its contract: the journal's take on the network of the words. Assumes nothing.
use Prim.Native.Nat.{ℕ}
use mathlib.Core.Path.{sym, ap, ◌∙◌}
use mathlib.Core.List.{[], ◌∷◌}
use lib.ListN.{length}
use Rattle.std.proofs.lemmas.Result.{err_from_is_err_and}
use Rattle.nights.specs.Journal.{Call}
use Rattle.journal_calls.specs.Calls.{takes, answer_of}
use Rattle.journal_words.specs.Calls.{network_in, journal_answer}
use Rattle.network_layout.proofs.Heads.{unfit, head_read, a_head}
use Rattle.journal_words.proofs.Told.{Kept, unread}
use Rattle.network_words.proofs.Told.{taken_refused, taken_done, taken_told}
use Rattle.journal_words.proofs.After.{left, wrote}
use Rattle.journal_words.proofs.take_in.Goals as goal

pub returns-in_default : goal.returns-in_default
returns-in_default c =
    let a = c.args in
    let call : Call = takes a.now (length a.out.now) in
    let k : Kept (journal_answer call a.head.now a.records.now a.journal.now) 23 =
    unread _ (answer_of call (network_in a.head.now a.records.now) a.journal.now) (unfit a.head.now (sym c.in_default.is ∙ c.load.ensures)) in
    record {
      answer = k.number;
      head = k.words _ _;
      records = k.words _ _;
      out = k.words _ _;
      journal = k.words _ _;
      told = k.words _ _;
    }

pub returns-in_err-count : goal.returns-in_err-count
returns-in_err-count c =
    let a = c.args in
    let call : Call = takes a.now (length a.out.now) in
    let l = head_read a.head.now c.in-Some.old (sym c.in-Some.is ∙ c.load.ensures) in
    let m = rw l.1 at c.take_due-taken.ensures in
    let p = err_from_is_err_and c.from_residual.result c.from_residual.ensures.1 in
    let x = left call a.head.now a.records.now a.journal.now l.0 _ _ m.network m.journal _ (taken_refused _ _ _ m.answer _ c.in_err-count.was) in
    record {
      answer = rw (p.1, p.2) x.kept.number;
      head = x.kept.words _ _;
      records = x.kept.words _ _;
      out = rw (a_head a.head.now (answer_of call (network_in a.head.now a.records.now) a.journal.now) l.0) m.out;
      journal = x.journal;
      told = x.kept.words _ _;
    }

pub write-requires : goal.write-requires
write-requires c =
    let a = c.args in
    let call : Call = takes a.now (length a.out.now) in
    let l = head_read a.head.now c.in-Some.old (sym c.in-Some.is ∙ c.load.ensures) in
    let m = rw l.1 at c.take_due-taken.ensures in
    let w = wrote call a.head.now a.records.now a.journal.now l.0 _ _ m.network m.journal (taken_done _ _ _ m.answer _ c.in_ok-count.was) in
    w.formed

pub returns : goal.returns
returns c =
    let a = c.args in
    let call : Call = takes a.now (length a.out.now) in
    let l = head_read a.head.now c.in-Some.old (sym c.in-Some.is ∙ c.load.ensures) in
    let m = rw l.1 at c.take_due-taken.ensures in
    let w = wrote call a.head.now a.records.now a.journal.now l.0 _ _ m.network m.journal (taken_done _ _ _ m.answer _ c.in_ok-count.was) in
    let e = c.write.ensures in
    record {
      answer = w.finished.number;
      head = e.head ∙ w.head;
      records = e.records ∙ w.records;
      out = rw (a_head a.head.now (answer_of call (network_in a.head.now a.records.now) a.journal.now) l.0) m.out;
      journal = w.journal;
      told = ap (λ (n : ℕ). n ∷ []) (taken_told _ _ _ m.answer _ c.in_ok-count.was) ∙ w.finished.words _ _;
    }

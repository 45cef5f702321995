-- `network_words::send_in` meets its contract: the call in place on the words' own head and records. Assumes nothing.
use mathlib.Core.Path.{sym, ap, ◌∙◌}
use Rattle.std.proofs.lemmas.Result.{err_from_is_err_and}
use Rattle.nights.specs.Net.{send, good_options}
use Rattle.network_options.specs.Options.{plain_options}
use Rattle.network_options.proofs.OptionForms.{flag_bit}
use Rattle.network_form.specs.declared.Head.{Head}
use Rattle.network_form.specs.Calls.{answer_in}
use Rattle.network_form.proofs.Calling.{records_stay}
use Rattle.network_form.proofs.Laws.{stays_good}
use Rattle.network_send.specs.Sends.{plain_letter}
use Rattle.network_layout.specs.Layout.{head_in, head_words}
use Rattle.network_layout.proofs.Heads.{unfit, head_read}
use Rattle.network_words.proofs.Told.{unread, read_kept, read_finished, sent_refused, sent_done, sent_told}
use Rattle.network_words.proofs.send_in.Goals as goal

pub returns-in_default : goal.returns-in_default
returns-in_default c =
    let a = c.args in
    let k = unread a.head.now (answer_in (send (plain_letter a.letter) a.draws.now a.extras.now) (head_in a.head.now) a.records.now)
    (unfit a.head.now (sym c.in_default.is ∙ c.load.ensures)) in
    record { answer = k.number _ _; head = k.head _ _; records = k.records _ _; told = k.told _ _ }

pub returns-in_err-accepted : goal.returns-in_err-accepted
returns-in_err-accepted c =
    let a = c.args in
    let l = head_read a.head.now c.in-Some.old (sym c.in-Some.is ∙ c.load.ensures) in
    let p = err_from_is_err_and c.from_residual.result c.from_residual.ensures.1 in
    let e = sent_refused _ _ _ (rw l.1 at c.send_in-sent.ensures.answer) _ c.in_err-accepted.was in
    let k = read_kept a.head.now _ l.0 _ e in
    record {
      answer = rw (p.1, p.2) (k.number _ _);
      head = k.head _ _;
      records = (rw l.1 at c.send_in-sent.ensures.records)
          ∙ (sym (records_stay _ _ (send (plain_letter a.letter) a.draws.now a.extras.now) _ e) ∙ k.records _ _);
      told = k.told _ _;
    }

pub store-requires : goal.store-requires
store-requires c =
    let a = c.args in
    let l = head_read a.head.now c.in-Some.old (sym c.in-Some.is ∙ c.load.ensures) in
    let e = sent_done _ _ _ (rw l.1 at c.send_in-sent.ensures.answer) _ c.in_ok-accepted.was in
    ap (λ (h : Head). good_options (plain_options h.options)) (rw l.1 at c.send_in-sent.ensures.head)
    ∙ stays_good (send (plain_letter a.letter) a.draws.now a.extras.now) (head_in a.head.now) a.records.now e

pub returns : goal.returns
returns c =
    let a = c.args in
    let l = head_read a.head.now c.in-Some.old (sym c.in-Some.is ∙ c.load.ensures) in
    let q = rw l.1 at c.send_in-sent.ensures.answer in
    let e = sent_done _ _ _ q _ c.in_ok-accepted.was in
    let d = read_finished a.head.now _ l.0 e in
    record {
      answer = d.number _ _;
      head = c.store.ensures ∙ (ap (λ (h : Head). head_words h) (rw l.1 at c.send_in-sent.ensures.head) ∙ d.head _ _);
      records = (rw l.1 at c.send_in-sent.ensures.records) ∙ d.records _ _;
      told = rw (c.from.ensures ∙ flag_bit c.in_ok-accepted.accepted.lost, c.from-2.ensures ∙ flag_bit c.in_ok-accepted.accepted.replayed)
          (sent_told _ _ _ q _ c.in_ok-accepted.was ∙ d.told _ _);
    }

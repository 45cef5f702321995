-- `network_words::take_in` meets its contract: the call in place on the words' own head and records. Assumes nothing.
use mathlib.Core.Path.{sym, ap, ◌∙◌}
use mathlib.Core.List.{[], ◌∷◌}
use Prim.Native.Nat.{ℕ}
use lib.ListN.{length}
use Rattle.std.proofs.lemmas.Result.{err_from_is_err_and}
use Rattle.nights.specs.Net.{collect, good_options}
use Rattle.nights.specs.Tests.{if_done}
use Rattle.network_options.specs.Options.{plain_options}
use Rattle.network_form.specs.declared.Head.{Head}
use Rattle.network_form.specs.Calls.{answer_in}
use Rattle.network_form.proofs.Calling.{records_stay}
use Rattle.network_form.proofs.Laws.{stays_good}
use Rattle.network_layout.specs.Layout.{head_in, head_words}
use Rattle.network_layout.proofs.Heads.{unfit, head_read}
use Rattle.network_words.proofs.Told.{unread, read_kept, read_finished, taken_refused, taken_done, taken_told}
use Rattle.network_words.proofs.take_in.Goals as goal

pub returns-in_default : goal.returns-in_default
returns-in_default c =
    let a = c.args in
    let k = unread a.head.now (answer_in (collect a.tick (length a.out.now)) (head_in a.head.now) a.records.now)
    (unfit a.head.now (sym c.in_default.is ∙ c.load.ensures)) in
    record { answer = k.number _ _; head = k.head _ _; records = k.records _ _; out = k.out _ _; told = k.told _ _ }

pub returns-in_err-count : goal.returns-in_err-count
unfolding if_done
returns-in_err-count c =
    let a = c.args in
    let l = head_read a.head.now c.in-Some.old (sym c.in-Some.is ∙ c.load.ensures) in
    let p = err_from_is_err_and c.from_residual.result c.from_residual.ensures.1 in
    let e = taken_refused _ _ _ (rw l.1 at c.take_in-taken.ensures.answer) _ c.in_err-count.was in
    let k = read_kept a.head.now _ l.0 _ e in
    record {
      answer = rw (p.1, p.2) (k.number _ _);
      head = k.head _ _;
      records = (rw l.1 at c.take_in-taken.ensures.records) ∙ (sym (records_stay _ _ (collect a.tick (length a.out.now)) _ e) ∙ k.records _ _);
      out = (rw (l.1, e) at c.take_in-taken.ensures.out) ∙ k.out _ _;
      told = k.told _ _;
    }

pub store-requires : goal.store-requires
store-requires c =
    let a = c.args in
    let l = head_read a.head.now c.in-Some.old (sym c.in-Some.is ∙ c.load.ensures) in
    let e = taken_done _ _ _ (rw l.1 at c.take_in-taken.ensures.answer) _ c.in_ok-count.was in
    ap (λ (h : Head). good_options (plain_options h.options)) (rw l.1 at c.take_in-taken.ensures.head)
    ∙ stays_good (collect a.tick (length a.out.now)) (head_in a.head.now) a.records.now e

pub returns : goal.returns
unfolding if_done
returns c =
    let a = c.args in
    let l = head_read a.head.now c.in-Some.old (sym c.in-Some.is ∙ c.load.ensures) in
    let q = rw l.1 at c.take_in-taken.ensures.answer in
    let e = taken_done _ _ _ q _ c.in_ok-count.was in
    let d = read_finished a.head.now _ l.0 e in
    record {
      answer = d.number _ _;
      head = c.store.ensures ∙ (ap (λ (h : Head). head_words h) (rw l.1 at c.take_in-taken.ensures.head) ∙ d.head _ _);
      records = (rw l.1 at c.take_in-taken.ensures.records) ∙ d.records _ _;
      out = (rw (l.1, e) at c.take_in-taken.ensures.out) ∙ d.out _ _;
      told = ap (λ (k : ℕ). k ∷ []) (taken_told _ _ _ q _ c.in_ok-count.was) ∙ d.told _ _;
    }

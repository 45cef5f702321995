-- `network_words::list_in` meets its contract: the call in place on the words' own head and records. Assumes nothing.
use mathlib.Core.Path.{sym, ap, ◌∙◌}
use mathlib.Core.List.{[], ◌∷◌}
use Prim.Native.Nat.{ℕ}
use lib.ListN.{length}
use Rattle.std.proofs.lemmas.Result.{err_from_is_err_and}
use Rattle.nights.specs.Tests.{if_done}
use Rattle.network_form.specs.Calls.{list_answer}
use Rattle.network_layout.specs.Layout.{head_in}
use Rattle.network_layout.proofs.Heads.{unfit, head_read}
use Rattle.network_words.proofs.Told.{unread, read_kept, read_finished, taken_refused, taken_done, taken_told}
use Rattle.network_words.proofs.list_in.Goals as goal

pub returns-in_default : goal.returns-in_default
returns-in_default c =
    let a = c.args in
    let k = unread a.head.now (list_answer (head_in a.head.now) a.records.now (length a.out.now)) (unfit a.head.now (sym c.in_default.is ∙ c.load.ensures)) in
    record { answer = k.number _ _; out = k.out _ _; told = k.told _ _ }

pub returns-in_err-count : goal.returns-in_err-count
unfolding if_done
returns-in_err-count c =
    let a = c.args in
    let l = head_read a.head.now c.in-Some.held (sym c.in-Some.is ∙ c.load.ensures) in
    let p = err_from_is_err_and c.from_residual.result c.from_residual.ensures.1 in
    let e = taken_refused _ _ _ (rw l.1 at c.list_in.ensures.answer) _ c.in_err-count.was in
    let k = read_kept a.head.now _ l.0 _ e in
    record { answer = rw (p.1, p.2) (k.number _ _); out = (rw (l.1, e) at c.list_in.ensures.out) ∙ k.out _ _; told = k.told _ _ }

pub returns : goal.returns
unfolding if_done
returns c =
    let a = c.args in
    let l = head_read a.head.now c.in-Some.held (sym c.in-Some.is ∙ c.load.ensures) in
    let q = rw l.1 at c.list_in.ensures.answer in
    let e = taken_done _ _ _ q _ c.in_ok-count.was in
    let d = read_finished a.head.now _ l.0 e in
    record {
      answer = d.number _ _;
      out = (rw (l.1, e) at c.list_in.ensures.out) ∙ d.out _ _;
      told = ap (λ (k : ℕ). k ∷ []) (taken_told _ _ _ q _ c.in_ok-count.was) ∙ d.told _ _;
    }

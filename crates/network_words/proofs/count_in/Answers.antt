-- `network_words::count_in` meets its contract: the call in place on the words' own head and records. Assumes nothing.
use mathlib.Core.Path.{sym, ap, ◌∙◌}
use mathlib.Core.List.{[], ◌∷◌}
use Prim.Native.Nat.{ℕ}
use Rattle.std.proofs.lemmas.Result.{err_from_is_err_and}
use Rattle.network_form.specs.Calls.{form_answer}
use Rattle.network_layout.specs.Layout.{head_in}
use Rattle.network_layout.proofs.Heads.{unfit, head_read}
use Rattle.network_words.proofs.Told.{unread, read_kept, read_finished, taken_refused, taken_done, taken_told}
use Rattle.network_words.proofs.count_in.Goals as goal

pub returns-in_default : goal.returns-in_default
returns-in_default c =
    let a = c.args in
    let k = unread a.head.now (form_answer (head_in a.head.now) a.records.now) (unfit a.head.now (sym c.in_default.is ∙ c.load.ensures)) in
    record { answer = k.number _ _; told = k.told _ _ }

pub returns-in_err-count : goal.returns-in_err-count
returns-in_err-count c =
    let a = c.args in
    let l = head_read a.head.now c.in-Some.held (sym c.in-Some.is ∙ c.load.ensures) in
    let p = err_from_is_err_and c.from_residual.result c.from_residual.ensures.1 in
    let k = read_kept a.head.now _ l.0 _ (taken_refused _ _ _ (rw l.1 at c.count_in.ensures) _ c.in_err-count.was) in
    record { answer = rw (p.1, p.2) (k.number _ _); told = k.told _ _ }

pub returns : goal.returns
returns c =
    let a = c.args in
    let l = head_read a.head.now c.in-Some.held (sym c.in-Some.is ∙ c.load.ensures) in
    let q = rw l.1 at c.count_in.ensures in
    let d = read_finished a.head.now _ l.0 (taken_done _ _ _ q _ c.in_ok-count.was) in
    record { answer = d.number _ _; told = ap (λ (k : ℕ). k ∷ []) (taken_told _ _ _ q _ c.in_ok-count.was) ∙ d.told _ _ }

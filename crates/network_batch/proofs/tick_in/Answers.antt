-- `network_batch::tick_in` meets its contract: each way out in turn. Assumes nothing.
use mathlib.Core.Path.{refl, sym, ap, ◌∙◌}
use mathlib.Core.List.{List}
use Prim.Native.Nat.{ℕ}
use Rattle.std.proofs.lemmas.Result.{err_from_is_err_and}
use lib.ListN.{length}
use Rattle.nights.specs.Record.{recs}
use Rattle.nights.specs.Net.{collect, good_options, keep}
use Rattle.network_queue.specs.Packed.{packed}
use Rattle.network_drop.specs.Numbered.{up_to}
use Rattle.network_options.specs.Options.{plain_options}
use Rattle.network_form.specs.declared.Head.{Head}
use Rattle.network_form.proofs.Calling.{records_stay}
use Rattle.network_form.proofs.Laws.{stays_good}
use Rattle.network_layout.specs.Layout.{head_in}
use Rattle.network_words.proofs.Told.{taken_refused, taken_done, taken_told}
use Rattle.network_batch.proofs.Ticking.{all_passed, send_refused, take_refused, all_done}
use Rattle.network_batch.proofs.tick_in.Goals as goal

pub returns-in_err-run : goal.returns-in_err-run
returns-in_err-run c =
    let a = c.args in
    let p = err_from_is_err_and c.from_residual.result c.from_residual.ensures.1 in
    let e = c.in_err-run.ensures in
    let t = send_refused a.head.now a.records.now a.sends.now a.draws.now a.extras.now a.now a.out.now a.told.now _ _ (sym e.ran) _ refl _ e.kept.0 in
    record { answer = rw (p.1, p.2) t.0; within = rw (p.1, p.2) e.kept.1; head = t.1.0; records = t.1.1.0; out = t.1.1.1.0; told = t.1.1.1.1 }

pub take_on-taken-requires : goal.take_on-taken-requires
take_on-taken-requires c = c.in_ok-run.ensures.sent.0

pub take_back-requires : goal.take_back-requires
take_back-requires c =
    let a = c.args in
    let t = c.in_ok-run.run'.state in
    let e = taken_refused _ _ _ c.take_on-taken.ensures.answer _ c.in-Err.is in
    rw (c.take_on-taken.ensures.records ∙ sym (records_stay t c.run_sends.new.records (collect a.now (length a.out.now)) _ e)) c.in_ok-run.ensures.sent.0

pub store-requires : goal.store-requires
store-requires c =
    let a = c.args in
    let e = taken_done _ _ _ c.take_on-taken.ensures.answer _ c.in-Ok.is in
    ap (λ (h : Head). good_options (plain_options h.options)) c.take_on-taken.ensures.head ∙ stays_good (collect a.now (length a.out.now)) _ _ e

pub returns-in-Err : goal.returns-in-Err
returns-in-Err c =
    let a = c.args in
    let t = c.in_ok-run.run'.state in
    let e = taken_refused _ _ _ c.take_on-taken.ensures.answer _ c.in-Err.is in
    let s = c.take_on-taken.ensures.records ∙ sym (records_stay t c.run_sends.new.records (collect a.now (length a.out.now)) _ e) in
    let came = c.take_back.ensures
    ∙ (ap (λ (u : List ℕ). packed (keep (up_to (head_in a.head.now).seq) (recs u 0 t.pending))) s ∙ c.in_ok-run.ensures.sent.1) in
    let few = (all_passed a.head.now a.records.now a.sends.now a.draws.now a.extras.now _ _ _ _ (sym c.in_ok-run.ensures.ran)).few in
    let r = take_refused a.head.now a.records.now a.sends.now a.draws.now a.extras.now a.now a.out.now a.told.now t _ _ _ (sym c.in_ok-run.ensures.ran) _ e _ refl _ _
    came c.take_on-taken.ensures.out in
    record { answer = r.0; within = few; head = r.1.0; records = r.1.1.0; out = r.1.1.1.0; told = r.1.1.1.1 }

pub returns-in-Ok : goal.returns-in-Ok
returns-in-Ok c =
    let a = c.args in
    let e = taken_done _ _ _ c.take_on-taken.ensures.answer _ c.in-Ok.is in
    let r = all_done a.head.now a.records.now a.sends.now a.draws.now a.extras.now a.now a.out.now a.told.now c.in_ok-run.run'.state _ _ _ (sym c.in_ok-run.ensures.ran) e _
    c.take_on-taken.ensures.head _ _ _ c.store.ensures c.take_on-taken.ensures.records c.take_on-taken.ensures.out _
    (taken_told _ _ _ c.take_on-taken.ensures.answer _ c.in-Ok.is) in
    record { answer = r.0; within = tt; head = r.1.0; records = r.1.1.0; out = r.1.1.1.0; told = r.1.1.1.1 }

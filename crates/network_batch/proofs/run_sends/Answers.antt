-- `network_batch::run_sends` meets its contract: each way out in turn. Assumes nothing.
use mathlib.Core.Path.{refl, sym, ap, ◌∙◌}
use Prim.Native.Nat.{ℕ, ◌≤◌}
use native.Mathlib.Omega.{arith}
use Rattle.std.specs.Prelude.{Result}
use Rattle.std.proofs.lemmas.Result.{err_from_is_err_and}
use Rattle.nights.specs.Record.{recs}
use Rattle.nights.specs.Net.{keep}
use Rattle.network_queue.specs.Packed.{packed}
use Rattle.network_drop.specs.Numbered.{up_to}
use Rattle.network_form.specs.declared.Head.{Head}
use Rattle.network_form.specs.Forms.{formed_in}
use Rattle.network_layout.specs.Layout.{head_in}
use Rattle.network_layout.proofs.Heads.{unfit, head_read}
use Rattle.network_batch.specs.declared.Stopped.{Stopped}
use Rattle.network_batch.specs.declared.Used.{Used}
use Rattle.network_batch.specs.Ticks.{sends_from, ran_of}
use Rattle.network_batch.proofs.Undoing.{undone}
use Rattle.network_batch.proofs.Ticking.{unread, ill_formed, opens, sends_run}
use Rattle.network_batch.proofs.run_sends.Goals as goal

pub returns-in_default : goal.returns-in_default
returns-in_default c =
    let a = c.args in
    record {
      ran = sym (unread a.head.now a.records.now a.sends.now a.draws.now a.extras.now (unfit a.head.now (sym c.in_default.is ∙ c.load.ensures)));
      kept = (refl, omega arith);
      sent = tt;
    }

pub returns-then-not-formed : goal.returns-then-not-formed
returns-then-not-formed c =
    let a = c.args in
    let h = head_read a.head.now c.in-Some.start (sym c.in-Some.is ∙ c.load.ensures) in
    let w = ap (λ (x : Head). formed_in x a.records.now) (sym h.1) ∙ (sym c.formed.ensures ∙ c.if-not-formed.true) in
    record {
      ran = sym (ill_formed a.head.now a.records.now a.sends.now a.draws.now a.extras.now h.0 w);
      kept = (refl, omega arith);
      sent = tt;
    }

pub returns-in_err-count : goal.returns-in_err-count
returns-in_err-count c =
    let a = c.args in
    let h = head_read a.head.now c.in-Some.start (sym c.in-Some.is ∙ c.load.ensures) in
    let w = ap (λ (x : Head). formed_in x a.records.now) (sym h.1) ∙ (sym c.formed.ensures ∙ c.if-not-formed.false) in
    let p = err_from_is_err_and c.from_residual.result c.from_residual.ensures.1 in
    let t = c.in_err-count.ensures in
    record {
      ran = rw (p.1, p.2) (sym (opens a.head.now a.records.now a.sends.now a.draws.now a.extras.now h.0 w ∙ t.1 a.head.now a.records.now a.draws.now a.extras.now));
      kept = rw (p.1, p.2) (refl, t.0);
      sent = rw p.1 tt;
    }

pub send_all-run-requires : goal.send_all-run-requires
send_all-run-requires c = (sym c.formed.ensures ∙ c.if-not-formed.false, omega (arith, c.in_ok-count.ensures.2))

pub take_back-requires : goal.take_back-requires
take_back-requires c = c.send_all-run.ensures.whole

pub returns-in-Ok : goal.returns-in-Ok
returns-in-Ok c =
    let a = c.args in
    let h = head_read a.head.now c.in-Some.start (sym c.in-Some.is ∙ c.load.ensures) in
    let w = ap (λ (x : Head). formed_in x a.records.now) (sym h.1) ∙ (sym c.formed.ensures ∙ c.if-not-formed.false) in
    let n = c.in_ok-count.ensures in
    let s = ap (λ (r : Result Used Stopped). ran_of r c.send_all-run.result.state c.send_all-run.new.records) (sym c.in-Ok.is) in
    let r = c.send_all-run.ensures.ran
    ∙ ap (λ (x : Head). sends_from a.sends.now a.draws.now a.extras.now c.in_ok-count.count 0 0 0 x a.records.now) h.1 in
    let q = ap (λ (k : ℕ). sends_from a.sends.now a.draws.now a.extras.now k 0 0 0 (head_in a.head.now) a.records.now) n.0 in
    record {
      ran = s ∙ (r ∙ (q ∙ sym (sends_run a.head.now a.records.now a.sends.now a.draws.now a.extras.now h.0 w (omega (arith, n.0, n.1)) (omega (arith, n.0, n.2)))));
      kept = tt;
      sent = (
        c.send_all-run.ensures.whole,
        ap (λ (x : Head). packed (keep (up_to x.seq) (recs c.send_all-run.new.records 0 c.send_all-run.result.state.pending))) (sym h.1)
            ∙ undone c.in-Some.start a.records.now c.send_all-run.result.state c.send_all-run.new.records (sym c.formed.ensures ∙ c.if-not-formed.false) c.told-records
            c.send_all-run.ensures.older _ refl,
      );
    }

pub returns-in-Err : goal.returns-in-Err
returns-in-Err c =
    let a = c.args in
    let h = head_read a.head.now c.in-Some.start (sym c.in-Some.is ∙ c.load.ensures) in
    let w = ap (λ (x : Head). formed_in x a.records.now) (sym h.1) ∙ (sym c.formed.ensures ∙ c.if-not-formed.false) in
    let n = c.in_ok-count.ensures in
    let s = ap (λ (r : Result Used Stopped). ran_of r c.send_all-run.result.state c.send_all-run.new.records) (sym c.in-Err.is) in
    let r = c.send_all-run.ensures.ran
    ∙ ap (λ (x : Head). sends_from a.sends.now a.draws.now a.extras.now c.in_ok-count.count 0 0 0 x a.records.now) h.1 in
    let q = ap (λ (k : ℕ). sends_from a.sends.now a.draws.now a.extras.now k 0 0 0 (head_in a.head.now) a.records.now) n.0 in
    let v : c.in-Err.stopped.place ≤ c.in_ok-count.count = rw c.in-Err.is at c.send_all-run.ensures.within in
    record {
      ran = s ∙ (r ∙ (q ∙ sym (sends_run a.head.now a.records.now a.sends.now a.draws.now a.extras.now h.0 w (omega (arith, n.0, n.1)) (omega (arith, n.0, n.2)))));
      kept = (
        undone c.in-Some.start a.records.now c.send_all-run.result.state c.send_all-run.new.records (sym c.formed.ensures ∙ c.if-not-formed.false) c.told-records
            c.send_all-run.ensures.older _ c.take_back.ensures,
        omega (arith, v, n.1),
      );
      sent = tt;
    }

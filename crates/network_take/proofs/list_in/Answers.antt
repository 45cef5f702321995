-- `network_take::list_in` meets its contract: each test in turn, and then the records' own words. Assumes nothing.
use native.Mathlib.Omega.{arith}
use Rattle.std.proofs.lemmas.Result.{err_from_is_err_and}
use Rattle.network_form.proofs.Maps.{small}
use Rattle.network_take.proofs.Listing.{counted_formed, list_refused, list_short, listed}
use Rattle.network_take.proofs.list_in.Goals as goal

pub returns-in_err-n : goal.returns-in_err-n
returns-in_err-n c =
    let a = c.args in
    let p = err_from_is_err_and c.from_residual.result c.from_residual.ensures.1 in
    let told = list_refused a.head a.w.now a.out.now _ c.in_err-n.ensures in
    record { answer = rw (p.1, p.2) told.0; out = told.1 }

pub overflow_mul-n : goal.overflow_mul-n
overflow_mul-n c =
    let a = c.args in
    let f = counted_formed a.head a.w.now _ c.in_ok-n.ensures in
    omega (arith, small a.head a.w.now f.0, f.1)

pub returns-then-out-n : goal.returns-then-out-n
returns-then-out-n c =
    let a = c.args in
    let f = counted_formed a.head a.w.now _ c.in_ok-n.ensures in
    let told = list_short a.head a.w.now a.out.now f.0 (omega (arith, f.1, c.if-out-n.true)) in
    record { answer = told.0; out = told.1 }

pub copy_out-requires : goal.copy_out-requires
copy_out-requires c =
    let a = c.args in
    let f = counted_formed a.head a.w.now _ c.in_ok-n.ensures in
    (omega (arith, small a.head a.w.now f.0, f.1), c.if-out-n.false)

pub returns : goal.returns
returns c =
    let a = c.args in
    let f = counted_formed a.head a.w.now _ c.in_ok-n.ensures in
    let told = listed a.head a.w.now a.out.now f.0 c.told-w (omega (arith, f.1, c.if-out-n.false)) _ (rw f.1 at c.copy_out.ensures) in
    record { answer = rw f.1 told.0; out = told.1 }

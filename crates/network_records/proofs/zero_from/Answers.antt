-- `network_records::zero_from` meets its contract: after each four words, those up to there are gathered. Assumes nothing.
use mathlib.Core.Path.{refl}
use mathlib.Core.List.{[], ◌∷◌}
use native.Mathlib.Omega.{arith}
use Rattle.network_records.proofs.Zeros.{gather_start, gather_on, gather_ends}
use Rattle.network_records.proofs.zero_from.Goals as goal

pub loop-i-init : goal.loop-i-init
loop-i-init c = gather_start c.args.w.now c.args.n

pub loop-i-preserved : goal.loop-i-preserved
loop-i-preserved c = let l = c.loop-i in
    gather_on c.args.w.now c.args.n (l.a ∷ l.b ∷ l.c ∷ l.d ∷ []) l.i l.invariant refl (omega arith)

pub returns : goal.returns
returns c = let a = c.args in
    let l = c.loop-i in
    gather_ends a.w.now a.n l.a (l.b ∷ l.c ∷ l.d ∷ []) l.i l.invariant (omega arith)

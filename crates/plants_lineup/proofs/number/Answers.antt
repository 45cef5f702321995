-- `plants_lineup::number` meets its contract: after i turns the first i plants stand at the front. Assumes nothing.
use Rattle.std.proofs.Common.{refl, sym, ap, ◌∙◌, ◌+◌, [], ◌∷◌, ◌++◌, drop, arith}
use Rattle.std.proofs.Math.ListN.{set}
use native.Mathlib.Nat.{zero-add}
use Rattle.plants_lineup.specs.Core.{ids_from}
use Rattle.plants_lineup.proofs.Ids.{length_ids, ids_more}
use Rattle.plants_lineup.proofs.Walks.{put_next}
use Rattle.plants_lineup.proofs.number.Goals as goal

pub loop-i-init : goal.loop-i-init
unfolding ids_from
loop-i-init c = refl

pub loop-i-preserved : goal.loop-i-preserved
loop-i-preserved c =
    let i = c.loop-i.i in
    let a = c.args.ids.now in
    ap (λ x. set x i i) c.loop-i.invariant
    ∙ (put_next (ids_from 0 i) a i i (length_ids 0 i) (omega arith)
    ∙ ap (λ x. x ++ drop (i + 1) a) (ap (λ n. ids_from 0 i ++ n ∷ []) (sym (zero-add i)) ∙ sym (ids_more 0 i)))

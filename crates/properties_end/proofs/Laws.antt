-- What an end call that passes has shown. Assumes nothing.
use mathlib.Core.List.{List}
use mathlib.Core.Logic.{◌↔◌}
use mathlib.Core.Path.{◌≡◌, ap}
use Prim.Native.Nat.{ℕ, ◌<◌}
use lib.IntN.{ℤ}
use lib.ListN.{length, get_or}
use Rattle.properties_snapshots.specs.Cluster.{cluster_in}
use Rattle.properties_convergence.specs.Convergence.{converged}
use Rattle.properties_convergence.proofs.Exactly.{Alike, exactly}
use Rattle.properties_end.specs.Calls.{end_refusal, end_answer}
use Rattle.std.specs.Prelude.{Ok}
use Rattle.properties_verdicts.specs.Verdicts.{judged}
use Rattle.properties_verdicts.proofs.First.{judged_pass}

-- an end call that is not refused passes exactly if all core plants hold equal logs, fully committed, and equal values
pub end_exactly : (n : ℕ) (p l : List ℕ) (values : List ℤ) (core t : List ℕ) → end_refusal n p l values core t ≡ Ok tt
    → (end_answer n p l values core t ≡ Ok tt) ↔ ((k : ℕ) → k < length core → Alike (cluster_in n p l t) values (get_or core 0 0) (get_or core k 0))
unfolding end_answer
end_exactly n p l values core t e =
    let x = exactly (cluster_in n p l t) values core in
    rw e (λ q. x.0 (judged_pass (converged (cluster_in n p l t) values core) q), λ a. ap judged (x.1 a))

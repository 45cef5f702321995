-- The plant that a fault names. Assumes nothing.
use mathlib.Core.Bool.{true, false}
use mathlib.Core.Path.{◌≡◌, refl, sym, ap, ◌∙◌}
use Prim.Native.Nat.{◌<◌}
use native.Mathlib.Omega.{arith}
use borrow.Author.Tests.{ltb-true}
use lib.Dec.{ltb}
use Rattle.script.specs.Faults.{needs_id, fault_id}
use Rattle.script.specs.declared.fault.Fault.{Fault}
use Rattle.script.specs.declared.fault.Fault.TheVariants.{Crash, Restart, Reboot, Partition, Heal, HealAll}
use Rattle.basis.specs.Basis.{most}
use Rattle.plants.specs.State.{tested}
use Rattle.plants.specs.Faults.{knows}
use Rattle.plants.specs.declared.Plants.{Plants}
use Rattle.std.specs.Prelude.{Ok}
use Rattle.plants.proofs.Testing.{bounds}

-- ---- the plant that a fault names
pub needs_none : (s : Plants) (fault : Fault) → needs_id fault ≡ false → true ≡ knows s fault
unfolding knows
needs_none s (Crash i) e = cc
needs_none s (Restart i) e = cc
needs_none s (Reboot i) e = cc
needs_none s (Partition i) e = cc
needs_none s (Heal i) e = cc
needs_none s HealAll e = refl

pub knows_id : (s : Plants) (fault : Fault) → needs_id fault ≡ true → knows s fault ≡ ltb (fault_id fault) s.n
unfolding knows
knows_id s (Crash i) e = refl
knows_id s (Restart i) e = refl
knows_id s (Reboot i) e = refl
knows_id s (Partition i) e = refl
knows_id s (Heal i) e = refl
knows_id s HealAll e = cc

pub id_below : (s : Plants) (fault known : Fault) → tested s ≡ Ok tt → knows s fault ≡ true → fault ≡ known → needs_id known ≡ true → fault_id known < most
id_below s fault known e k f d =
    let h : fault_id known < s.n = ltb-true _ _ (sym (knows_id s known d) ∙ (ap (knows s) (sym f) ∙ k)) in
    omega (arith, (bounds s e).1)

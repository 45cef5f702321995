-- `plants::Plants::after` meets its contract: a fault that the state knows names a plant below 15, and a state that passed its tests has
-- room in its counts. Assumes nothing.
use mathlib.Core.Path.{refl}
use Rattle.plants.proofs.Testing.{counts}
use Rattle.plants.proofs.Counting.{id_below}
use Rattle.plants.proofs.Plants.after.Goals as goal

pub crashed-requires : goal.crashed-requires
crashed-requires c = let a = c.args in
    let p = c.requires in
    (id_below a.self a.fault _ p.0 p.1 c.in-Crash.is refl, (counts a.self p.0).0)

pub restarted-requires : goal.restarted-requires
restarted-requires c = let a = c.args in
    let p = c.requires in
    (id_below a.self a.fault _ p.0 p.1 c.in-Restart.is refl, (counts a.self p.0).1)

pub rebooted-requires : goal.rebooted-requires
rebooted-requires c = let a = c.args in
    let p = c.requires in
    (id_below a.self a.fault _ p.0 p.1 c.in-Reboot.is refl, (counts a.self p.0).1, (counts a.self p.0).2)

pub parted-requires : goal.parted-requires
parted-requires c = let a = c.args in
    let p = c.requires in
    id_below a.self a.fault _ p.0 p.1 c.in-Partition.is refl

pub parted-requires-in-Heal : goal.parted-requires-in-Heal
parted-requires-in-Heal c = let a = c.args in
    let p = c.requires in
    id_below a.self a.fault _ p.0 p.1 c.in-Heal.is refl

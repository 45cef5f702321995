-- `plants_lineup::split` meets its contract: the healthy fill the front of the line, and the recovering the rest. Assumes nothing.
use mathlib.Core.Path.{sym, ◌∙◌}
use native.Mathlib.Omega.{arith}
use Rattle.plants_lineup.specs.Core.{those, is_healthy, is_recovering}
use Rattle.plants_lineup.proofs.Lining.{split_length, both_appended}
use Rattle.plants_lineup.proofs.split.Goals as goal

pub append-healthy-requires : goal.append-healthy-requires
append-healthy-requires c = record { ids_value = c.requires.0; ids_in_bounds = omega (arith, split_length c.args.flags.now c.requires.1 c.args.ids.now, c.requires.2) }

pub append-requires : goal.append-requires
append-requires c = let a = c.append-healthy in record { ids_value = c.requires.0; ids_in_bounds = omega (arith, a.ensures.count, a.auto.line, split_length c.args.flags.now c.requires.1 c.args.ids.now, c.requires.2) }

pub returns : goal.returns
returns c = let f = c.args.flags.now in
    let ids = c.args.ids.now in
    let a = c.append-healthy in
    let d = c.append in
    both_appended (those (is_healthy f) ids) (those (is_recovering f) ids) c.args.line.now a.new.line d.new.line a.result
    (split_length f c.requires.1 ids ∙ sym c.requires.2) a.ensures.count a.ensures.line d.ensures.line

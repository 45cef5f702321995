-- `plants_lineup::arrange` meets its contract: what stands behind a quorum of the line is the filler. Assumes nothing.
use Prim.Native.Nat.{◌-◌}
use mathlib.Core.Path.{◌≡◌, ◌∙◌}
use native.Mathlib.Omega.{arith}
use lib.ListN.{length, take, drop}
use Rattle.basis.specs.Basis.{quorum}
use Rattle.plants_lineup.proofs.Lining.{part_length, arranged}
use Rattle.plants_lineup.proofs.arrange.Goals as goal

pub shuffle-requires : goal.shuffle-requires
shuffle-requires c = let q = c.quorum-start in
    let line = c.split.new.line in
    let n = length c.args.ids.now in
    let e : length (take (length line - q.result) (drop q.result line)) ≡ n - quorum n =
    part_length line q.result ∙ omega (arith, q.ensures, c.split.auto.line, c.requires.ids_value.2) in
    rw e (omega (arith, c.requires.ids_bound.1), c.requires.ids_in_bounds.0, c.requires.ids_in_bounds.1)

pub returns : goal.returns
returns c = let a = c.args in
    let q = c.quorum-start in
    let line = c.split in
    arranged (length a.ids.now) a.flags.now a.ids.now a.picks.now line.new.line c.shuffle.new.list q.result q.ensures
    c.requires.ids_bound.0 line.ensures c.shuffle.ensures

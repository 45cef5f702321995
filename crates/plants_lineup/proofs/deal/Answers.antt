-- `plants_lineup::deal` meets its contract. Assumes nothing.
use mathlib.Core.Path.{◌≡◌, ap, ◌∙◌}
use lib.ListN.{length}
use Rattle.plants_lineup.specs.Shuffle.{shuffled}
use Rattle.plants_lineup.proofs.Ids.{length_ids}
use Rattle.plants_lineup.proofs.deal.Goals as goal

pub shuffle-requires : goal.shuffle-requires
shuffle-requires c = let e : length c.number.new.ids ≡ length c.args.ids.now = ap length c.number.ensures ∙ length_ids 0 _ in
    rw e c.requires

pub returns : goal.returns
returns c = let a = c.args in
    c.shuffle.ensures ∙ ap (shuffled a.picks.now) c.number.ensures

-- `properties_snapshots::lasts_fit` meets its contract: the test of all places in a row. Assumes nothing.
use Rattle.std.proofs.Common.{rules, tests, arith, ℕ, Bool}
use Rattle.std.proofs.lemmas.Iterator.{YieldsList-from_range}
use Rattle.std.proofs.lemmas.Iterator.Search.{all_from_yields_List}
use mathlib.Core.Path.{refl}
use mathlib.Core.Path.{◌∙◌}
use lib.Dec.{leb}
use lib.ListN.{get_or}
use Rattle.properties_snapshots.specs.Fits.{lasts_fit}
use Rattle.properties_snapshots.specs.Layout.{length_at, last_at}
use Rattle.properties_snapshots.proofs.Below.{all_range}
use Rattle.properties_snapshots.proofs.lasts_fit.Goals as goal

pub returns : goal.returns
unfolding lasts_fit
returns c =
    let h : ℕ → Bool = λ r. leb (get_or c.args.tracker.now (last_at r) 0) (get_or c.args.tracker.now length_at 0) in
    all_from_yields_List h _ _ c.all.result c.all.ensures.ran (YieldsList-from_range 0 c.args.n c.args.n refl (omega arith)) (λ x b q k. search (rules, tests)) ∙ all_range c.args.n h

-- What holds where all tests before the core is chosen passed. Assumes nothing.
use mathlib.Core.Bool.{Bool, true, ◌&&◌}
use mathlib.Core.List.{List}
use mathlib.Core.Path.{◌≡◌}
use Prim.Native.Nat.{ℕ, ◌≤◌}
use borrow.Author.Tests.{leb-true, eqb-true}
use lib.Dec.{leb, eqb}
use lib.ListN.{length}
use Rattle.plants.specs.Refusals.{must, ◌then◌}
use Rattle.basis.specs.Basis.{fewest, most, quorum}
use Rattle.basis.proofs.Laws.{both}
use Rattle.plants.specs.State.{tested}
use Rattle.plants.specs.declared.Plants.{Plants}
use Rattle.plants.specs.declared.refusal.Refusal.TheVariants.{BadFlags, TooFewHealthy, TooFewPicks, PickOutOfRange}
use Rattle.std.specs.Prelude.{Ok}
use Rattle.plants.proofs.Testing.{both_pass, holds, bounds}
use Rattle.plants_lineup.specs.Core.{picks_used, picks_in_range, recovering_fit, healthy_count}
use Rattle.plants_liveness.specs.Choice.{lent_tested}

-- what n plants, their flags and the picks are where all tests passed
pub record Ready (n : ℕ) (flags picks : List ℕ) (full : Bool) : Type 0 where
  pub few : fewest ≤ n
  pub many : n ≤ most
  pub same : length flags ≡ n
  pub fit : recovering_fit flags ≡ true
  pub healthy : quorum n ≤ healthy_count n flags
  pub enough : picks_used n full ≤ length picks
  pub within : picks_in_range n picks full ≡ true

pub lent_passed : (s : Plants) (flags picks : List ℕ) (full : Bool) → lent_tested s flags picks full ≡ Ok tt → (tested s ≡ Ok tt) × Ready s.n flags picks full
unfolding lent_tested
lent_passed s flags picks full e =
    let range = must (picks_in_range s.n picks full) PickOutOfRange in
    let many = must (leb (picks_used s.n full) (length picks)) TooFewPicks in
    let well = must (leb (quorum s.n) (healthy_count s.n flags)) TooFewHealthy in
    let good = must (eqb (length flags) s.n && recovering_fit flags) BadFlags in
    let a = both_pass (tested s) (good then well then many then range) e in
    let b = both_pass good (well then many then range) a.1 in
    let c = both_pass well (many then range) b.1 in
    let d = both_pass many range c.1 in
    let g = both (eqb (length flags) s.n) (recovering_fit flags) (holds (eqb (length flags) s.n && recovering_fit flags) BadFlags b.0) in (
      a.0,
      record {
        few = (bounds s a.0).0;
        many = (bounds s a.0).1;
        same = eqb-true (length flags) s.n g.0;
        fit = g.1;
        healthy = leb-true _ _ (holds (leb (quorum s.n) (healthy_count s.n flags)) TooFewHealthy c.0);
        enough = leb-true _ _ (holds (leb (picks_used s.n full) (length picks)) TooFewPicks d.0);
        within = holds (picks_in_range s.n picks full) PickOutOfRange d.1;
      },
    )

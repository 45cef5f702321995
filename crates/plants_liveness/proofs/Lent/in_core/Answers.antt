-- `plants_liveness::Lent::in_core` meets its contract: the flags are those of the front of the line, which has the core's members. Assumes nothing.
use Rattle.std.proofs.Common.{◌≡◌, ◌≤◌, sym, ap, ◌∙◌, true, Bool, List, ℕ, leb, length}
use Rattle.std.proofs.Math.Seq.{length-take-le}
use Rattle.basis.specs.Basis.{quorum}
use Rattle.plants_lineup.specs.Core.{tally, picks_used, picks_in_range, recovering_fit, healthy_count}
use Rattle.plants_liveness.specs.Choice.{in_core}
use Rattle.plants_liveness.proofs.Lending.{Ready}
use Rattle.plants_liveness.proofs.Choosing.{first_ready, second_ready, size_fits, front_is, front_below, flags_of_front}
use Rattle.plants_liveness.proofs.Lent.in_core.Goals as goal

-- what the caller proves
ready : (n : ℕ) (flags picks : List ℕ) (full : Bool)
    → (3 ≤ n) × (n ≤ 15) × (length flags ≡ n) × (recovering_fit flags ≡ true) × (quorum n ≤ healthy_count n flags)
    → (picks_used n full ≤ length picks) × (picks_in_range n picks full ≡ true) → Ready n flags picks full
ready n flags picks full p q =
    record { few = p.0; many = p.1; same = p.2; fit = p.3; healthy = p.4; enough = q.0; within = q.1 }

pub line_up-line-requires-clause-n_in_bounds : goal.line_up-line-requires-clause-n_in_bounds
line_up-line-requires-clause-n_in_bounds c =
    let a = c.args.self in
    let f = c.size_picks-first in
    first_ready a.n a.recovering.now a.picks.now a.full (ready _ _ _ _ c.requires.le_n c.requires.full_in_bounds) f.result f.ensures

pub line_up-line-requires-clause-n_in_bounds_2 : goal.line_up-line-requires-clause-n_in_bounds_2
line_up-line-requires-clause-n_in_bounds_2 c =
    let a = c.args.self in
    let f = c.size_picks-first in
    second_ready a.n a.recovering.now a.picks.now a.full (ready _ _ _ _ c.requires.le_n c.requires.full_in_bounds) f.result f.ensures

pub slice_bounds-line-end : goal.slice_bounds-line-end
slice_bounds-line-end c =
    let a = c.args.self in
    let z = c.size-size in
    let f = c.size_picks-first in
    size_fits a.n a.recovering.now a.picks.now a.full (ready _ _ _ _ c.requires.le_n c.requires.full_in_bounds)
    f.result f.ensures z.result c.line_up-line.result z.ensures c.line_up-line.ensures

pub slice_bounds-members-end : goal.slice_bounds-members-end
slice_bounds-members-end c =
    let a = c.args.self in
    let z = c.size-size in
    let f = c.size_picks-first in
    sym
    (length-take-le _ _
    (size_fits a.n a.recovering.now a.picks.now a.full (ready _ _ _ _ c.requires.le_n c.requires.full_in_bounds)
    f.result f.ensures z.result c.line_up-line.result z.ensures c.line_up-line.ensures))

pub members-requires : goal.members-requires
members-requires c =
    let a = c.args.self in
    let z = c.size-size in
    let f = c.size_picks-first in
    let r = ready a.n a.recovering.now a.picks.now a.full c.requires.le_n c.requires.full_in_bounds in
    ap (tally (leb 15)) (front_is a.n a.recovering.now a.picks.now a.full r f.result f.ensures z.result c.line_up-line.result z.ensures c.line_up-line.ensures)
    ∙ front_below a.n a.recovering.now a.picks.now a.full r 15 c.requires.le_n.1

pub returns : goal.returns
returns c =
    let a = c.args.self in
    let z = c.size-size in
    let f = c.size_picks-first in
    let r = ready a.n a.recovering.now a.picks.now a.full c.requires.le_n c.requires.full_in_bounds in
    c.members.ensures
    ∙ (ap (λ l. in_core l 0 15)
    (front_is a.n a.recovering.now a.picks.now a.full r f.result f.ensures z.result c.line_up-line.result z.ensures c.line_up-line.ensures)
    ∙ flags_of_front a.n a.recovering.now a.picks.now a.full r)

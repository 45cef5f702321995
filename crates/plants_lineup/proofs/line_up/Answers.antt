-- `plants_lineup::line_up` meets its contract: the plants are dealt at the front of one array and arranged at the front of another. Assumes nothing.
use Rattle.std.proofs.Common.{◌≡◌, true, ap, ◌∙◌, List, ℕ, ◌++◌, ◌≤◌, ◌-◌, length, take, drop}
use Rattle.std.proofs.Math.ListN.{replicate}
use Rattle.std.proofs.Math.Seq.{length-take-le, take_at}
use Rattle.basis.specs.Basis.{quorum}
use Rattle.plants_lineup.specs.Shuffle.{picks_within}
use Rattle.plants_lineup.specs.Core.{candidates, recovering_fit, healthy_count, line_up}
use Rattle.plants_lineup.proofs.Lining.{dealt_length, ready, lined_up}
use Rattle.plants_lineup.proofs.Walks.{drop_zeros}
use Rattle.plants_lineup.proofs.line_up.Goals as goal

-- an array has room for the plants
room : (n : ℕ) → n ≤ 15 → length (take {A = ℕ} n (replicate 15 0)) ≡ n
room n h = length-take-le n (replicate 15 0) h

module _ (n : ℕ) (flags first second ids : List ℕ) (small : n ≤ 15) (fit : recovering_fit flags ≡ true) (enough : quorum n ≤ healthy_count n flags)
    (first-within : picks_within (n - 1) first ≡ true) (second-within : picks_within (n - quorum n - 1) second ≡ true)
    (dealt : ids ≡ candidates (length (take {A = ℕ} n (replicate 15 0))) first) where
  -- the plants as they were dealt
  dealt_is : ids ≡ candidates n first
  dealt_is = dealt ∙ ap (λ k. candidates k first) (room n small)

  dealt_all : length ids ≡ n
  dealt_all = ap length dealt_is ∙ dealt_length n flags first second fit enough first-within second-within

  dealt_front : take n (ids ++ drop n (replicate 15 0)) ≡ ids
  dealt_front = take_at ids _ _ dealt_all

pub arrange-requires : goal.arrange-requires
arrange-requires c =
    let a = c.args in
    let p = c.requires in
    let e = dealt_front a.n a.flags.now a.first.now a.second.now c.deal.new.ids p.le_n.1 p.le_n.3 p.le_n.4 p.n_in_bounds.1 p.n_in_bounds_2.1 c.deal.ensures
    ∙ dealt_is a.n a.flags.now a.first.now a.second.now c.deal.new.ids p.le_n.1 p.le_n.3 p.le_n.4 p.n_in_bounds.1 p.n_in_bounds_2.1 c.deal.ensures in
    let r = ready a.n a.flags.now a.first.now a.second.now p.le_n.3 p.le_n.4 p.n_in_bounds.1 p.n_in_bounds_2.1 _ e p.le_n.2
    _ (room a.n p.le_n.1) p.le_n.0 p.n_in_bounds_2.0 in
    record { ids_value = r.0; ids_bound = r.1.0; ids_in_bounds = r.1.1 }

pub returns : goal.returns
returns c =
    let a = c.args in
    let p = c.requires in
    let e = dealt_front a.n a.flags.now a.first.now a.second.now c.deal.new.ids p.le_n.1 p.le_n.3 p.le_n.4 p.n_in_bounds.1 p.n_in_bounds_2.1 c.deal.ensures
    ∙ dealt_is a.n a.flags.now a.first.now a.second.now c.deal.new.ids p.le_n.1 p.le_n.3 p.le_n.4 p.n_in_bounds.1 p.n_in_bounds_2.1 c.deal.ensures in
    lined_up a.n a.flags.now a.first.now a.second.now p.le_n.3 p.le_n.4 p.n_in_bounds.1 p.n_in_bounds_2.1 _ e p.le_n.2
    c.arrange.new.line (drop a.n (replicate 15 0)) c.arrange.ensures
    ∙ ap (λ x. line_up a.n a.flags.now a.first.now a.second.now ++ x) (drop_zeros a.n 15)

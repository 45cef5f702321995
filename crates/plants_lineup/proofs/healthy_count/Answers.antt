-- `plants_lineup::healthy_count` meets its contract. Assumes nothing.
use Rattle.std.proofs.Common.{◌≡◌, ◌∙◌, eqb, rules}
use Rattle.std.specs.List.{count_by}
use Rattle.plants_lineup.proofs.Walks.{healthy_by_count}
use Rattle.plants_lineup.proofs.healthy_count.Goals as goal

pub returns : goal.returns
returns c =
    let e : c.count.result ≡ count_by (λ f. eqb f 0) c.args.flags.now = search rules in
    e ∙ healthy_by_count c.args.flags.now

-- `properties_durability::participants` meets its contract: the plants not recovering are counted. Assumes nothing.
use Rattle.std.proofs.Common.{rules, tests, arith, not, ℕ, Bool, eqb, get_or, sym, ap, ◌∙◌}
use Rattle.std.proofs.lemmas.Iterator.{YieldsList-from_range}
use Rattle.std.proofs.lemmas.Iterator.Consumers.{YieldsList-from_filter, count_from_yields_List}
use Rattle.properties_snapshots.specs.Layout.{recovering_at}
use Rattle.properties_snapshots.specs.Cluster.{plant, cluster_in}
use Rattle.properties_snapshots.proofs.Held.{recovering_held}
use Rattle.properties_durability.specs.Durability.{participants}
use Rattle.properties_durability.proofs.Counted.{count_range, count_same}
use Rattle.properties_durability.proofs.participants.Goals as goal

pub returns-clause-counted : goal.returns-clause-counted
unfolding participants
returns-clause-counted c = λ l t.
    let a = c.args in
    let h : ℕ → Bool = λ q. not (eqb (get_or a.plants.now (recovering_at q) 0) 1) in
    count_from_yields_List _ c.count.result c.count.ensures.ran
    (YieldsList-from_filter _ h (YieldsList-from_range 0 a.n a.n c.filter.ensures.source (omega arith)) c.filter.ensures.closure (λ x b q k. search (rules, tests)))
    ∙ (count_range h a.n ∙ count_same a.n h (λ q. not (plant (cluster_in a.n a.plants.now l t) q).recovering) (λ q k. ap not (sym (recovering_held a.n a.plants.now l t q k))))

-- `properties_durability::holders` meets its contract: the plants that hold a copy are counted. Assumes nothing.
use Rattle.std.proofs.Common.{rules, tests, arith, ℕ, Bool, ◌∙◌}
use Rattle.std.proofs.lemmas.Iterator.{YieldsList-from_range}
use Rattle.std.proofs.lemmas.Iterator.Consumers.{YieldsList-from_filter, count_from_yields_List}
use Rattle.properties_snapshots.specs.Snapshots.{cluster_of}
use Rattle.properties_durability.specs.Durability.{holds_copy}
use Rattle.properties_durability.proofs.Counted.{count_range}
use Rattle.properties_durability.proofs.holders.Goals as goal

pub returns : goal.returns
returns c = λ e t z.
    let a = c.args in
    let n = a.snapshot.now.n in
    let h : ℕ → Bool = holds_copy (cluster_of a.snapshot.now t) a.i e in
    count_from_yields_List _ c.count.result c.count.ensures.ran
    (YieldsList-from_filter _ h (YieldsList-from_range 0 n n c.filter.ensures.source (omega arith)) c.filter.ensures.closure (λ x b q k. search (rules, tests)))
    ∙ count_range h n

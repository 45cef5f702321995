-- `properties_agreement::committer` meets its contract: it is the first that the search over the plants finds. Assumes nothing.
use Rattle.std.proofs.Common.{rules, tests, ◌≤◌, ◌<◌, ◌-◌, ◌∙◌}
use Rattle.std.proofs.lemmas.Iterator.{first_from_Range}
use lib.ListN.{get_or}
use Rattle.properties_snapshots.specs.Layout.{commit_at}
use Rattle.properties_agreement.proofs.Reached.{first_found}
use Rattle.properties_agreement.proofs.committer.Goals as goal

pub returns-clause-first : goal.returns-clause-first
returns-clause-first c = λ l t.
    let a = c.args in
    c.unwrap_or.ensures
    ∙ first_found a.n a.plants.now l t a.i c.find.result
    (first_from_Range (record { start = 0; end = a.n - 1 }) _ _ c.find.result (λ q. a.i < get_or a.plants.now (commit_at q) 0)
    (λ q. get_or a.plants.now (commit_at q) 0 ≤ a.i) c.find.ensures.ran (λ x q k. search (rules, tests)) (λ x q k. search (rules, tests)))

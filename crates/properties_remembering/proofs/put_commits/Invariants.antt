use Rattle.std.proofs.Common.{◌≡◌, ℕ, List, get_or}
use Rattle.basis.specs.Basis.{laid}
use Rattle.properties_snapshots.specs.Below.{numbered}
use Rattle.properties_snapshots.specs.Layout.{commit_at, lasts_at}
use Rattle.properties_remembering.proofs.put_commits.Given as goal

abbrev pub commits : List ℕ → ℕ → ℕ
commits p r = get_or p (commit_at r) 0

abbrev pub invariant-loop-r : goal.invariant-loop-r
invariant-loop-r l = l.tracker ≡ laid l.initial.tracker lasts_at (numbered l.r (commits l.snapshot.plants.now))

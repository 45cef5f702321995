use Rattle.std.proofs.Common.{◌≡◌, ◌+◌, ◌-◌, ℕ, List, get_or}
use Rattle.basis.specs.Basis.{laid}
use Rattle.properties_snapshots.specs.Below.{numbered}
use Rattle.properties_snapshots.specs.Layout.{id_at, entry_at, seen_at}
use Rattle.properties_remembering.proofs.put_plant_ids.Given as goal

abbrev pub ids : List ℕ → ℕ → ℕ → ℕ → ℕ
ids l r from k = get_or l (id_at (entry_at r (from + k))) 0

abbrev pub invariant-loop-i : goal.invariant-loop-i
invariant-loop-i l = l.tracker ≡ laid l.initial.tracker (seen_at l.snapshot.n l.r l.last) (numbered (l.i - l.last) (ids l.snapshot.logs.now l.r l.last))

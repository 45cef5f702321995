use Rattle.std.proofs.Common.{◌≡◌, ◌+◌, ◌-◌, ℕ, List}
use Rattle.basis.specs.Basis.{laid}
use Rattle.properties_snapshots.specs.Below.{numbered}
use Rattle.properties_snapshots.specs.Cluster.{LogEntry, words_of_entries, entry_in, cluster_in}
use Rattle.properties_snapshots.specs.Layout.{entry_at, canonical_at}
use Rattle.properties_agreement.specs.Agreement.{committer}
use Rattle.properties_remembering.proofs.append.Given as goal

-- the entry that is appended behind the first k of them
abbrev pub source : ℕ → List ℕ → List ℕ → List ℕ → ℕ → ℕ → LogEntry
source n p l t known k = entry_in l (entry_at (committer (cluster_in n p l t) (known + k)) (known + k))

abbrev pub invariant-loop-i : goal.invariant-loop-i
invariant-loop-i l =
    (t : List ℕ) → l.tracker ≡ laid l.initial.tracker (canonical_at l.snapshot.n l.known)
    (words_of_entries (numbered (l.i - l.known) (source l.snapshot.n l.snapshot.plants.now l.snapshot.logs.now t l.known)))

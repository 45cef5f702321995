-- `properties_canonical::canonical_copies` meets its contract: the holders of the canonical entry. Assumes nothing.
use Rattle.properties_snapshots.specs.Snapshots.{cluster_at}
use Rattle.properties_agreement.specs.Agreement.{canonical_entry}
use Rattle.properties_canonical.specs.Canonical.{canonical_copies}
use Rattle.properties_canonical.proofs.canonical_copies.Goals as goal

pub returns : goal.returns
unfolding canonical_copies
returns c = λ r h k.
    let a = c.args.advance.now in
    c.holders.ensures (canonical_entry (cluster_at a) c.args.i) a.tracker.now (c.canonical_entry-entry.ensures r h k)

-- `properties_durability::copies` meets its contract: the holders of the entry of plant r, which stands in the log words. Assumes nothing.
use mathlib.Core.Path.{sym, ap, ◌∙◌}
use Rattle.properties_snapshots.specs.Cluster.{words_of_entry, entry}
use Rattle.properties_snapshots.specs.Snapshots.{cluster_of}
use Rattle.properties_snapshots.proofs.Held.{entry_held}
use Rattle.properties_durability.specs.Durability.{copies_of}
use Rattle.properties_durability.proofs.copies.Goals as goal

pub returns : goal.returns
unfolding copies_of
returns c = λ t.
    let a = c.args in
    let s = a.snapshot.now in
    c.holders.ensures (entry (cluster_of s t) a.r a.i) t
    (c.entry.ensures ∙ ap words_of_entry (sym (entry_held s.n s.plants.now s.logs.now t a.r c.requires.0 a.i c.requires.1)))

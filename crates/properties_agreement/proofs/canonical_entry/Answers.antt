-- `properties_agreement::canonical_entry` meets its contract: the canonical entry stands in the tracker, or in the log of the first plant that
-- committed it. Assumes nothing.
use native.Mathlib.Omega.{arith}
use mathlib.Core.Path.{sym, ap, ◌∙◌}
use Prim.Native.Nat.{ℕ}
use Rattle.properties_snapshots.specs.Cluster.{words_of_entry, entry_in}
use Rattle.properties_snapshots.specs.Layout.{entry_at}
use Rattle.properties_agreement.proofs.Reached.{canonical_known, canonical_new}
use Rattle.properties_agreement.proofs.canonical_entry.Goals as goal

pub returns-then-i-known : goal.returns-then-i-known
returns-then-i-known c = λ r h k.
    let a = c.args.advance.now in
    let s = a.snapshot in
    c.canonical.ensures
    ∙ ap words_of_entry (sym (canonical_known s.n s.plants.now s.logs.now a.tracker.now s.fits a.forward c.args.i (omega (arith, c.known.ensures.length, c.if-i-known.true))))

pub returns : goal.returns
returns c = λ r h k.
    let a = c.args.advance.now in
    let s = a.snapshot in
    c.entry.ensures
    ∙ ap words_of_entry
    (ap (λ (q : ℕ). entry_in s.logs.now (entry_at q c.args.i)) (c.committer-q.ensures.first s.logs.now a.tracker.now)
    ∙ sym (canonical_new s.n s.plants.now s.logs.now a.tracker.now s.fits a.forward c.args.i r h k (omega (arith, c.known.ensures.length, c.if-i-known.false))))

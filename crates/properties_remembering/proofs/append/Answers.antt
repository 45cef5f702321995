-- `properties_remembering::append` meets its contract. The loop's invariant: the entries passed are laid. Assumes nothing.
use native.Mathlib.Omega.{arith}
use mathlib.Core.List.{List, ◌++◌}
use mathlib.Core.Path.{◌≡◌, refl, sym, ap, ◌∙◌}
use Prim.Native.Nat.{ℕ, ◌+◌, ◌-◌, ◌*◌, ◌≤◌}
use lib.ListN.{length}
use Rattle.properties_snapshots.specs.Below.{numbered}
use Rattle.properties_snapshots.specs.Cluster.{LogEntry, words_of_entry, words_of_entries, entry_in, cluster_in}
use Rattle.basis.specs.Basis.{laid}
use Rattle.properties_snapshots.specs.Layout.{entry_words, entry_at, canonical_at}
use Rattle.properties_snapshots.proofs.Below.{length-numbered, numbered_more, numbered_none}
use Rattle.properties_snapshots.proofs.Laid.{laid_none, laid_on}
use Rattle.properties_agreement.specs.Agreement.{committer}
use Rattle.properties_remembering.proofs.Written.{length_words, words_more}
use Rattle.properties_remembering.proofs.append.Invariants.{source}
use Rattle.properties_remembering.proofs.append.Goals as goal

module _ (n : ℕ) (p l t w : List ℕ) (known i q from to : ℕ) (after : known ≤ i) (room : canonical_at n known + (i - known) * entry_words + entry_words ≤ length w) where
  -- one entry more
  another : q ≡ committer (cluster_in n p l t) i → from ≡ entry_at q i → to ≡ canonical_at n i
      → laid (laid w (canonical_at n known) (words_of_entries (numbered (i - known) (source n p l t known)))) to (words_of_entry (entry_in l from))
      ≡ laid w (canonical_at n known) (words_of_entries (numbered (i + 1 - known) (source n p l t known)))
  another e f g =
      let m = i - known in
      let es = numbered m (source n p l t known) in
      let long : length (words_of_entries (numbered m (source n p l t known))) ≡ m * entry_words = length_words es ∙ ap (λ (k : ℕ). k * entry_words)
      (length-numbered m (source n p l t known)) in
      let z : i ≡ known + m = omega arith in
      let y : m + 1 ≡ i + 1 - known = omega arith in
      let x : entry_in l from ≡ source n p l t known m =
      ap (λ (k : ℕ). entry_in l k) f ∙ (ap (λ (k : ℕ). entry_in l (entry_at k i)) e ∙ ap (λ (k : ℕ). entry_in l (entry_at (committer (cluster_in n p l t) k) k)) z) in
      laid_on w (canonical_at n known) (words_of_entries es) (words_of_entry (entry_in l from)) to (omega arith) (omega arith)
      ∙ (ap (λ (u : LogEntry). laid w (canonical_at n known) (words_of_entries es ++ words_of_entry u)) x
      ∙ (ap (laid w (canonical_at n known)) (sym (words_more es (source n p l t known m)) ∙ ap words_of_entries (sym (numbered_more m (source n p l t known))))
      ∙ ap (λ (k : ℕ). laid w (canonical_at n known) (words_of_entries (numbered k (source n p l t known)))) y))

nothing : (n : ℕ) (p l t w : List ℕ) (known : ℕ) → w ≡ laid w (canonical_at n known) (words_of_entries (numbered (known - known) (source n p l t known)))
unfolding words_of_entries
nothing n p l t w known =
    let z : known - known ≡ 0 = omega arith in
    rw (z, numbered_none (source n p l t known)) (sym (laid_none w (canonical_at n known)))

pub loop-i-init : goal.loop-i-init
loop-i-init c = λ t.
    let a = c.args in
    let s = a.snapshot.now in
    nothing s.n s.plants.now s.logs.now t a.tracker.now a.known

pub loop-i-preserved : goal.loop-i-preserved
loop-i-preserved c = λ t.
    let a = c.args in
    let s = a.snapshot.now in
    let loop = c.loop-i in
    let q = c.committer-q in
    let to = c.canonical_at-to in
    c.copy_entry.ensures
    ∙ (ap (laid loop.tracker to.result) c.entry.ensures
    ∙ (ap (λ (x : List ℕ). laid x to.result (words_of_entry (entry_in s.logs.now (entry_at q.result loop.i)))) (loop.invariant t)
    ∙ another s.n s.plants.now s.logs.now t a.tracker.now a.known loop.i q.result (entry_at q.result loop.i) to.result
    (omega arith) (omega (arith, s.fits.few)) (q.ensures.first s.logs.now t) refl to.ensures))

pub returns : goal.returns
returns c = λ t.
    let a = c.args in
    let s = a.snapshot.now in
    let loop = c.loop-i in
    let z : loop.i ≡ a.longest = omega arith in
    loop.invariant t ∙ ap (λ (k : ℕ). laid a.tracker.now (canonical_at s.n a.known)
    (words_of_entries (numbered (k - a.known) (source s.n s.plants.now s.logs.now t a.known)))) z

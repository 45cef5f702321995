-- `properties_judge::entries` meets its contract. The outer loop's invariant: what the plants from r on answer is what all answer; the inner one's:
-- what the entries from i on answer is what all of the plant's newly committed ones answer. Assumes nothing.
use native.Mathlib.Omega.{arith}
use mathlib.Core.Path.{◌≡◌, sym, ap, ◌∙◌}
use Prim.Native.Nat.{ℕ, ◌<◌}
use lib.ListN.{get_or}
use Rattle.properties_snapshots.specs.Layout.{commit_at}
use Rattle.std.specs.Prelude.{Option, Some}
use Rattle.properties_snapshots.specs.Snapshots.{cluster_at}
use Rattle.properties_snapshots.proofs.Held.{commit_held, last_held}
use Rattle.properties_verdicts.specs.Verdicts.{broken}
use Rattle.properties_verdicts.proofs.First.{first_on, first_stop, first_end}
use Rattle.properties_judge.proofs.entries.Invariants.{at, of_plant}
use Rattle.properties_judge.proofs.entries.Goals.{else-plants-test, then-plants-test+then-loop-i-test+then-not-holds}
use Rattle.properties_judge.proofs.entries.Goals as goal

-- the place that was found is the place that is told
told : (x : Option (ℕ × ℕ)) (r i p q : ℕ) → x ≡ Some (r, i) → x ≡ Some (p, q) → (p ≡ r) × (q ≡ i)
told x r i p q e f = let h : ◌≡◌ {A = ℕ × ℕ} (r, i) (p, q) = cc in
    (sym (ap (λ (z : ℕ × ℕ). z.0) h), sym (ap (λ (z : ℕ × ℕ). z.1) h))

pub loop-i-init : goal.loop-i-init
loop-i-init g c = (
  c.plants.invariant.0,
  λ f tells.
      let a = c.args.advance.now in
      let s = a.snapshot in
      let h = c.plants-test.true in
      rw (
        last_held s.n s.plants.now s.logs.now a.tracker.now c.plants.r h,
        commit_held s.n s.plants.now s.logs.now a.tracker.now c.plants.r h,
        c.commit_of-commit.ensures.commit,
        c.last_of-last.ensures.last,
      ),
)

pub loop-i-preserved : goal.loop-i-preserved
loop-i-preserved g c = (
  c.loop-i.invariant.0,
  λ f tells.
      let i = c.loop-i.i in
      let r = c.plants.r in
      c.loop-i.invariant.1 f tells
      ∙ first_on (at c.args.property f r) i c.commit_of-commit.result c.loop-i-test.true
      (rw (sym (tells r i _ c.plants-test.true (omega (arith, c.commit_of-commit.ensures.commit, c.loop-i-test.true)) c.holds.ensures) ∙ c.if-not-holds.false)),
)

pub plants-preserved : goal.plants-preserved
plants-preserved g c = (
  c.loop-i.invariant.0,
  λ f tells.
      let a = c.args.advance.now in
      let r = c.plants.r in
      c.plants.invariant.1 f tells
      ∙ first_on (of_plant c.args.property f (cluster_at a)) r a.snapshot.n c.plants-test.true
      (c.loop-i.invariant.1 f tells ∙ first_end (at c.args.property f r) c.loop-i.i c.commit_of-commit.result c.loop-i-test.false),
)

pub returns-in-None : goal.returns-in-None
returns-in-None g c = λ f tells.
    let a = c.args.advance.now in
    elim c.plants-test.branch [
      | else-plants-test w ↦
          sym (c.plants.invariant.1 f tells ∙ first_end (of_plant c.args.property f (cluster_at a)) c.plants.r a.snapshot.n w.plants-test.false)
      | then-plants-test+then-loop-i-test+then-not-holds w ↦ cc (w.broken-is, c.in-None.is)
    ]

pub returns : goal.returns
returns g c = λ f tells.
    let a = c.args.advance.now in
    let p = c.args.property in
    let r = c.plants.r in
    elim c.plants-test.branch [
      | else-plants-test w ↦ cc (w.broken-is, c.plants.invariant.0, c.in-Some.is)
      | then-plants-test+then-loop-i-test+then-not-holds w ↦
          let i = w.loop-i.i in
          let place = told c.plants-test.broken r i c.in-Some.plant c.in-Some.index w.broken-is c.in-Some.is in
          let within : i < get_or a.snapshot.plants.now (commit_at r) 0 = omega (arith, w.commit_of-commit.ensures.commit, w.loop-i-test.true) in
          rw (place.0, place.1)
          (sym
          (c.plants.invariant.1 f tells
          ∙ first_stop (of_plant p f (cluster_at a)) r a.snapshot.n (broken p r i 1) w.plants-test.true
          (w.loop-i.invariant.1 f tells
          ∙ first_stop (at p f r) i w.commit_of-commit.result (broken p r i 1) w.loop-i-test.true
          (rw (sym (tells r i _ w.plants-test.true within w.holds.ensures) ∙ w.if-not-holds.true)))))
    ]

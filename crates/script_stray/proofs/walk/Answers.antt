-- `script_stray::walk` meets its contract. The loop's invariant: what is left, from the spot and the line reached, has the text's first stray
-- line. Assumes nothing.
use Rattle.std.proofs.Common.{◌≡◌, sym, ap, ◌∙◌, true, false, List, ◌∷◌, ℕ, zero, suc, ◌+◌, ◌≤◌, ◌<◌, length, drop, get_or, None, Some, add-one, arith}
use borrow.Author.Tests.{eq-eqb, ne_eqb}
use lib.ListN.{drop_of_length-le}
use lib.Seq.{drop-cons}
use Rattle.script_stray.specs.Stray.{stray_line, line_told}
use Rattle.script_stray.specs.Walk.{spot_after, spot_ends, stray_from}
use Rattle.script_stray.specs.declared.Spot.{Spot}
use Rattle.script_stray.specs.declared.Spot.TheVariants.{Words}
use Rattle.script_stray.proofs.Walking.{walk_finds}
use Rattle.script_stray.proofs.walk.Invariants.{Left}
use Rattle.script_stray.proofs.walk.Goals as goal
use Rattle.script_stray.proofs.walk.Goals.{then-byte-ne-LINE_FEED, else-byte-ne-LINE_FEED+then-ends}

-- a line that is told
told : (n : ℕ) (m : ℕ) → 1 ≤ n → m ≡ n → Some n ≡ line_told m
unfolding line_told
told zero m h e = absurd (omega arith)
told (suc n) m h e = sym (ap line_told e)

none : (m : ℕ) → m ≡ 0 → None ≡ line_told m
unfolding line_told
none m e = sym (ap line_told e)

module _ (text : List ℕ) (n : ℕ) (spot : Spot) (i : ℕ) (h : i < length text) (w : Left text n spot i) where
  here : drop i text ≡ get_or text i 0 ∷ drop (i + 1) text
  here = rw add-one (drop-cons text i 0 h)

  no_end : get_or text i 0 ≡ 10 → false ≡ spot_ends spot → stray_line text ≡ n
  unfolding stray_from
  no_end e f = rw (here, eq-eqb (get_or text i 0) 10 e, ← f) at w

  next_line : get_or text i 0 ≡ 10 → true ≡ spot_ends spot → Left text (n + 1) Words (i + 1)
  unfolding stray_from
  next_line e f = rw (add-one n) (rw (here, eq-eqb (get_or text i 0) 10 e, ← f) at w)

  same_line : (get_or text i 0 ≡ 10 → ⊥) → Left text n (spot_after spot (get_or text i 0)) (i + 1)
  unfolding stray_from
  same_line e = rw (here, ne_eqb (get_or text i 0) 10 e) at w

module _ (text : List ℕ) (n : ℕ) (spot : Spot) (i : ℕ) (h : length text ≤ i) (w : Left text n spot i) where
  fine : true ≡ spot_ends spot → stray_line text ≡ 0
  unfolding stray_from
  fine f = rw (drop_of_length-le text {i = i} h, ← f) at w

  cut : false ≡ spot_ends spot → stray_line text ≡ n
  unfolding stray_from
  cut f = rw (drop_of_length-le text {i = i} h, ← f) at w

pub loop-byte-init : goal.loop-byte-init
loop-byte-init c = (omega arith, omega arith, walk_finds c.args.text.now)

pub returns-else-ends : goal.returns-else-ends
returns-else-ends c = told c.loop-byte.number _ c.loop-byte.invariant.0
    (no_end c.args.text.now c.loop-byte.number c.loop-byte.spot c.loop-byte.byte-index c.loop-byte-test.true c.loop-byte.invariant.2
    c.if-byte-ne-LINE_FEED.false (sym c.if-ends.false ∙ c.ends.ensures))

pub loop-byte-preserved : goal.loop-byte-preserved
loop-byte-preserved c =
    let t = c.args.text.now in
    let l = c.loop-byte in
    let h = c.loop-byte-test.true in
    elim c.if-byte-ne-LINE_FEED.branch [
      | then-byte-ne-LINE_FEED w ↦ (
        omega (arith, l.invariant.0, w.number-is),
        omega (arith, l.invariant.1, w.number-is),
        rw (w.number-is, w.spot-is, w.after-spot.ensures) (same_line t l.number l.spot l.byte-index h l.invariant.2 w.if-byte-ne-LINE_FEED.true),
      )
      | else-byte-ne-LINE_FEED+then-ends w ↦ (
        omega (arith, l.invariant.0, w.number-is),
        omega (arith, l.invariant.1, w.number-is),
        rw (w.number-is, w.spot-is) (next_line t l.number l.spot l.byte-index h l.invariant.2 w.if-byte-ne-LINE_FEED.false (sym w.if-ends.true ∙ w.ends.ensures)),
      )
    ]

pub returns-then-ends-2 : goal.returns-then-ends-2
returns-then-ends-2 c = none _ (fine c.args.text.now c.loop-byte.number c.loop-byte.spot c.loop-byte.byte-index (omega arith) c.loop-byte.invariant.2
    (sym c.if-ends-2.true ∙ c.ends-2.ensures))

pub returns-else-ends-2 : goal.returns-else-ends-2
returns-else-ends-2 c = told c.loop-byte.number _ c.loop-byte.invariant.0
    (cut c.args.text.now c.loop-byte.number c.loop-byte.spot c.loop-byte.byte-index (omega arith) c.loop-byte.invariant.2
    (sym c.if-ends-2.false ∙ c.ends-2.ensures))

-- `script_utf8::surely` meets its contract. The loop's invariant: as long as no byte was wrong, what is left is read as the last three
-- bytes have it. Assumes nothing.
use Rattle.std.proofs.Common.{◌≡◌, sym, subst, ◌∙◌, Bool, true, false, not, ◌||◌, List, ℕ, ◌+◌, ◌-◌, ◌≤◌, ◌<◌, leb, length, get_or, arith}
use borrow.Author.Tests.{leb-false, not-true}
use Rattle.script_utf8.specs.Utf8.{is_utf8}
use Rattle.script_utf8.specs.Sure.{wrong_at}
use Rattle.script_utf8.proofs.Sure.{neither, Read, reads_on, reads_first, reads_to_the_end}
use Rattle.script_utf8.proofs.surely.Goals as goal

on : (text : List ℕ) (i : ℕ) (bad w : Bool) → 3 ≤ i → i < length text → (bad ≡ false → Read text i)
    → w ≡ wrong_at (get_or text (i - 3) 0) (get_or text (i - 2) 0) (get_or text (i - 1) 0) (get_or text i 0) → (bad || w) ≡ false → Read text (i + 1)
on text i bad w l h inv f e = let a = neither bad w e in reads_on text i l h (inv a.0) (sym f ∙ a.1)

ends : (text : List ℕ) (bad : Bool) → (bad ≡ false → Read text (length text))
    → (a b c : ℕ) → a ≤ 0xC2 → b ≤ 0xE0 → c ≤ 0xF0
    → not (bad || ((leb a (get_or text (length text - 1) 0) || leb b (get_or text (length text - 2) 0)) || leb c (get_or text (length text - 3) 0))) ≡ true
    → is_utf8 text ≡ true
ends text bad inv a b c ha hb hc fine =
    let r : ℕ = get_or text (length text - 3) 0 in
    let q : ℕ = get_or text (length text - 2) 0 in
    let p : ℕ = get_or text (length text - 1) 0 in
    let t = neither bad ((leb a p || leb b q) || leb c r) (not-true _ fine) in
    let u = neither (leb a p || leb b q) (leb c r) t.1 in
    let v = neither (leb a p) (leb b q) u.0 in
    let x = leb-false a p v.0 in
    let y = leb-false b q v.1 in
    let z = leb-false c r u.1 in
    reads_to_the_end text (inv t.0) (omega (arith, x), omega (arith, y), omega (arith, z))

pub loop-i-init : goal.loop-i-init
loop-i-init c = λ e. reads_first c.args.text.now (omega arith) c.if-text-ge128.false c.if-text-ge128-2.false (sym c.wrong-bad.ensures ∙ e)

pub loop-i-preserved : goal.loop-i-preserved
loop-i-preserved c = on c.args.text.now c.loop-i.i c.loop-i.bad c.wrong-bad-in-loop-i.result (omega arith) (omega arith)
    c.loop-i.invariant c.wrong-bad-in-loop-i.ensures

pub returns : goal.returns
returns c =
    let t = c.args.text.now in
    let e : c.loop-i.i ≡ length t = omega arith in
    ends t c.loop-i.bad (subst (λ n. c.loop-i.bad ≡ false → Read t n) e c.loop-i.invariant) _ _ _ (omega arith) (omega arith) (omega arith)

-- `script::fault::fault_of` meets its contract: the names are tried in the definition's order. Assumes nothing.
use mathlib.Core.Bool.{true, false}
use mathlib.Core.Path.{◌≡◌, sym, ◌∙◌}
use Rattle.script.specs.Faults.{same, crash, restart, reboot, partition, heal, heal_all, named_by}
use Rattle.script.proofs.fault.fault_of.Goals as goal

pub returns-then-is : goal.returns-then-is
unfolding named_by
returns-then-is c = let w = c.args.word.now in
    let e1 : same w crash ≡ true = sym c.is.ensures ∙ c.if-is.true in
    rw (e1)

pub returns-then-is-2 : goal.returns-then-is-2
unfolding named_by
returns-then-is-2 c = let w = c.args.word.now in
    let e1 : same w crash ≡ false = sym c.is.ensures ∙ c.if-is.false in
    let e2 : same w restart ≡ true = sym c.is-2.ensures ∙ c.if-is-2.true in
    rw (e1, e2)

pub returns-then-is-3 : goal.returns-then-is-3
unfolding named_by
returns-then-is-3 c = let w = c.args.word.now in
    let e1 : same w crash ≡ false = sym c.is.ensures ∙ c.if-is.false in
    let e2 : same w restart ≡ false = sym c.is-2.ensures ∙ c.if-is-2.false in
    let e3 : same w reboot ≡ true = sym c.is-3.ensures ∙ c.if-is-3.true in
    rw (e1, e2, e3)

pub returns-then-is-4 : goal.returns-then-is-4
unfolding named_by
returns-then-is-4 c = let w = c.args.word.now in
    let e1 : same w crash ≡ false = sym c.is.ensures ∙ c.if-is.false in
    let e2 : same w restart ≡ false = sym c.is-2.ensures ∙ c.if-is-2.false in
    let e3 : same w reboot ≡ false = sym c.is-3.ensures ∙ c.if-is-3.false in
    let e4 : same w partition ≡ true = sym c.is-4.ensures ∙ c.if-is-4.true in
    rw (e1, e2, e3, e4)

pub returns-then-is-5 : goal.returns-then-is-5
unfolding named_by
returns-then-is-5 c = let w = c.args.word.now in
    let e1 : same w crash ≡ false = sym c.is.ensures ∙ c.if-is.false in
    let e2 : same w restart ≡ false = sym c.is-2.ensures ∙ c.if-is-2.false in
    let e3 : same w reboot ≡ false = sym c.is-3.ensures ∙ c.if-is-3.false in
    let e4 : same w partition ≡ false = sym c.is-4.ensures ∙ c.if-is-4.false in
    let e5 : same w heal ≡ true = sym c.is-5.ensures ∙ c.if-is-5.true in
    rw (e1, e2, e3, e4, e5)

pub returns-then-is-6 : goal.returns-then-is-6
unfolding named_by
returns-then-is-6 c = let w = c.args.word.now in
    let e1 : same w crash ≡ false = sym c.is.ensures ∙ c.if-is.false in
    let e2 : same w restart ≡ false = sym c.is-2.ensures ∙ c.if-is-2.false in
    let e3 : same w reboot ≡ false = sym c.is-3.ensures ∙ c.if-is-3.false in
    let e4 : same w partition ≡ false = sym c.is-4.ensures ∙ c.if-is-4.false in
    let e5 : same w heal ≡ false = sym c.is-5.ensures ∙ c.if-is-5.false in
    let e6 : same w heal_all ≡ true = sym c.is-6.ensures ∙ c.if-is-6.true in
    rw (e1, e2, e3, e4, e5, e6)

pub returns : goal.returns
unfolding named_by
returns c = let w = c.args.word.now in
    let e1 : same w crash ≡ false = sym c.is.ensures ∙ c.if-is.false in
    let e2 : same w restart ≡ false = sym c.is-2.ensures ∙ c.if-is-2.false in
    let e3 : same w reboot ≡ false = sym c.is-3.ensures ∙ c.if-is-3.false in
    let e4 : same w partition ≡ false = sym c.is-4.ensures ∙ c.if-is-4.false in
    let e5 : same w heal ≡ false = sym c.is-5.ensures ∙ c.if-is-5.false in
    let e6 : same w heal_all ≡ false = sym c.is-6.ensures ∙ c.if-is-6.false in
    rw (e1, e2, e3, e4, e5, e6)

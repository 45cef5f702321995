-- `plants_layout::put_flags` meets its contract: the flags written so far stand from the place on. Assumes nothing.
use Rattle.std.proofs.Common.{◌≡◌, refl, ◌∙◌, arith}
use lib.Seq.{paste-zero}
use Rattle.plants_layout.specs.Layout.{bits}
use Rattle.plants_layout.proofs.Writing.{one_more, all_written}
use Rattle.plants_layout.proofs.Walking.{length-bits, bit_at}
use Rattle.plants_layout.proofs.put_flags.Goals as goal

pub loop-i-init : goal.loop-i-init
loop-i-init c = paste-zero c.args.words.now c.args.at (bits c.args.flags.now)

pub loop-i-preserved : goal.loop-i-preserved
loop-i-preserved c = let a = c.args in
    one_more a.words.now a.at (bits a.flags.now) c.loop-i.i _ _ 0 c.loop-i.words refl
    (c.from.ensures ∙ bit_at a.flags.now c.loop-i.i) (omega arith) (omega (arith, length-bits a.flags.now)) c.loop-i.invariant

pub returns : goal.returns
returns c = let a = c.args in
    let z : c.loop-i.i ≡ 15 = omega arith in
    rw z at c.loop-i.invariant ∙ all_written a.words.now a.at (bits a.flags.now) 15 (length-bits a.flags.now ∙ omega arith)

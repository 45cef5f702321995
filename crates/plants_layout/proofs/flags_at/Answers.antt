-- `plants_layout::flags_at` meets its contract: the flags read so far stand in front. Assumes nothing.
use Rattle.std.proofs.Common.{◌≡◌, refl, ◌∙◌, false, length, take, drop, arith}
use Rattle.std.proofs.Math.ListN.{replicate}
use lib.Seq.{paste-zero}
use Rattle.plants_layout.specs.Layout.{flags_in}
use Rattle.plants_layout.proofs.Writing.{one_more, all_over}
use Rattle.plants_layout.proofs.Walking.{length_part, length_flags, flag_at}
use Rattle.plants_layout.proofs.flags_at.Goals as goal

pub loop-i-init : goal.loop-i-init
loop-i-init c = paste-zero (replicate 15 false) 0 (flags_in (take 15 (drop c.args.at c.args.words.now)))

pub loop-i-preserved : goal.loop-i-preserved
loop-i-preserved c =
    let w = c.args.words.now in
    let at = c.args.at in
    let i = c.loop-i.i in
    let flags = flags_in (take 15 (drop at w)) in
    let long : length flags ≡ 15 = length_flags _ ∙ length_part w at (omega arith) in
    one_more (replicate 15 false) 0 flags i i _ false c.loop-i.flag-items (omega arith) (flag_at w at i (omega arith)) (omega arith) (omega arith) c.loop-i.invariant

pub returns : goal.returns
returns c =
    let w = c.args.words.now in
    let flags = flags_in (take 15 (drop c.args.at w)) in
    let z : c.loop-i.i ≡ 15 = omega arith in
    rw z at c.loop-i.invariant ∙ all_over (replicate 15 false) flags 15 (length_flags _ ∙ length_part w c.args.at (omega arith)) refl

-- `script_stray::behind_comment` meets its contract. Assumes nothing.
use Rattle.std.proofs.Common.{refl, sym, ◌∙◌}
use Rattle.script_stray.proofs.Plain.{block_passed, from_feed}
use Rattle.script_stray.proofs.behind_comment.Goals as goal

pub loop-block-preserved : goal.loop-block-preserved
loop-block-preserved c =
    let k = c.in-Some.ensures.cases in
    c.loop-block.invariant ∙ block_passed c.loop-block.rest.now _ c.in-Some.more.now _ k.0 k.1 k.2 c.has_feed.ensures c.if-has_feed.false

pub returns : goal.returns
returns c = from_feed c.loop-block.rest.now _ _ _ c.find_feed.ensures c.unwrap_or-feed.ensures refl ∙ sym c.loop-block.invariant

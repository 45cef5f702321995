-- `plants_layout::store` meets its contract: the parts one after the other. Assumes nothing.
use Rattle.std.proofs.Common.{◌≡◌, ◌++◌, length, take, rules}
use Rattle.std.proofs.Math.Seq.{drop-drop}
use Rattle.plants_layout.proofs.Storing.{stored}
use Rattle.plants_layout.proofs.store.Goals as goal

-- the parts have 15 each
pub returns : goal.returns
returns c =
    let p = c.args.plants in
    let words : length c.args.words.now ≡ 49 = search rules in
    let up : length p.up ≡ 15 = search rules in
    let partitioned : length p.partitioned ≡ 15 = search rules in
    let ticks : length p.stable_until ≡ 15 = search rules in
    stored p c.args.words.now words up partitioned ticks _ c.put_flags.ensures _ c.put_flags-2.ensures _
    (λ t. take 31 c.put_flags-2.new.words ++ (c.copy_from_slice.ensures.after t ++ drop-drop 15 31 c.put_flags-2.new.words t))

-- `plants_words::put_core` meets its contract. Assumes nothing.
use Rattle.std.proofs.Common.{◌≡◌, ◌∙◌, ◌++◌, length, take, rules, arith}
use Rattle.std.proofs.Math.ListN.{set}
use Rattle.std.proofs.Math.Seq.{drop-drop}
use Rattle.plants_layout.proofs.Writing.{two_and_more}
use Rattle.plants_words.proofs.put_core.Goals as goal

pub returns : goal.returns
returns c =
    let told = c.args.told.now in
    let core = c.args.core.now in
    let d = set (set told 0 core.size) 1 core.used in
    let all : length told ≡ 17 = search rules in
    let ids : length core.ids ≡ 15 = search rules in
    (λ t. take 2 d ++ (c.copy_from_slice.ensures.after t ++ drop-drop 15 2 d t))
    ∙ rw all at (two_and_more told core.ids core.size core.used (omega arith))

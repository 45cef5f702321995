-- `properties_remembering::copy_entry` meets its contract: the words are laid. Assumes nothing.
use borrow.Rule.Slice.PartMut.{put_mid}
use native.Mathlib.Omega.{arith}
use mathlib.Core.List.{List, ◌++◌}
use mathlib.Core.Path.{◌≡◌, ap, ◌∙◌}
use Prim.Native.Nat.{ℕ, ◌+◌, ◌-◌}
use lib.ListN.{length, take}
use lib.Seq.{drop-drop}
use Rattle.properties_remembering.proofs.copy_entry.Goals as goal

pub returns : goal.returns
returns c =
    let a = c.args in
    let words = a.entry.now in
    let wide : a.to + length words - a.to ≡ length words = omega arith in
    ap (put_mid a.to (a.to + length words - a.to) a.tracker.now) c.copy_from_slice.ensures.after
    ∙ (ap (λ (k : ℕ). put_mid a.to k a.tracker.now words) wide
    ∙ ap (λ (x : List ℕ). take a.to a.tracker.now ++ (words ++ x)) (drop-drop (length words) a.to a.tracker.now))

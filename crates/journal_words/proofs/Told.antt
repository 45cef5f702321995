-- What an answer says of the lent words: a refusal leaves them, and a call that is done writes them. Assumes nothing.
use mathlib.Core.Path.{◌≡◌, ◌∙◌}
use mathlib.Core.List.{List}
use mathlib.Core.Bool.{true, false}
use Prim.Native.Nat.{ℕ}
use Rattle.nights.specs.Tests.{Answer, done, refused, if_done}
use Rattle.network_layout.specs.Layout.{head_fits, answer_code, if_head}
use Rattle.network_layout.proofs.Heads.{no_head, a_head}

pub record Kept (a : Answer) (k : ℕ) : Type 0 where
  pub number : k ≡ answer_code a
  pub words : (after before : List ℕ) → before ≡ if_done a after before

pub record Done (a : Answer) : Type 0 where
  pub number : 0 ≡ answer_code a
  pub words : (after before : List ℕ) → after ≡ if_done a after before

pub kept : (a : Answer) (k : ℕ) → a ≡ refused k → Kept a k
unfolding if_done
kept a k e = record { number = rw e; words = λ x y. rw e }

pub finished : (a : Answer) → a ≡ done → Done a
unfolding if_done
finished a e = record { number = rw e; words = λ x y. rw e }

-- of words that are no head, and of words that are one
module _ (h : List ℕ) (a : Answer) where
  pub unread : head_fits h ≡ false → Kept (if_head h a) 23
  unread f = kept (if_head h a) 23 (no_head h a f)

  module _ (f : head_fits h ≡ true) where
    pub read_kept : (k : ℕ) → a ≡ refused k → Kept (if_head h a) k
    read_kept k e = kept (if_head h a) k (a_head h a f ∙ e)

    pub read_finished : a ≡ done → Done (if_head h a)
    read_finished e = finished (if_head h a) (a_head h a f ∙ e)

-- What stands, folded: the network as the fold of the calls that stand, and the very words that the journal then holds. The proofs go this
-- way; the claim itself runs no queue. Assumes nothing.
use Prim.Native.Nat.{ℕ, suc}
use mathlib.Core.Path.{◌≡◌}
use mathlib.Core.List.{List, [], ◌∷◌, ◌++◌}
use lib.ListN.{length, drop, take}
use Rattle.nights.specs.Net.{Options, Plain, fresh, Draws, Change, effect}
use Rattle.nights.specs.Journal.{Call, undo_words}
use Rattle.nights.specs.Claim.{ran, stack, reach}

-- THE FOLD of the calls that stand, the newest first, from a fresh network
module _ (fate : Draws) (o : Options) where
  unfoldable pub replay : List Change → Plain
  replay [] = fresh o
  replay (c ∷ older) = effect fate c (replay older)

  -- the words that they wrote, where only `recent` is since the last mark
  unfoldable pub flat : (kept recent : List Change) → List ℕ
  flat kept [] = []
  flat kept (c ∷ recent) = flat kept recent ++ undo_words c (replay (recent ++ kept))

  -- the words of the last r
  abbrev pub recorded : ℕ → List Change → List ℕ
  recorded r st = flat (drop r st) (take r st)

-- of any calls
module _ (fate : Draws) (o : Options) (rest : List ℕ) where
  pub record Folded (cs : List Call) : Type 0 where
    -- the network is the fold of the standing list
    pub folds : (ran fate o rest cs).net ≡ replay fate o (stack fate o rest cs)
    -- the journal holds the records of what stands since the last mark
    pub holds : (others : List ℕ)
        × ((ran fate o rest cs).words
        ≡ reach fate o rest cs
        ∷ suc (suc (length (recorded fate o (reach fate o rest cs) (stack fate o rest cs))))
        ∷ (recorded fate o (reach fate o rest cs) (stack fate o rest cs) ++ others))

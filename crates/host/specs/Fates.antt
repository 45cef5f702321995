-- What bellmantle_fate tells of a message's copies (include/bellmantle.h): none if it is lost, the copy and then the original if it is
-- replayed, and the original alone otherwise. Assumes nothing.
use Rattle.std.specs.Prelude.{ℕ, cond, List, [], ◌∷◌, eqb, get_or}

abbrev pub dues_told : List ℕ → List ℕ
dues_told w =
    cond (eqb (get_or w 0 0) 1) [] (cond (eqb (get_or w 1 0) 1) (get_or w 4 0 ∷ get_or w 5 0 ∷ []) (get_or w 5 0 ∷ []))

-- The words of an options record (RULES, "Journal"). Assumes nothing.
use Rattle.std.specs.Prelude.{ℕ, List, [], ◌∷◌}
use Rattle.basis.specs.Basis.{bit}
use Rattle.nights.specs.Net.{Options}

abbrev pub options_record : Options → List ℕ
options_record o = o.loss ∷ o.replay ∷ o.least ∷ o.mean ∷ bit o.faulted ∷ 3 ∷ 7 ∷ []

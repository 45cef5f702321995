-- When the 49 words of a state of plants are in shape (RULES, "The host's boundary"). Assumes nothing.
use Rattle.std.specs.Prelude.{ℕ, ◌≡◌, List, length, Ok}
use Rattle.plants.specs.State.{tested}
use Rattle.plants.specs.declared.Plants.{Plants}
use Rattle.plants_layout.specs.Layout.{state_size, plants_in, shaped}

-- they are 49, they are read as these plants, and neither the words nor the plants meet 40 or 42
pub record InShape (w : List ℕ) (s : Plants) : Type 0 where
  pub words : length w ≡ state_size
  pub shape : shaped w ≡ 0
  pub state : plants_in w ≡ s
  pub passed : tested s ≡ Ok tt

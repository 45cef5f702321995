use Rattle.std.proofs.Common.{◌≡◌, List, ℕ, ◌+◌, ◌≤◌, drop}
use Rattle.script_stray.specs.Stray.{stray_line}
use Rattle.script_stray.specs.Walk.{stray_from}
use Rattle.script_stray.specs.declared.Spot.{Spot}
use Rattle.script_stray.proofs.walk.Given as goal

-- the first stray line seen from a spot of line n at place i
abbrev pub Left : List ℕ → ℕ → Spot → ℕ → Type 0
Left text n spot i = stray_line text ≡ stray_from n spot (drop i text)

abbrev pub invariant-loop-byte : goal.invariant-loop-byte
invariant-loop-byte l = (1 ≤ l.number) × (l.number ≤ l.byte-index + 1) × Left l.text l.number l.spot l.byte-index

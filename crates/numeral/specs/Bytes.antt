-- A name as its bytes, so that a reader checks it by eye: `bytes "crash"` is 99, 114, 97, 115, 104. Meant for plain ASCII, where a character
-- is one byte, its code. Assumes nothing.
use Rattle.std.specs.Prelude.{ℕ, List, [], ◌∷◌}
use Prim.Native.Char.{code}
use Prim.Native.String.{String, [] as none, ◌∷◌ as ◌then◌}

abbrev pub bytes : String → List ℕ
bytes none = []
bytes (c then cs) = code c ∷ bytes cs

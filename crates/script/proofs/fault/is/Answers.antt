-- `script::fault::is` meets its contract: two lists of bytes are the same exactly if they are equal. Assumes nothing.
use mathlib.Core.Bool.{Bool, true, false, false≢true}
use mathlib.Core.List.{List}
use mathlib.Core.Path.{◌≡◌, refl, sym}
use Prim.Native.Nat.{ℕ}
use Rattle.script.specs.Faults.{same}
use Rattle.script.proofs.Same.{same_is, same_not}
use Rattle.script.proofs.fault.is.Goals as goal

decided : (r : Bool) (l m : List ℕ) → (r ≡ true → l ≡ m) → (l ≡ m → r ≡ true) → r ≡ same l m
decided true l m p q = sym (same_is l m (p refl))
decided false l m p q = sym (same_not l m (λ e. false≢true (q e)))

pub returns : goal.returns
returns c = decided c.same.result c.args.word.now c.args.name.now c.same.ensures.0 c.same.ensures.1

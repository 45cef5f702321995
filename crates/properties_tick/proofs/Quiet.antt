-- A tick in which no commit has moved: a pass, and nothing to write. Assumes nothing.
use mathlib.Core.List.{List}
use mathlib.Core.Path.{◌≡◌, sym, ap, ◌∙◌}
use Prim.Native.Nat.{ℕ}
use Rattle.std.specs.Prelude.{Ok}
use Rattle.properties_snapshots.proofs.Held.{commit_held, last_held}
use Rattle.properties_verdicts.specs.Verdicts.{judged}
use Rattle.properties_quick.specs.Quick.{NothingNew}
use Rattle.properties_tick.specs.Calls.{tick_answer, tick_words}
use Rattle.properties_tick.proofs.Passed.{taken}
use Rattle.properties_tick.proofs.Laws.{nothing_new}

pub quiet_answer : (n : ℕ) (p l t : List ℕ) → NothingNew n p l t → tick_answer n p l t ≡ Ok tt
quiet_answer n p l t new = sym (taken n p l t new.counted new.snapshot new.tracker) ∙ ap judged new.passes

pub quiet_words : (n : ℕ) (p l t : List ℕ) → NothingNew n p l t → tick_words n p l t ≡ t
quiet_words n p l t new =
    nothing_new n p l t (quiet_answer n p l t new) (λ r h. commit_held n p l t r h ∙ (new.still r h ∙ sym (last_held n p l t r h)))

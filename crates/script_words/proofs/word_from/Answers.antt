-- `script_words::word_from` meets its contract. Assumes nothing.
use mathlib.Core.Path.{◌≡◌, ap, ◌∙◌}
use mathlib.Core.List.{List}
use Prim.Native.Nat.{ℕ, ◌+◌}
use native.Mathlib.Omega.{arith}
use lib.ListN.{drop}
use Rattle.std.proofs.lemmas.Grind.{common_steps}
use Rattle.script_words.specs.Words.{is_space, not_space, until, word_from}
use Rattle.script_words.specs.declared.Bounds.{Bounds}
use Rattle.script_words.proofs.Walk.{until_in}
use Rattle.script_words.proofs.word_from.Goals as goal

word_is : (l : List ℕ) (place s e : ℕ) → s ≡ place + until not_space (drop place l) → e ≡ s + until is_space (drop s l)
    → ◌≡◌ {A = Bounds} (record { start = s; end = e }) (word_from l place)
unfolding word_from
word_is l place s e p q = λ i. record { start = p i; end = (q ∙ ap (λ (x : ℕ). x + until is_space (drop x l)) p) i }

pub first_from-end-requires-clause-within : goal.first_from-end-requires-clause-within
unfolding not_space
first_from-end-requires-clause-within c =
    let e = c.first_from-start.ensures not_space (λ b yes h p. grind (arith, common_steps)) in
    rw e (until_in not_space c.args.line.now c.args.place c.requires)

pub returns : goal.returns
unfolding not_space
returns c =
    let s = c.args in
    word_is s.line.now s.place c.first_from-start.result c.first_from-end.result
    (c.first_from-start.ensures not_space (λ b yes h p. grind (arith, common_steps)))
    (c.first_from-end.ensures is_space (λ b yes h p. grind (arith, common_steps)))

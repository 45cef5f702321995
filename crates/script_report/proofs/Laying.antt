-- Bytes laid over a slice from a place on: one piece after the other is one piece. Assumes nothing.
use mathlib.Core.List.{List, ◌++◌, append_assoc}
use mathlib.Core.Path.{◌≡◌, sym, ap, ◌∙◌}
use Prim.Native.Nat.{ℕ, ◌+◌, ◌≤◌}
use native.Mathlib.Omega.{arith}
use lib.ListN.{length, take, drop, length-append, length-take, length-drop}
use lib.Seq.{take_at, drop_at, length-take-le, drop-drop}
use Rattle.basis.specs.Basis.{laid}

pub length-laid : (out : List ℕ) (place : ℕ) (b : List ℕ) → place + length b ≤ length out → length (laid out place b) ≡ length out
length-laid out place b h = simp (length-append, length-take, length-drop) (omega arith)

pub laid-laid : (out : List ℕ) (place : ℕ) (a b : List ℕ) → place + length a ≤ length out → laid (laid out place a) (place + length a) b ≡ laid out place (a ++ b)
laid-laid out place a b h =
    let n : length (take place out) ≡ place = length-take-le place out (omega arith) in
    let f = take place out ++ a in
    let k : length f ≡ place + length a = omega (arith, length-append (take place out) a) in
    let r = drop (place + length a) out in
    let g : laid out place a ≡ f ++ r = sym (append_assoc (take place out) a r) in
    let t : take (place + length a) (laid out place a) ≡ f = rw g (take_at f r (place + length a) k) in
    let d : drop (place + length a) (laid out place a) ≡ r = rw g (drop_at f r (place + length a) k) in
    let z : place + length a + length b ≡ place + length (a ++ b) = omega (arith, length-append a b) in
    let e : drop (place + length a + length b) (laid out place a) ≡ drop (place + length (a ++ b)) out =
    sym (drop-drop (length b) (place + length a) (laid out place a))
    ∙ (ap (drop (length b)) d
    ∙ (drop-drop (length b) (place + length a) out ∙ ap (λ (x : ℕ). drop x out) z)) in
    rw (t, e) (append_assoc (take place out) a (b ++ drop (place + length (a ++ b)) out) ∙ ap (λ (x : List ℕ). take place out ++ x) (sym (append_assoc a b (drop (place + length (a ++ b)) out))))

-- two pieces that were laid one after the other
module _ (out : List ℕ) (at : ℕ) (a b : List ℕ) (fits : at + length a ≤ length out) where
  pub laid_two : (p q : ℕ) (o u : List ℕ) → p ≡ at + length a → o ≡ laid out at a → q ≡ p + length b → u ≡ laid o p b
      → (q ≡ at + length (a ++ b)) × (u ≡ laid out at (a ++ b))
  laid_two p q o u e f g h = (omega (arith, length-append a b), h ∙ (ap (λ (x : ℕ). laid o x b) e ∙ (ap (λ (x : List ℕ). laid x (at + length a) b) f ∙ laid-laid out at a b fits)))

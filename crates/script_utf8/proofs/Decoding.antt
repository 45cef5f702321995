-- Decoding gives back what was encoded. Assumes nothing.
use mathlib.Core.List.{List, ◌∷◌}
use mathlib.Core.Path.{◌≡◌, ◌∙◌}
use Prim.Native.Nat.{ℕ, ◌+◌, ◌-◌, ◌/◌, ◌≤◌, ◌<◌}
use native.Mathlib.Omega.{arith}
use borrow.Author.Tests.{le-leb, lt-leb}
use Rattle.script_utf8.specs.Utf8.{continuation, six_more, scalar_at, behind_scalar, Utf8Decoded}
use Rattle.script_utf8.proofs.Exact.{encode_1, encode_2, encode_3, encode_4, split}

six_more_lem : (n m : ℕ) → m ≡ n / 64 → six_more m (continuation n) ≡ n
six_more_lem n m e = omega arith

one : (b : ℕ) (rest : List ℕ) → b ≤ 0x7F → (scalar_at (b ∷ rest) ≡ b) × (behind_scalar (b ∷ rest) ≡ rest)
unfolding scalar_at behind_scalar
one b rest h = (rw (le-leb b 0x7F h), rw (le-leb b 0x7F h))

two : (b d : ℕ) (rest : List ℕ) → 0x7F < b → b ≤ 0xDF → (scalar_at (b ∷ d ∷ rest) ≡ six_more (b - 0xC0) d) × (behind_scalar (b ∷ d ∷ rest) ≡ rest)
unfolding scalar_at behind_scalar
two b d rest l h = (rw (lt-leb b 0x7F l, le-leb b 0xDF h), rw (lt-leb b 0x7F l, le-leb b 0xDF h))

three : (b d e : ℕ) (rest : List ℕ) → 0xDF < b → b ≤ 0xEF
    → (scalar_at (b ∷ d ∷ e ∷ rest) ≡ six_more (six_more (b - 0xE0) d) e) × (behind_scalar (b ∷ d ∷ e ∷ rest) ≡ rest)
unfolding scalar_at behind_scalar
three b d e rest l h =
    (rw (lt-leb b 0x7F (omega arith), lt-leb b 0xDF l, le-leb b 0xEF h), rw (lt-leb b 0x7F (omega arith), lt-leb b 0xDF l, le-leb b 0xEF h))

four : (b d e g : ℕ) (rest : List ℕ) → 0xEF < b
    → (scalar_at (b ∷ d ∷ e ∷ g ∷ rest) ≡ six_more (six_more (six_more (b - 0xF0) d) e) g) × (behind_scalar (b ∷ d ∷ e ∷ g ∷ rest) ≡ rest)
unfolding scalar_at behind_scalar
four b d e g rest l =
    (rw (lt-leb b 0x7F (omega arith), lt-leb b 0xDF (omega arith), lt-leb b 0xEF l), rw (lt-leb b 0x7F (omega arith), lt-leb b 0xDF (omega arith), lt-leb b 0xEF l))

pub decoded : Utf8Decoded
decoded c rest s =
    split c 0x7F (λ h. rw (encode_1 c h) (one c rest h))
    λ l. split c 0x7FF
    (λ h.
    let p = two (0xC0 + c / 64) (continuation c) rest (omega arith) (omega arith) in
    rw (encode_2 c l h) (p.0 ∙ six_more_lem c (0xC0 + c / 64 - 0xC0) (omega arith), p.1))
    λ m. split c 0xFFFF
    (λ h.
    let p = three (0xE0 + c / 64 / 64) (continuation (c / 64)) (continuation c) rest (omega arith) (omega arith) in
    let q : six_more (0xE0 + c / 64 / 64 - 0xE0) (continuation (c / 64)) ≡ c / 64 = six_more_lem (c / 64) (0xE0 + c / 64 / 64 - 0xE0) (omega arith) in
    rw (encode_3 c m h) (p.0 ∙ six_more_lem c _ q, p.1))
    λ n.
    let p = four (0xF0 + c / 64 / 64 / 64) (continuation (c / 64 / 64)) (continuation (c / 64)) (continuation c) rest (omega arith) in
    let q : six_more (0xF0 + c / 64 / 64 / 64 - 0xF0) (continuation (c / 64 / 64)) ≡ c / 64 / 64 = six_more_lem (c / 64 / 64) (0xF0 + c / 64 / 64 / 64 - 0xF0) (omega arith) in
    let r : six_more (six_more (0xF0 + c / 64 / 64 / 64 - 0xF0) (continuation (c / 64 / 64))) (continuation (c / 64)) ≡ c / 64 = six_more_lem (c / 64) _ q in
    rw (encode_4 c n) (p.0 ∙ six_more_lem c _ r, p.1)

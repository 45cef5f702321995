-- An answer is settled by what it tells. Assumes nothing.
use mathlib.Core.Path.{◌≡◌, refl, ap}
use mathlib.Core.Bool.{Bool, true, false}
use Prim.Native.Nat.{ℕ}
use native.Mathlib.Omega.{arith}
use Rattle.basis.specs.Basis.{bit}
use Rattle.std.specs.Prelude.{Result, Ok, Err}
use Rattle.nights.specs.Tests.{done, refused}
use Rattle.network_options.specs.declared.Refusal.{Refusal}
use Rattle.network_options.specs.Answers.{refusal_number}
use Rattle.network_options.proofs.Numbers.{numbered_once}
use Rattle.network_send.specs.declared.Accepted.{Accepted}
use Rattle.network_send.specs.Sends.{Sending, sent_of}

bit_once : (a b : Bool) → bit a ≡ bit b → a ≡ b
bit_once true true e = refl
bit_once true false e = absurd (omega arith)
bit_once false true e = absurd (omega arith)
bit_once false false e = refl

accepted_once : (a b : Accepted) → bit a.lost ≡ bit b.lost → bit a.replayed ≡ bit b.replayed → a.draws ≡ b.draws → a.extras ≡ b.extras → a ≡ b
accepted_once a b l r d x =
    let m = bit_once a.lost b.lost l in
    let s = bit_once a.replayed b.replayed r in
    λ i. record { lost = m i; replayed = s i; draws = d i; extras = x i }

pub sent_once : (a b : Result Accepted Refusal) → sent_of a ≡ sent_of b → a ≡ b
sent_once (Ok a) (Ok b) e =
    ap Ok
    (accepted_once a b (ap (λ (z : Sending). z.lost) e) (ap (λ (z : Sending). z.replayed) e) (ap (λ (z : Sending). z.draws) e)
    (ap (λ (z : Sending). z.extras) e))
sent_once (Ok a) (Err t) e =
    let p : done ≡ refused (refusal_number t) = ap (λ (z : Sending). z.answer) e in let z : ◌≡◌ {A = ℕ} 0 1 = cc in absurd (omega arith)
sent_once (Err r) (Ok b) e =
    let p : refused (refusal_number r) ≡ done = ap (λ (z : Sending). z.answer) e in let z : ◌≡◌ {A = ℕ} 0 1 = cc in absurd (omega arith)
sent_once (Err r) (Err t) e =
    let p : refused (refusal_number r) ≡ refused (refusal_number t) = ap (λ (z : Sending). z.answer) e in
    let z : refusal_number r ≡ refusal_number t = cc in
    ap Err (numbered_once r t z)

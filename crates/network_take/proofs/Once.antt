-- An answer is settled by what it tells, and what a call tells has its answer. Assumes nothing.
use mathlib.Core.Path.{◌≡◌, refl, ap}
use Prim.Native.Nat.{ℕ}
use native.Mathlib.Omega.{arith}
use Rattle.std.specs.Prelude.{Result, Ok, Err}
use Rattle.nights.specs.Tests.{Answer, done, refused}
use Rattle.network_options.specs.declared.Refusal.{Refusal}
use Rattle.network_options.specs.Answers.{refusal_number}
use Rattle.network_options.proofs.Numbers.{numbered_once}
use Rattle.network_take.specs.Takes.{Count, counted_of, counting}

pub counted_once : (a b : Result ℕ Refusal) → counted_of a ≡ counted_of b → a ≡ b
counted_once (Ok n) (Ok k) e = ap Ok (ap (λ (x : Count). x.records) e)
counted_once (Ok n) (Err r) e =
    let p : done ≡ refused (refusal_number r) = ap (λ (x : Count). x.answer) e in let z : ◌≡◌ {A = ℕ} 0 1 = cc in absurd (omega arith)
counted_once (Err r) (Ok n) e =
    let p : refused (refusal_number r) ≡ done = ap (λ (x : Count). x.answer) e in let z : ◌≡◌ {A = ℕ} 0 1 = cc in absurd (omega arith)
counted_once (Err r) (Err t) e =
    let p : refused (refusal_number r) ≡ refused (refusal_number t) = ap (λ (x : Count). x.answer) e in
    let z : refusal_number r ≡ refusal_number t = cc in
    ap Err (numbered_once r t z)

pub counting_of : (a : Answer) (n : ℕ) → (counting a n).answer ≡ a
unfolding counting
counting_of done n = refl
counting_of (refused k) n = refl

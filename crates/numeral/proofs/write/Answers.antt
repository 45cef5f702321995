-- `numeral::write` meets its contract: there is room exactly if the digits end within the slice. Assumes nothing.
use borrow.Author.Tests.{le-leb, lt-leb}
use native.Mathlib.Omega.{arith}
use mathlib.Core.List.{List, ◌++◌}
use mathlib.Core.Path.{◌≡◌, sym, ap, ◌∙◌}
use Prim.Native.Nat.{ℕ, ◌+◌, ◌≤◌, ◌<◌}
use lib.ListN.{length, take, drop}
use Rattle.std.specs.Prelude.{Some, None}
use Rattle.basis.specs.Basis.{laid}
use Rattle.numeral.specs.Digits.{last_digits}
use Rattle.numeral.specs.Writing.{digit_count, decimal, written_of, out_of}
use Rattle.numeral.proofs.Decimal.{length-last_digits}
use Rattle.numeral.proofs.write.Goals as goal

module _ (n place count : ℕ) (out : List ℕ) where
  no_room : count ≡ digit_count 19 n → length out < place + count → (None ≡ written_of n (length out) place) × (out ≡ out_of n out place)
  unfolding written_of out_of decimal
  no_room e h =
      let l : length (last_digits (digit_count 19 n) n) ≡ count = length-last_digits (digit_count 19 n) n ∙ sym e in
      (rw (l, lt-leb (place + count) (length out) h), rw (l, lt-leb (place + count) (length out) h))

  room : (o : List ℕ) → count ≡ digit_count 19 n → place + count ≤ length out → o ≡ laid out place (last_digits count n)
      → (Some (place + count) ≡ written_of n (length out) place) × (o ≡ out_of n out place)
  unfolding written_of out_of decimal
  room o e h f =
      let l : length (last_digits (digit_count 19 n) n) ≡ count = length-last_digits (digit_count 19 n) n ∙ sym e in (
        rw (l, le-leb (place + count) (length out) h),
        rw (l, le-leb (place + count) (length out) h)
            (f ∙ (ap (λ (k : ℕ). laid out place (last_digits k n)) e ∙ ap (λ (k : ℕ). take place out ++ (decimal n ++ drop (place + k) out)) l)),
      )

pub returns-in_err-end : goal.returns-in_err-end
returns-in_err-end c =
    let s = c.args in
    let told = no_room s.n s.place c.count_digits-count.result s.out.now c.count_digits-count.ensures (omega arith) in
    record { answer = c.from_residual.ensures ∙ told.0; bytes = told.1 }

pub returns-then-out-end : goal.returns-then-out-end
returns-then-out-end c =
    let s = c.args in
    let told = no_room s.n s.place c.count_digits-count.result s.out.now c.count_digits-count.ensures (omega arith) in
    record { answer = told.0; bytes = told.1 }

pub returns : goal.returns
returns c =
    let s = c.args in
    let told = room s.n s.place c.count_digits-count.result s.out.now c.put_digits.new.out c.count_digits-count.ensures (omega arith) c.put_digits.ensures in
    record { answer = ap Some (omega arith) ∙ told.0; bytes = told.1 }

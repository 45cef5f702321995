-- `script_report::page::Page::put_number` meets its contract: no number has more than 20 digits, so there is room for it. Assumes nothing.
use borrow.Author.Tests.{le-leb}
use native.Mathlib.Omega.{arith}
use mathlib.Core.List.{List}
use mathlib.Core.Path.{◌≡◌, refl, ◌∙◌}
use Prim.Native.Nat.{ℕ, ◌+◌, ◌≤◌}
use lib.ListN.{length}
use Rattle.std.specs.Prelude.{Some}
use Rattle.std.proofs.lemmas.Grind.{common_steps}
use Rattle.basis.specs.Basis.{laid}
use Rattle.numeral.specs.Writing.{decimal, written_of, out_of}
use Rattle.script_report.proofs.Lengths.{decimal_most}
use Rattle.script_report.proofs.page.Page.put_number.Goals as goal

module _ (n : ℕ) (out : List ℕ) (at : ℕ) (room : at + 20 ≤ length out) where
  fits : at + length (decimal n) ≤ length out
  fits = omega (arith, decimal_most n)

  is_written : written_of n (length out) at ≡ Some (at + length (decimal n))
  unfolding written_of
  is_written = rw (le-leb (at + length (decimal n)) (length out) fits)

  is_laid : out_of n out at ≡ laid out at (decimal n)
  unfolding out_of
  is_laid = rw (le-leb (at + length (decimal n)) (length out) fits)

pub unwrap-self-requires : goal.unwrap-self-requires
unwrap-self-requires c =
    let p = c.args.self.now in
    let e = c.write.ensures.answer ∙ is_written c.args.n p.out.now p.at c.requires in
    grind (arith, common_steps)

pub returns : goal.returns
returns c =
    let p = c.args.self.now in
    let e = c.write.ensures.answer ∙ is_written c.args.n p.out.now p.at c.requires in
    record { same = refl; place = grind (arith, common_steps); bytes = c.write.ensures.bytes ∙ is_laid c.args.n p.out.now p.at c.requires }

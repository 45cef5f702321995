-- What an undoing in place tells. A misfit tells nothing else; and where the words that it left are those of records with zeros behind,
-- they are well formed exactly if their plain form is, so that the test of a part tells the whole. Assumes nothing.
use Prim.Native.Nat.{ℕ, ◌≤◌}
use mathlib.Core.Path.{◌≡◌, refl, ap, ◌∙◌}
use mathlib.Core.List.{List}
use mathlib.Core.Bool.{Bool, true, false, ◌&&◌}
use borrow.Author.Tests.{le-leb}
use lib.ListN.{length}
use Rattle.std.specs.Prelude.{Option, None, IfSome}
use Rattle.std.specs.Bool.{then_some}
use Rattle.nights.specs.Record.{Record, recs}
use Rattle.nights.specs.Net.{capacity, Plain, well_formed}
use Rattle.nights.specs.Journal.{Undone as Told, misfit, undone, checked}
use Rattle.network_queue.specs.Packed.{packed}
use Rattle.network_queue.proofs.Packing.{unpacked, packed-zeros}
use Rattle.network_form.specs.declared.Head.{Head}
use Rattle.network_form.specs.Forms.{plain_in, formed_in}
use Rattle.journal_tests.specs.declared.Undone.{Undone}
use Rattle.journal_tests.specs.Undone.{undone_in}

-- what the contract of an undoing in place says
abbrev pub Undoes : Option Undone → List ℕ → Told → Type 0
Undoes u w p = (undone_in u w ≡ p) × IfSome u (λ x. formed_in x.head w ≡ true)

-- no undoing tells a misfit
pub misfit_told : {p : Told} (w : List ℕ) → p ≡ misfit → undone_in None w ≡ p
unfolding undone_in
misfit_told w e = rw e

right_true : (a b : Bool) → b ≡ true → a && b ≡ a
right_true true b e = e
right_true false b e = refl

-- words that are those of some records
module _ (h : Head) (w : List ℕ) (l : List Record) (e : w ≡ packed l) (p : h.pending ≡ length l) (small : length l ≤ capacity) where
  pub records_are : recs w 0 h.pending ≡ l
  records_are = rw (e, p, unpacked l)

  pub formed_is : formed_in h w ≡ well_formed (plain_in h w)
  unfolding formed_in
  formed_is = right_true (well_formed (plain_in h w)) _ (rw (p, e, le-leb (length l) capacity small, packed-zeros l))

  -- a test that is worth the whole one
  pub tested : (n : Plain) (b : ℕ) (t : Bool) → plain_in h w ≡ n → well_formed n ≡ t
      → Undoes (then_some t (record { head = h; start = b })) w (checked (undone n b))
  unfolding undone_in checked
  tested n b true i k = (rw (i, k), formed_is ∙ (ap well_formed i ∙ k))
  tested n b false i k = (rw k, tt)

-- The counters: where all clauses but the last hold, the last tells. Assumes nothing.
use mathlib.Core.Path.{◌≡◌}
use Prim.Native.Nat.{ℕ, ◌+◌, ◌≤◌}
use borrow.Author.Tests.{le-leb, eq-eqb}
use lib.Dec.{leb}
use Rattle.nights.specs.Net.{capacity, sent_limit, good_counts}

pub delays_told : (p q s d l r y : ℕ) → p ≤ capacity → s ≤ sent_limit → l ≤ s → r ≤ s → s + r ≡ d + l + p → q ≡ d + p
    → leb y q ≡ good_counts p q s d l r y
unfolding good_counts
delays_told p q s d l r y a b c e g f =
    rw (
      le-leb p capacity a,
      le-leb s sent_limit b,
      le-leb l s c,
      le-leb r s e,
      eq-eqb (s + r) (d + l + p) g,
      eq-eqb q (d + p) f,
    )

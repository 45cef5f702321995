-- The rows of the table of RFC 3629, for the walk: what a character's first byte awaits, what a byte inside one leaves, and what one before the
-- `#` leaves. Assumes nothing.
use Rattle.std.proofs.Common.{◌≡◌, refl, sym, ap, ◌∙◌, ℕ, zero, suc, ◌-◌, ◌≤◌, ◌<◌, arith}
use borrow.Author.Tests.{lt-ltb, le-ltb, eq-eqb, ne_eqb}
use Rattle.script_utf8.specs.Utf8.{after_first, after_this, sequences}
use Rattle.script_utf8.proofs.Exact.{at_1, at_2, at_e0, at_e1, at_ed, at_ee, at_f0, at_f1, at_f4, at_none_low, at_none_high, in_range_lem, above_range, below_range}
use Rattle.script_stray.specs.Walk.{spot_of, spot_after}
use Rattle.script_stray.specs.declared.Spot.{Spot}
use Rattle.script_stray.specs.declared.Spot.TheVariants.{Words, Between, Inside, Astray}

-- ---- the first byte

module _ (b : ℕ) (s : Spot) where
  abbrev pub First : Type 0
  First = s ≡ spot_of (after_first b sequences)

  pub row_00 : s ≡ Between → b ≤ 0x7F → First
  row_00 e h = e ∙ sym (ap spot_of (at_1 b h))

  pub row_c2 : s ≡ Inside 0 0x80 0xBF → 0xC2 ≤ b → b ≤ 0xDF → First
  row_c2 e l h = e ∙ sym (ap spot_of (at_2 b l h))

  pub row_e0 : s ≡ Inside 1 0xA0 0xBF → b ≡ 0xE0 → First
  row_e0 e h = e ∙ sym (ap spot_of (at_e0 b h))

  pub row_e1 : s ≡ Inside 1 0x80 0xBF → 0xE1 ≤ b → b ≤ 0xEC → First
  row_e1 e l h = e ∙ sym (ap spot_of (at_e1 b l h))

  pub row_ed : s ≡ Inside 1 0x80 0x9F → b ≡ 0xED → First
  row_ed e h = e ∙ sym (ap spot_of (at_ed b h))

  pub row_ee : s ≡ Inside 1 0x80 0xBF → 0xEE ≤ b → b ≤ 0xEF → First
  row_ee e l h = e ∙ sym (ap spot_of (at_ee b l h))

  pub row_f0 : s ≡ Inside 2 0x90 0xBF → b ≡ 0xF0 → First
  row_f0 e h = e ∙ sym (ap spot_of (at_f0 b h))

  pub row_f1 : s ≡ Inside 2 0x80 0xBF → 0xF1 ≤ b → b ≤ 0xF3 → First
  row_f1 e l h = e ∙ sym (ap spot_of (at_f1 b l h))

  pub row_f4 : s ≡ Inside 2 0x80 0x8F → b ≡ 0xF4 → First
  row_f4 e h = e ∙ sym (ap spot_of (at_f4 b h))

  pub row_low : s ≡ Astray → 0x7F < b → b < 0xC2 → First
  row_low e l h = e ∙ sym (ap spot_of (at_none_low b l h))

  pub row_high : s ≡ Astray → 0xF4 < b → First
  row_high e l = e ∙ sym (ap spot_of (at_none_high b l))

-- ---- a byte inside a character

module _ (k lo hi b : ℕ) where
  pub too_low : b < lo → Astray ≡ spot_after (Inside k lo hi) b
  unfolding spot_after
  too_low h = rw (below_range lo hi b h)

  pub too_high : hi < b → Astray ≡ spot_after (Inside k lo hi) b
  unfolding spot_after
  too_high h = rw (above_range lo hi b h)

  pub last : lo ≤ b → b ≤ hi → k ≡ 0 → Between ≡ spot_after (Inside k lo hi) b
  unfolding spot_after after_this
  last l h e = rw (in_range_lem lo hi b l h, e)

pub onward : (k lo hi b : ℕ) (s : Spot) → s ≡ Inside (k - 1) 0x80 0xBF → lo ≤ b → b ≤ hi → (k ≡ 0 → ⊥) → s ≡ spot_after (Inside k lo hi) b
unfolding spot_after after_this
onward zero lo hi b s d l h e = absurd (e refl)
onward (suc j) lo hi b s d l h e = let f : suc j - 1 ≡ j = omega arith in d ∙ rw (in_range_lem lo hi b l h, f)

-- ---- a byte before the `#`

module _ (b : ℕ) where
  pub over : 127 < b → Astray ≡ spot_after Words b
  unfolding spot_after
  over h = rw (lt-ltb 127 b h)

  pub hash : b ≡ 35 → Between ≡ spot_after Words b
  unfolding spot_after
  hash e = rw (le-ltb 127 b (omega arith), eq-eqb 35 b (sym e))

  pub other : b ≤ 127 → (b ≡ 35 → ⊥) → Words ≡ spot_after Words b
  unfolding spot_after
  other h e = rw (le-ltb 127 b h, ne_eqb 35 b (λ z. e (sym z)))

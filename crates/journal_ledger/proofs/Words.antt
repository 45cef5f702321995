-- The journal's words: when their header is good, when a record has room, and what a record written behind the others leaves.
-- Assumes nothing.
use Prim.Native.Nat.{ℕ, ◌+◌, ◌-◌, ◌*◌, ◌/◌, ◌≤◌, ◌<◌}
use mathlib.Core.Path.{◌≡◌, refl, ◌∙◌}
use mathlib.Core.List.{List, [], ◌∷◌, ◌++◌}
use mathlib.Core.Bool.{Bool, true, false}
use native.Mathlib.Omega.{arith}
use borrow.Author.Tests.{le-leb, lt-leb, leb-true, leb-false}
use lib.Dec.{T, leb}
use lib.ListN.{length, take, drop, get_or, set, length-append, length-take, length-drop, get_or-append}
use lib.Seq.{get_or-take}
use denote.Floats.{passes}
use Rattle.basis.specs.Basis.{laid}
use Rattle.basis.proofs.Laws.{both}
use Rattle.chance.specs.Probability.{good_probability}
use Rattle.nights.specs.Net.{good_options}
use Rattle.nights.specs.Tests.{done, refused, verdict}
use Rattle.nights.specs.Journal.{held, used, logged, good_header, journal_tests}
use Rattle.network_options.specs.declared.NetworkOptions.{NetworkOptions}
use Rattle.network_options.specs.Options.{plain_options}
use Rattle.network_options.proofs.OptionForms.{good_chances}

-- half of it, rounded down
pub halved : (a b : ℕ) → leb a (b / 2) ≡ leb (2 * a) b
halved a b = go (leb (2 * a) b) refl
  where
    go : (x : Bool) → leb (2 * a) b ≡ x → leb a (b / 2) ≡ x
    go true e = let h : 2 * a ≤ b = leb-true (2 * a) b e in le-leb a (b / 2) (omega arith)
    go false e = let h : b < 2 * a = leb-false (2 * a) b e in lt-leb a (b / 2) (omega arith)

-- ---- the header

pub record Header (w : List ℕ) : Type 0 where
  pub long : 2 ≤ length w
  pub low : 2 ≤ used w
  pub high : used w ≤ length w
  pub few : 2 * held w ≤ used w - 2

module _ (w : List ℕ) where
  module _ (g : good_header w ≡ true) where
    pub good_header_lem : Header w
    unfolding good_header
    good_header_lem =
        let a = both (leb 2 (length w)) _ g in
        let b = both (leb 2 (used w)) _ a.1 in
        let c = both (leb (used w) (length w)) _ b.1 in
        record {
          long = leb-true 2 (length w) a.0;
          low = leb-true 2 (used w) b.0;
          high = leb-true (used w) (length w) c.0;
          few = leb-true (2 * held w) (used w - 2) c.1;
        }

-- ---- the tests of a record of so many words

module _ (w : List ℕ) (size : ℕ) where
  pub bad_words : good_header w ≡ false → refused 31 ≡ verdict (journal_tests w size)
  unfolding verdict
  bad_words e = rw e

  module _ (g : good_header w ≡ true) where
    pub no_room : length w < used w + size → refused 32 ≡ verdict (journal_tests w size)
    unfolding verdict
    no_room h = rw (g, lt-leb (used w + size) (length w) h)

    pub has_room : used w + size ≤ length w → done ≡ verdict (journal_tests w size)
    unfolding verdict
    has_room h = rw (g, le-leb (used w + size) (length w) h)

  -- and what they say once they hold
  pub roomy : verdict (journal_tests w size) ≡ done → (good_header w ≡ true) × (used w + size ≤ length w)
  unfolding verdict
  roomy e = go (good_header w) (leb (used w + size) (length w)) refl refl e
    where
      go : (a b : Bool) → good_header w ≡ a → leb (used w + size) (length w) ≡ b
          → verdict (record { passes = a; number = 31 } ∷ record { passes = b; number = 32 } ∷ []) ≡ done
          → (good_header w ≡ true) × (used w + size ≤ length w)
      go true true p q h = (p, leb-true (used w + size) (length w) q)
      go true false p q h = let z : ◌≡◌ {A = ℕ} 0 1 = cc in absurd (omega arith)
      go false b p q h = let z : ◌≡◌ {A = ℕ} 0 1 = cc in absurd (omega arith)

-- ---- other words 0 and 1

pub headed : (w : List ℕ) (a b : ℕ) → 2 ≤ length w → set (set w 0 a) 1 b ≡ a ∷ b ∷ drop 2 w
headed [] a b h = absurd (omega arith)
headed (x ∷ []) a b h = absurd (omega arith)
headed (x ∷ y ∷ w) a b h = refl

-- a record written behind the others leaves word 0, and as many words as there were
module _ (w r : List ℕ) (g : good_header w ≡ true) (room : used w + length r ≤ length w) where
  pub held_stays : get_or (laid w (used w) r) 0 0 ≡ held w
  held_stays =
      let h : Header w = good_header_lem w g in
      let z : 0 < used w = omega (arith, h.low) in
      get_or-append (take (used w) w) _ 0 0 (simp length-take (omega (arith, h.low, h.long))) ∙ get_or-take (used w) w 0 0 z

  pub length_over : length (laid w (used w) r) ≡ length w
  length_over =
      omega (
        arith,
        length-append (take (used w) w) (r ++ drop (used w + length r) w),
        length-append r (drop (used w + length r) w),
        length-take (used w) w,
        length-drop (used w + length r) w,
      )

  pub logged_by : (v : List ℕ) → v ≡ laid w (used w) r → set (set v 0 (get_or v 0 0 + 1)) 1 (used w + length r) ≡ logged w r
  unfolding logged
  logged_by v e =
      let h : Header w = good_header_lem w g in
      rw (e, held_stays) (headed (laid w (used w) r) (held w + 1) (used w + length r) (omega (arith, length_over, h.long)))

-- ---- good options

module _ (o : NetworkOptions) (g : good_options (plain_options o) ≡ true) where
  pub good_loss : T (good_probability o.packet_loss_probability)
  good_loss = passes _ (good_chances o g).0

  pub good_replay : T (good_probability o.packet_replay_probability)
  good_replay = passes _ (good_chances o g).1

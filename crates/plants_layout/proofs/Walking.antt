-- A state's words read one by one: its flags, its ticks, and whether each flag is 0 or 1. Assumes nothing.
use Prim.Native.Nat.{ℕ, ◌+◌, ◌≤◌, ◌<◌}
use mathlib.Core.Path.{◌≡◌, refl, sym, ap, ◌∙◌}
use mathlib.Core.Bool.{Bool, true, false, ◌&&◌, and-true, and_assoc}
use mathlib.Core.List.{List, [], ◌∷◌}
use Rattle.std.specs.List.{fold}
use native.Mathlib.Omega.{arith}
use borrow.Author.Tests.{le-leb, lt-leb, leb-true, leb-false}
use lib.Bits.{bit_or, or_lt, or_add_and, and_le_l, and_le_r}
use mir.Val.{bool_byte}
use lib.Dec.{leb, eqb}
use lib.ListN.{length, take, drop, get_or, length-take, length-drop, length-map, get_or-map}
use lib.Seq.{get_or-take, get_or-drop}
use Rattle.basis.specs.Basis.{bit}
use Rattle.plants_layout.specs.Layout.{flag_of, flags_in, bits, all_bits}

-- a part of 15
pub length_part : (w : List ℕ) (at : ℕ) → at + 15 ≤ length w → length (take 15 (drop at w)) ≡ 15
length_part w at h = simp (length-take, length-drop) (omega arith)

pub part_at : (w : List ℕ) (at i : ℕ) → i < 15 → get_or w (at + i) 0 ≡ get_or (take 15 (drop at w)) i 0
part_at w at i h = sym (get_or-take 15 (drop at w) i 0 h ∙ get_or-drop at w i 0)

-- ---- flags
pub length_flags : (w : List ℕ) → length (flags_in w) ≡ length w
unfolding flags_in
length_flags w = length-map w flag_of

pub length-bits : (fs : List Bool) → length (bits fs) ≡ length fs
unfolding bits
length-bits fs = length-map fs bit

pub flag_at : (w : List ℕ) (at i : ℕ) → i < 15 → eqb (get_or w (at + i) 0) 1 ≡ get_or (flags_in (take 15 (drop at w))) i false
unfolding flags_in
flag_at w at i h = ap flag_of (part_at w at i h) ∙ sym (get_or-map flag_of (take 15 (drop at w)) i 0)

byte_is : (b : Bool) → bool_byte b ≡ bit b
byte_is true = refl
byte_is false = refl

pub bit_at : (fs : List Bool) (i : ℕ) → bool_byte (get_or fs i false) ≡ get_or (bits fs) i 0
unfolding bits
bit_at fs i = byte_is (get_or fs i false) ∙ sym (get_or-map bit fs i false)

-- ---- whether flags are 0 or 1: what is gathered with `|` is at most 1 exactly if each part is
or_small : (b c : Bool) (a x : ℕ) → leb a 1 ≡ b → leb x 1 ≡ c → leb (bit_or a x) 1 ≡ b && c
or_small true true a x e f = le-leb (bit_or a x) 1 (omega (arith, or_lt 1 a x (omega (arith, leb-true a 1 e)) (omega (arith, leb-true x 1 f))))
or_small true false a x e f = lt-leb (bit_or a x) 1 (omega (arith, leb-false x 1 f, or_add_and a x, and_le_l a x))
or_small false c a x e f = lt-leb (bit_or a x) 1 (omega (arith, leb-false a 1 e, or_add_and a x, and_le_r a x))

pub gathers : (ws : List ℕ) (a : ℕ) → leb (fold bit_or a ws) 1 ≡ (leb a 1 && all_bits ws)
unfolding all_bits
gathers [] a = sym (and-true (leb a 1))
gathers (w ∷ ws) a =
    gathers ws (bit_or a w)
    ∙ (ap (λ (b : Bool). b && all_bits ws) (or_small (leb a 1) (leb w 1) a w refl refl) ∙ and_assoc (leb a 1) (leb w 1) (all_bits ws))

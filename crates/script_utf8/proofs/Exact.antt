-- The test by the table accepts a list of bytes just when it is the encodings of some scalar values. Assumes nothing.
use mathlib.Core.Bool.{Bool, true, false, cond, ◌&&◌, ◌||◌, false≢true}
use mathlib.Core.List.{List, [], ◌∷◌, ◌++◌}
use mathlib.Core.Path.{◌≡◌, refl, sym, ap, ◌∙◌, subst}
use Prim.Native.Nat.{ℕ, zero, suc, ◌+◌, ◌-◌, ◌*◌, ◌/◌, ◌%◌, ◌≤◌, ◌<◌}
use native.Mathlib.Omega.{arith}
use borrow.Author.Tests.{le-leb, lt-leb, leb-true, leb-false}
use lib.Dec.{leb}
use Rattle.basis.proofs.Laws.{both}
use Rattle.script_utf8.specs.Utf8.{in_range, scalar, continuation, encode, encode_all, all_scalar, Utf8, Awaiting, between, inside, ill_formed, Sequence, sequence, sequences, after_first, after_this, after_byte, may_end, utf8_from, is_utf8, Utf8Exact, Utf8Decodes}

-- ---- tests

pub in_range_lem : (lo hi b : ℕ) → lo ≤ b → b ≤ hi → in_range lo hi b ≡ true
unfolding in_range
in_range_lem lo hi b l h = rw (le-leb lo b l, le-leb b hi h)

and_false : (t : Bool) → (t && false) ≡ false
and_false true = refl
and_false false = refl

pub above_range : (lo hi b : ℕ) → hi < b → in_range lo hi b ≡ false
unfolding in_range
above_range lo hi b h = rw (lt-leb b hi h) (and_false (leb lo b))

range_bounds : (lo hi b : ℕ) → in_range lo hi b ≡ true → (lo ≤ b) × (b ≤ hi)
unfolding in_range
range_bounds lo hi b e = let p = both (leb lo b) (leb b hi) e in (leb-true lo b p.0, leb-true b hi p.1)

-- ---- the encodings in their ranges

pub encode_1 : (c : ℕ) → c ≤ 0x7F → encode c ≡ c ∷ []
unfolding encode
encode_1 c h = rw (le-leb c 0x7F h)

pub encode_2 : (c : ℕ) → 0x7F < c → c ≤ 0x7FF → encode c ≡ (0xC0 + c / 64) ∷ continuation c ∷ []
unfolding encode
encode_2 c l h = rw (lt-leb c 0x7F l, le-leb c 0x7FF h)

pub encode_3 : (c : ℕ) → 0x7FF < c → c ≤ 0xFFFF → encode c ≡ (0xE0 + c / 64 / 64) ∷ continuation (c / 64) ∷ continuation c ∷ []
unfolding encode
encode_3 c l h = rw (lt-leb c 0x7F (omega arith), lt-leb c 0x7FF l, le-leb c 0xFFFF h)

pub encode_4 : (c : ℕ) → 0xFFFF < c
    → encode c ≡ (0xF0 + c / 64 / 64 / 64) ∷ continuation (c / 64 / 64) ∷ continuation (c / 64) ∷ continuation c ∷ []
unfolding encode
encode_4 c l = rw (lt-leb c 0x7F (omega arith), lt-leb c 0x7FF (omega arith), lt-leb c 0xFFFF l)

-- ---- the table

-- a byte of the range, inside a character
goes_on : (k lo hi b : ℕ) (bs : List ℕ) → lo ≤ b → b ≤ hi → utf8_from (inside k lo hi) (b ∷ bs) ≡ utf8_from (after_this k) bs
unfolding utf8_from after_byte
goes_on k lo hi b bs l h = rw (in_range_lem lo hi b l h)

-- ---- the state that each first byte leads to

pub at_1 : (b : ℕ) → b ≤ 0x7F → after_first b sequences ≡ between
unfolding after_first
at_1 b h = rw (in_range_lem 0x00 0x7F b (omega arith) h)

pub at_2 : (b : ℕ) → 0xC2 ≤ b → b ≤ 0xDF → after_first b sequences ≡ inside 0 0x80 0xBF
unfolding after_first
at_2 b l h = rw (above_range 0x00 0x7F b (omega arith), in_range_lem 0xC2 0xDF b l h)

pub at_e0 : (b : ℕ) → b ≡ 0xE0 → after_first b sequences ≡ inside 1 0xA0 0xBF
unfolding after_first in_range
at_e0 b e = rw e

pub at_e1 : (b : ℕ) → 0xE1 ≤ b → b ≤ 0xEC → after_first b sequences ≡ inside 1 0x80 0xBF
unfolding after_first
at_e1 b l h =
    rw (above_range 0x00 0x7F b (omega arith), above_range 0xC2 0xDF b (omega arith), above_range 0xE0 0xE0 b (omega arith), in_range_lem 0xE1 0xEC b l h)

pub at_ed : (b : ℕ) → b ≡ 0xED → after_first b sequences ≡ inside 1 0x80 0x9F
unfolding after_first in_range
at_ed b e = rw e

pub at_ee : (b : ℕ) → 0xEE ≤ b → b ≤ 0xEF → after_first b sequences ≡ inside 1 0x80 0xBF
unfolding after_first
at_ee b l h =
    rw (
      above_range 0x00 0x7F b (omega arith),
      above_range 0xC2 0xDF b (omega arith),
      above_range 0xE0 0xE0 b (omega arith),
      above_range 0xE1 0xEC b (omega arith),
      above_range 0xED 0xED b (omega arith),
      in_range_lem 0xEE 0xEF b l h,
    )

pub at_f0 : (b : ℕ) → b ≡ 0xF0 → after_first b sequences ≡ inside 2 0x90 0xBF
unfolding after_first in_range
at_f0 b e = rw e

pub at_f1 : (b : ℕ) → 0xF1 ≤ b → b ≤ 0xF3 → after_first b sequences ≡ inside 2 0x80 0xBF
unfolding after_first
at_f1 b l h =
    rw (
      above_range 0x00 0x7F b (omega arith),
      above_range 0xC2 0xDF b (omega arith),
      above_range 0xE0 0xE0 b (omega arith),
      above_range 0xE1 0xEC b (omega arith),
      above_range 0xED 0xED b (omega arith),
      above_range 0xEE 0xEF b (omega arith),
      above_range 0xF0 0xF0 b (omega arith),
      in_range_lem 0xF1 0xF3 b l h,
    )

pub at_f4 : (b : ℕ) → b ≡ 0xF4 → after_first b sequences ≡ inside 2 0x80 0x8F
unfolding after_first in_range
at_f4 b e = rw e

-- a byte below its range
pub below_range : (lo hi b : ℕ) → b < lo → in_range lo hi b ≡ false
unfolding in_range
below_range lo hi b h = rw (lt-leb lo b h)

-- no character begins with a continuation byte, with 0xC0 or 0xC1, or with a byte over 0xF4
pub at_none_low : (b : ℕ) → 0x7F < b → b < 0xC2 → after_first b sequences ≡ ill_formed
unfolding after_first
at_none_low b l h =
    rw (
      above_range 0x00 0x7F b l,
      below_range 0xC2 0xDF b h,
      below_range 0xE0 0xE0 b (omega arith),
      below_range 0xE1 0xEC b (omega arith),
      below_range 0xED 0xED b (omega arith),
      below_range 0xEE 0xEF b (omega arith),
      below_range 0xF0 0xF0 b (omega arith),
      below_range 0xF1 0xF3 b (omega arith),
      below_range 0xF4 0xF4 b (omega arith),
    )

pub at_none_high : (b : ℕ) → 0xF4 < b → after_first b sequences ≡ ill_formed
unfolding after_first
at_none_high b l =
    rw (
      above_range 0x00 0x7F b (omega arith),
      above_range 0xC2 0xDF b (omega arith),
      above_range 0xE0 0xE0 b (omega arith),
      above_range 0xE1 0xEC b (omega arith),
      above_range 0xED 0xED b (omega arith),
      above_range 0xEE 0xEF b (omega arith),
      above_range 0xF0 0xF0 b (omega arith),
      above_range 0xF1 0xF3 b (omega arith),
      above_range 0xF4 0xF4 b l,
    )

-- ---- encode, then decode

one : (b : ℕ) (rest : List ℕ) → after_first b sequences ≡ between → is_utf8 (b ∷ rest) ≡ is_utf8 rest
unfolding utf8_from after_byte
one b rest f = ap (λ s. utf8_from s rest) f

two : (b lo hi d : ℕ) (rest : List ℕ) → after_first b sequences ≡ inside 0 lo hi → lo ≤ d → d ≤ hi → is_utf8 (b ∷ d ∷ rest) ≡ is_utf8 rest
unfolding utf8_from after_byte after_this
two b lo hi d rest f l h = ap (λ s. utf8_from s (d ∷ rest)) f ∙ goes_on 0 lo hi d rest l h

three : (b lo hi d e : ℕ) (rest : List ℕ) → after_first b sequences ≡ inside 1 lo hi → lo ≤ d → d ≤ hi → 0x80 ≤ e → e ≤ 0xBF
    → is_utf8 (b ∷ d ∷ e ∷ rest) ≡ is_utf8 rest
unfolding utf8_from after_byte after_this
three b lo hi d e rest f l h m i =
    ap (λ s. utf8_from s (d ∷ e ∷ rest)) f ∙ goes_on 1 lo hi d (e ∷ rest) l h ∙ goes_on 0 0x80 0xBF e rest m i

four : (b lo hi d e g : ℕ) (rest : List ℕ) → after_first b sequences ≡ inside 2 lo hi → lo ≤ d → d ≤ hi → 0x80 ≤ e → e ≤ 0xBF → 0x80 ≤ g → g ≤ 0xBF
    → is_utf8 (b ∷ d ∷ e ∷ g ∷ rest) ≡ is_utf8 rest
unfolding utf8_from after_byte after_this
four b lo hi d e g rest f l h m i n j =
    ap (λ s. utf8_from s (d ∷ e ∷ g ∷ rest)) f ∙ goes_on 2 lo hi d (e ∷ g ∷ rest) l h ∙ goes_on 1 0x80 0xBF e (g ∷ rest) m i
    ∙ goes_on 0 0x80 0xBF g rest n j

pub split : {P : Type 0} (c k : ℕ) → (c ≤ k → P) → (k < c → P) → P
split {P} c k f g = go (leb c k) refl
  where
    go : (t : Bool) → leb c k ≡ t → P
    go true e = f (leb-true c k e)
    go false e = g (leb-false c k e)

second : (p q : Bool) → (p || q) ≡ true → p ≡ false → q ≡ true
second true true e f = refl
second true false e f = sym f
second false q e f = e

-- a scalar value above the surrogates' first
scalar_bounds : (c : ℕ) → scalar c ≡ true → 0xD7FF < c → (0xE000 ≤ c) × (c ≤ 0x10FFFF)
unfolding scalar
scalar_bounds c s h = range_bounds 0xE000 0x10FFFF c (second (leb c 0xD7FF) (in_range 0xE000 0x10FFFF c) s (lt-leb c 0xD7FF h))

decodes_3 : (c : ℕ) (rest : List ℕ) → scalar c ≡ true → 0x7FF < c → c ≤ 0xFFFF
    → is_utf8 ((0xE0 + c / 64 / 64) ∷ continuation (c / 64) ∷ continuation c ∷ rest) ≡ is_utf8 rest
decodes_3 c rest s l h =
    let b : ℕ = 0xE0 + c / 64 / 64 in
    let d : ℕ = continuation (c / 64) in
    let e : ℕ = continuation c in
    split c 0xFFF (λ a. three b 0xA0 0xBF d e rest (at_e0 b (omega arith)) (omega arith) (omega arith) (omega arith) (omega arith))
    λ a. split c 0xCFFF (λ u. three b 0x80 0xBF d e rest (at_e1 b (omega arith) (omega arith)) (omega arith) (omega arith) (omega arith) (omega arith))
    λ u. split c 0xD7FF (λ v. three b 0x80 0x9F d e rest (at_ed b (omega arith)) (omega arith) (omega arith) (omega arith) (omega arith))
    λ v. let w = scalar_bounds c s v in let w0 = w.0 in
    three b 0x80 0xBF d e rest (at_ee b (omega (arith, w0)) (omega arith)) (omega arith) (omega arith) (omega arith) (omega arith)

decodes_4 : (c : ℕ) (rest : List ℕ) → 0xFFFF < c → c ≤ 0x10FFFF
    → is_utf8 ((0xF0 + c / 64 / 64 / 64) ∷ continuation (c / 64 / 64) ∷ continuation (c / 64) ∷ continuation c ∷ rest) ≡ is_utf8 rest
decodes_4 c rest l h =
    let b : ℕ = 0xF0 + c / 64 / 64 / 64 in
    let d : ℕ = continuation (c / 64 / 64) in
    let e : ℕ = continuation (c / 64) in
    let g : ℕ = continuation c in
    split c 0x3FFFF (λ a. four b 0x90 0xBF d e g rest (at_f0 b (omega arith)) (omega arith) (omega arith) (omega arith) (omega arith) (omega arith) (omega arith))
    λ a. split c 0xFFFFF (λ u. four b 0x80 0xBF d e g rest (at_f1 b (omega arith) (omega arith)) (omega arith) (omega arith) (omega arith) (omega arith) (omega arith) (omega arith))
    λ u. four b 0x80 0x8F d e g rest (at_f4 b (omega arith)) (omega arith) (omega arith) (omega arith) (omega arith) (omega arith) (omega arith)

pub decodes : Utf8Decodes
decodes c rest s =
    split c 0x7F (λ h. rw (encode_1 c h) (one c rest (at_1 c h)))
    λ l. split c 0x7FF (λ h. rw (encode_2 c l h)
    (two (0xC0 + c / 64) 0x80 0xBF (continuation c) rest (at_2 (0xC0 + c / 64) (omega arith) (omega arith)) (omega arith) (omega arith)))
    λ m. split c 0xFFFF (λ h. rw (encode_3 c m h) (decodes_3 c rest s m h))
    λ n. rw (encode_4 c n) (decodes_4 c rest n (scalar_bounds c s (omega arith)).1)

complete_all : (cs : List ℕ) → all_scalar cs ≡ true → is_utf8 (encode_all cs) ≡ true
unfolding all_scalar encode_all utf8_from may_end
complete_all [] a = refl
complete_all (c ∷ cs) a = let p = both (scalar c) (all_scalar cs) a in decodes c (encode_all cs) p.0 ∙ complete_all cs p.1

pub complete : (bytes : List ℕ) → Utf8 bytes → is_utf8 bytes ≡ true
complete bytes w = subst (λ bs. is_utf8 bs ≡ true) w.same (complete_all w.scalars w.each)

-- ---- what is accepted is some scalar values' bytes

scalar_low : (c : ℕ) → c ≤ 0xD7FF → scalar c ≡ true
unfolding scalar
scalar_low c h = rw (le-leb c 0xD7FF h)

or_true : (t : Bool) → (t || true) ≡ true
or_true true = refl
or_true false = refl

scalar_high : (c : ℕ) → 0xE000 ≤ c → c ≤ 0x10FFFF → scalar c ≡ true
unfolding scalar
scalar_high c l h = rw (in_range_lem 0xE000 0x10FFFF c l h) (or_true (leb c 0xD7FF))

prepend : (c : ℕ) (cs rest : List ℕ) → scalar c ≡ true → encode c ≡ cs → Utf8 rest → Utf8 (cs ++ rest)
unfolding all_scalar encode_all
prepend c cs rest s e w = record { scalars = c ∷ w.scalars; each = rw s w.each; same = rw (e, w.same) }

digit_div : (n z : ℕ) → z < 64 → (n * 64 + z) / 64 ≡ n
digit_div n z h = omega arith

digit_mod : (n z : ℕ) → z < 64 → (n * 64 + z) % 64 ≡ z
digit_mod n z h = omega arith

-- the number of a first byte's bits x and one byte more
abbrev onto : ℕ → ℕ → ℕ
onto x d = x * 64 + (d - 0x80)

onto-div : (x d : ℕ) → d ≤ 0xBF → onto x d / 64 ≡ x
onto-div x d h = digit_div x (d - 0x80) (omega arith)

onto_last : (x d : ℕ) → 0x80 ≤ d → d ≤ 0xBF → continuation (onto x d) ≡ d
onto_last x d l h = rw (digit_mod x (d - 0x80) (omega arith)) (omega arith)

is_1 : (b : ℕ) (t : List ℕ) → b ≤ 0x7F → Utf8 t → Utf8 (b ∷ t)
is_1 b t h w = prepend b (b ∷ []) t (scalar_low b (omega arith)) (encode_1 b h) w

is_2 : (b d : ℕ) (t : List ℕ) → 0xC2 ≤ b → b ≤ 0xDF → 0x80 ≤ d → d ≤ 0xBF → Utf8 t → Utf8 (b ∷ d ∷ t)
is_2 b d t l h m i w =
    let x : ℕ = b - 0xC0 in
    let c : ℕ = onto x d in
    let f : 0xC0 + x ≡ b = omega arith in
    prepend c (b ∷ d ∷ []) t (scalar_low c (omega arith))
    (encode_2 c (omega arith) (omega arith) ∙ rw (onto-div x d i, onto_last x d m i, f)) w

is_3 : (b d e : ℕ) (t : List ℕ) → 0xE0 ≤ b → b ≤ 0xEF → 0x80 ≤ d → d ≤ 0xBF → 0x80 ≤ e → e ≤ 0xBF
    → 0x7FF < onto (onto (b - 0xE0) d) e → scalar (onto (onto (b - 0xE0) d) e) ≡ true → Utf8 t → Utf8 (b ∷ d ∷ e ∷ t)
is_3 b d e t l h m i n j k s w =
    let x : ℕ = b - 0xE0 in
    let y : ℕ = onto x d in
    let c : ℕ = onto y e in
    let f : 0xE0 + x ≡ b = omega arith in
    prepend c (b ∷ d ∷ e ∷ []) t s
    (encode_3 c k (omega arith) ∙ rw (onto-div y e j, onto_last y e n j, onto-div x d i, onto_last x d m i, f)) w

is_4 : (b d e g : ℕ) (t : List ℕ) → 0xF0 ≤ b → b ≤ 0xF4 → 0x80 ≤ d → d ≤ 0xBF → 0x80 ≤ e → e ≤ 0xBF → 0x80 ≤ g → g ≤ 0xBF
    → 0xFFFF < onto (onto (onto (b - 0xF0) d) e) g → onto (onto (onto (b - 0xF0) d) e) g ≤ 0x10FFFF
    → Utf8 t → Utf8 (b ∷ d ∷ e ∷ g ∷ t)
is_4 b d e g t l h m i n j o p k u w =
    let x : ℕ = b - 0xF0 in
    let y : ℕ = onto x d in
    let z : ℕ = onto y e in
    let c : ℕ = onto z g in
    let f : 0xF0 + x ≡ b = omega arith in
    prepend c (b ∷ d ∷ e ∷ g ∷ []) t (scalar_high c (omega arith) u)
    (encode_4 c k ∙ rw (onto-div z g p, onto_last z g o p, onto-div y e j, onto_last y e n j, onto-div x d i, onto_last x d m i, f)) w

-- the list begins with a byte between lo and hi, and P holds of what follows
record Byte (lo hi : ℕ) (P : List ℕ → Type 0) (bytes : List ℕ) : Type 0 where
  first : ℕ
  rest : List ℕ
  same : bytes ≡ first ∷ rest
  low : lo ≤ first
  high : first ≤ hi
  on : P rest

Bytes : ℕ → ℕ → ℕ → List ℕ → Type 0
Bytes zero lo hi bytes = Byte lo hi Utf8 bytes
Bytes (suc k) lo hi bytes = Byte lo hi (Bytes k 0x80 0xBF) bytes

-- what a state that accepts the bytes knows of them
Rest : Awaiting → List ℕ → Type 0
Rest between bytes = Utf8 bytes
Rest (inside k lo hi) bytes = Bytes k lo hi bytes
Rest ill_formed bytes = ⊥

-- the rows of a table lead only to well-formed bytes
Leads : ℕ → List ℕ → List Sequence → Type 0
Leads b bs rs = Rest (after_first b rs) bs → Utf8 (b ∷ bs)

at_row : (b lo hi : ℕ) (s : Awaiting) (rs : List Sequence) (bs : List ℕ) → (lo ≤ b → b ≤ hi → Rest s bs → Utf8 (b ∷ bs))
    → Leads b bs rs → Leads b bs (sequence lo hi s ∷ rs)
unfolding after_first Leads
at_row b lo hi s rs bs f g = go (in_range lo hi b) refl
  where
    go : (t : Bool) → in_range lo hi b ≡ t → Rest (cond t s (after_first b rs)) bs → Utf8 (b ∷ bs)
    go true e r = let p = range_bounds lo hi b e in f p.0 p.1 r
    go false e r = g r

row_2 : (b lo hi : ℕ) (bs : List ℕ) → 0xC2 ≤ b → b ≤ 0xDF → 0x80 ≤ lo → hi ≤ 0xBF → Rest (inside 0 lo hi) bs → Utf8 (b ∷ bs)
unfolding Rest Bytes
row_2 b lo hi bs l h u v r =
    let rl = r.low in let rh = r.high in
    rw r.same (is_2 b r.first r.rest l h (omega arith) (omega arith) r.on)

row_3 : (b lo hi : ℕ) (bs : List ℕ) → 0xE0 ≤ b → b ≤ 0xEF → 0x80 ≤ lo → hi ≤ 0xBF
    → ((d e : ℕ) → lo ≤ d → d ≤ hi → 0x80 ≤ e → e ≤ 0xBF → (0x7FF < onto (onto (b - 0xE0) d) e) × (scalar (onto (onto (b - 0xE0) d) e) ≡ true))
    → Rest (inside 1 lo hi) bs → Utf8 (b ∷ bs)
unfolding Rest Bytes
row_3 b lo hi bs l h u v f r =
    let q = r.on in
    let rl = r.low in let rh = r.high in let ql = q.low in let qh = q.high in
    let p = f r.first q.first rl rh ql qh in
    rw (r.same, q.same) (is_3 b r.first q.first q.rest l h (omega arith) (omega arith) ql qh p.0 p.1 q.on)

row_4 : (b lo hi : ℕ) (bs : List ℕ) → 0xF0 ≤ b → b ≤ 0xF4 → 0x80 ≤ lo → hi ≤ 0xBF
    → ((d e g : ℕ) → lo ≤ d → d ≤ hi → 0x80 ≤ e → e ≤ 0xBF → 0x80 ≤ g → g ≤ 0xBF
    → (0xFFFF < onto (onto (onto (b - 0xF0) d) e) g) × (onto (onto (onto (b - 0xF0) d) e) g ≤ 0x10FFFF))
    → Rest (inside 2 lo hi) bs → Utf8 (b ∷ bs)
unfolding Rest Bytes
row_4 b lo hi bs l h u v f r =
    let q = r.on in let o = q.on in
    let rl = r.low in let rh = r.high in
    let p = f r.first q.first o.first rl rh q.low q.high o.low o.high in
    rw (r.same, q.same, o.same)
    (is_4 b r.first q.first o.first o.rest l h (omega arith) (omega arith) q.low q.high o.low o.high p.0 p.1 o.on)

no_row : (b : ℕ) (bs : List ℕ) → Leads b bs []
unfolding Leads after_first Rest
no_row b bs r = absurd r

at_rows : (b : ℕ) (bs : List ℕ) → Leads b bs sequences
unfolding Rest
at_rows b bs =
    at_row b 0x00 0x7F between _ bs (λ l h r. is_1 b bs h r)
    (at_row b 0xC2 0xDF (inside 0 0x80 0xBF) _ bs (λ l h r. row_2 b 0x80 0xBF bs l h (omega arith) (omega arith) r)
    (at_row b 0xE0 0xE0 (inside 1 0xA0 0xBF) _ bs
    (λ l h r. row_3 b 0xA0 0xBF bs (omega arith) (omega arith) (omega arith) (omega arith)
    (λ d e m i n j. (omega arith, scalar_low (onto (onto (b - 0xE0) d) e) (omega arith))) r)
    (at_row b 0xE1 0xEC (inside 1 0x80 0xBF) _ bs
    (λ l h r. row_3 b 0x80 0xBF bs (omega arith) (omega arith) (omega arith) (omega arith)
    (λ d e m i n j. (omega arith, scalar_low (onto (onto (b - 0xE0) d) e) (omega arith))) r)
    (at_row b 0xED 0xED (inside 1 0x80 0x9F) _ bs
    (λ l h r. row_3 b 0x80 0x9F bs (omega arith) (omega arith) (omega arith) (omega arith)
    (λ d e m i n j. (omega arith, scalar_low (onto (onto (b - 0xE0) d) e) (omega arith))) r)
    (at_row b 0xEE 0xEF (inside 1 0x80 0xBF) _ bs
    (λ l h r. row_3 b 0x80 0xBF bs (omega arith) (omega arith) (omega arith) (omega arith)
    (λ d e m i n j. (omega arith, scalar_high (onto (onto (b - 0xE0) d) e) (omega arith) (omega arith))) r)
    (at_row b 0xF0 0xF0 (inside 2 0x90 0xBF) _ bs
    (λ l h r. row_4 b 0x90 0xBF bs (omega arith) (omega arith) (omega arith) (omega arith)
    (λ d e g m i n j o p. (omega arith, omega arith)) r)
    (at_row b 0xF1 0xF3 (inside 2 0x80 0xBF) _ bs
    (λ l h r. row_4 b 0x80 0xBF bs (omega arith) (omega arith) (omega arith) (omega arith)
    (λ d e g m i n j o p. (omega arith, omega arith)) r)
    (at_row b 0xF4 0xF4 (inside 2 0x80 0x8F) _ bs
    (λ l h r. row_4 b 0x80 0x8F bs (omega arith) (omega arith) (omega arith) (omega arith)
    (λ d e g m i n j o p. (omega arith, omega arith)) r)
    (no_row b bs)))))))))

at_table : (b : ℕ) (bs : List ℕ) → Rest (after_first b sequences) bs → Utf8 (b ∷ bs)
unfolding Leads
at_table b bs = at_rows b bs

-- a byte of the range inside a character, and what the state after it knows
inside_row : (t : Bool) (k lo hi b : ℕ) (bs : List ℕ) → in_range lo hi b ≡ t → Rest (cond t (after_this k) ill_formed) bs → Bytes k lo hi (b ∷ bs)
unfolding Rest Bytes after_this
inside_row false k lo hi b bs e r = absurd r
inside_row true zero lo hi b bs e r =
    let p = range_bounds lo hi b e in record { first = b; rest = bs; same = refl; low = p.0; high = p.1; on = r }
inside_row true (suc k) lo hi b bs e r =
    let p = range_bounds lo hi b e in record { first = b; rest = bs; same = refl; low = p.0; high = p.1; on = r }

known : (bytes : List ℕ) (s : Awaiting) → utf8_from s bytes ≡ true → Rest s bytes
unfolding utf8_from may_end after_byte Rest all_scalar encode_all
known [] between a = record { scalars = []; each = refl; same = refl }
known [] (inside k lo hi) a = absurd (false≢true a)
known [] ill_formed a = false≢true a
known (b ∷ bs) between a = at_table b bs (known bs (after_first b sequences) a)
known (b ∷ bs) (inside k lo hi) a = inside_row (in_range lo hi b) k lo hi b bs refl (known bs (cond (in_range lo hi b) (after_this k) ill_formed) a)
known (b ∷ bs) ill_formed a = known bs ill_formed a

pub sound : (bytes : List ℕ) → is_utf8 bytes ≡ true → Utf8 bytes
unfolding Rest
sound bytes a = known bytes between a

-- ---- both ways
pub exact : Utf8Exact
exact bytes = (sound bytes, complete bytes)

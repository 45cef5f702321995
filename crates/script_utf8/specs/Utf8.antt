-- UTF-8 by RFC 3629: scalar values, their bytes, the byte lists that are well formed, and the test of them by the RFC's table. A byte is a
-- number; nothing here asks that it be below 256. Assumes nothing.
use Rattle.std.specs.Prelude.{Bool, true, false, cond, ◌&&◌, ◌||◌, List, [], ◌∷◌, ◌++◌, ◌↔◌, ◌≡◌, ℕ, zero, suc, ◌+◌, ◌-◌, ◌*◌, ◌/◌, ◌%◌, leb, get_or, drop}

-- lo ≤ b ≤ hi
unfoldable pub in_range : ℕ → ℕ → ℕ → Bool
in_range lo hi b = leb lo b && leb b hi

-- ---- what the RFC says (its section 3)

abbrev pub last_below_surrogates : ℕ
last_below_surrogates = 0xD7FF

abbrev pub first_above_surrogates : ℕ
first_above_surrogates = 0xE000

abbrev pub last_scalar : ℕ
last_scalar = 0x10FFFF

-- a character number that is no surrogate
unfoldable pub scalar : ℕ → Bool
scalar c = leb c last_below_surrogates || in_range first_above_surrogates last_scalar c

-- a byte 10xxxxxx that holds the six lowest bits of n
abbrev pub continuation : ℕ → ℕ
continuation n = 0x80 + n % 64

-- the bytes of a scalar value, by the four ranges: 0xxxxxxx; 110xxxxx and one more; 1110xxxx and two more; 11110xxx and three more
unfoldable pub encode : ℕ → List ℕ
encode c =
    cond (leb c 0x7F) (c ∷ [])
    (cond (leb c 0x7FF) ((0xC0 + c / 64) ∷ continuation c ∷ [])
    (cond (leb c 0xFFFF) ((0xE0 + c / 64 / 64) ∷ continuation (c / 64) ∷ continuation c ∷ [])
    ((0xF0 + c / 64 / 64 / 64) ∷ continuation (c / 64 / 64) ∷ continuation (c / 64) ∷ continuation c ∷ [])))

unfoldable pub encode_all : List ℕ → List ℕ
encode_all [] = []
encode_all (c ∷ cs) = encode c ++ encode_all cs

unfoldable pub all_scalar : List ℕ → Bool
all_scalar [] = true
all_scalar (c ∷ cs) = scalar c && all_scalar cs

-- the bytes are those of some scalar values, one after the other
pub record Utf8 (bytes : List ℕ) : Type 0 where
  pub scalars : List ℕ
  pub each : all_scalar scalars ≡ true
  pub same : encode_all scalars ≡ bytes

-- ---- the RFC's table of byte sequences (its section 4), read byte by byte

-- what may come next: another character, or the end; a byte from lo to hi and k continuation bytes more; nothing, for what came is ill formed
pub data Awaiting : Type 0 where
  between : Awaiting
  inside : (k lo hi : ℕ) → Awaiting
  ill_formed : Awaiting

-- a row of the table: the range of the first byte, and what it awaits
pub record Sequence : Type 0 where
  pub lo : ℕ
  pub hi : ℕ
  pub awaits : Awaiting

abbrev pub sequence : ℕ → ℕ → Awaiting → Sequence
sequence l h s = record { lo = l; hi = h; awaits = s }

abbrev pub sequences : List Sequence
sequences =
    sequence 0x00 0x7F between
    ∷ sequence 0xC2 0xDF (inside 0 0x80 0xBF)
    ∷ sequence 0xE0 0xE0 (inside 1 0xA0 0xBF)
    ∷ sequence 0xE1 0xEC (inside 1 0x80 0xBF)
    ∷ sequence 0xED 0xED (inside 1 0x80 0x9F)
    ∷ sequence 0xEE 0xEF (inside 1 0x80 0xBF)
    ∷ sequence 0xF0 0xF0 (inside 2 0x90 0xBF)
    ∷ sequence 0xF1 0xF3 (inside 2 0x80 0xBF)
    ∷ sequence 0xF4 0xF4 (inside 2 0x80 0x8F)
    ∷ []

-- what a character's first byte awaits, by the first row whose range holds it
unfoldable pub after_first : ℕ → List Sequence → Awaiting
after_first b [] = ill_formed
after_first b (r ∷ rs) = cond (in_range r.lo r.hi b) r.awaits (after_first b rs)

-- what is awaited behind a byte that had k continuation bytes behind it
unfoldable pub after_this : ℕ → Awaiting
after_this zero = between
after_this (suc k) = inside k 0x80 0xBF

unfoldable pub after_byte : Awaiting → ℕ → Awaiting
after_byte between b = after_first b sequences
after_byte (inside k lo hi) b = cond (in_range lo hi b) (after_this k) ill_formed
after_byte ill_formed b = ill_formed

unfoldable pub may_end : Awaiting → Bool
may_end between = true
may_end (inside k lo hi) = false
may_end ill_formed = false

unfoldable pub utf8_from : Awaiting → List ℕ → Bool
utf8_from s [] = may_end s
utf8_from s (b ∷ bs) = utf8_from (after_byte s b) bs

abbrev pub is_utf8 : List ℕ → Bool
is_utf8 bytes = utf8_from between bytes

-- ---- what is proved: the test says yes of just the well-formed lists, and a scalar value's bytes are read off the front of a list
abbrev pub Utf8Exact : Type 0
Utf8Exact = (bytes : List ℕ) → (is_utf8 bytes ≡ true) ↔ Utf8 bytes

abbrev pub Utf8Decodes : Type 0
Utf8Decodes = (c : ℕ) (rest : List ℕ) → scalar c ≡ true → is_utf8 (encode c ++ rest) ≡ is_utf8 rest

-- ---- the scalar value that a list begins with, and what follows its bytes: by the first byte, as many bits of it as the encoding put there, and
-- six of each byte behind it

abbrev pub six_more : ℕ → ℕ → ℕ
six_more bits byte = bits * 64 + (byte - 0x80)

unfoldable pub scalar_at : List ℕ → ℕ
scalar_at l =
    let b = get_or l 0 0 in
    cond (leb b 0x7F) b
    (cond (leb b 0xDF) (six_more (b - 0xC0) (get_or l 1 0))
    (cond (leb b 0xEF) (six_more (six_more (b - 0xE0) (get_or l 1 0)) (get_or l 2 0))
    (six_more (six_more (six_more (b - 0xF0) (get_or l 1 0)) (get_or l 2 0)) (get_or l 3 0))))

unfoldable pub behind_scalar : List ℕ → List ℕ
behind_scalar l =
    let b = get_or l 0 0 in
    drop (cond (leb b 0x7F) 1 (cond (leb b 0xDF) 2 (cond (leb b 0xEF) 3 4))) l

-- decoding gives back what was encoded
abbrev pub Utf8Decoded : Type 0
Utf8Decoded = (c : ℕ) (rest : List ℕ) → scalar c ≡ true → (scalar_at (encode c ++ rest) ≡ c) × (behind_scalar (encode c ++ rest) ≡ rest)

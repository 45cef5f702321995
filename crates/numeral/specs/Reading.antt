-- The format of a number in a fault script (RULES, "Fault scripts", numbers): an optional single `+`, then one or more digits,
-- of value at most 2 ^ 64 - 1. Leading zeros are not limited. A word that is no number goes bad at one of its bytes or at its end,
-- counted from 0, and for one of three reasons. Assumes nothing.
use Rattle.std.specs.Prelude.{Bool, true, false, cond, ◌&&◌, List, [], ◌∷◌, ◌⊎◌, ◌≡◌, ℕ, zero, suc, ◌+◌, ◌-◌, ◌*◌, ◌^◌, ◌≤◌, ◌<◌, ltb, eqb, T, length, take, get_or, Result, Ok, Err}
use Rattle.numeral.specs.Digits.{is_digit, is_all_digits, value_of}
use Rattle.numeral.specs.declared.Why.{Why}
use Rattle.numeral.specs.declared.Why.TheVariants.{NoDigit, StrayByte, TooLarge}
use Rattle.numeral.specs.declared.Flaw.{Flaw}

-- the reasons' numbers
abbrev pub why_number : Why → ℕ
why_number NoDigit = 1
why_number StrayByte = 2
why_number TooLarge = 3

-- a word without the `+` that it may begin with, and how many bytes that `+` takes
unfoldable pub unsigned : List ℕ → List ℕ
unsigned [] = []
unsigned (b ∷ bs) = cond (eqb b 43) bs (b ∷ bs)

unfoldable pub sign_bytes : List ℕ → ℕ
sign_bytes [] = 0
sign_bytes (b ∷ bs) = cond (eqb b 43) 1 0

-- ---- where a word goes bad, and why

-- some number begins with these bytes: a `+` or none, then digits, of a value below 2 ^ 64 as far as they go
unfoldable pub begins_number : List ℕ → Bool
begins_number p = is_all_digits (unsigned p) && ltb (value_of (unsigned p)) (2 ^ 64)

-- the first place from i on such that no number begins with the bytes up to and including it, `left` bytes being looked at; where there is
-- none, the place behind them
unfoldable pub stop_from : ℕ → ℕ → List ℕ → ℕ
stop_from zero i w = i
stop_from (suc left) i w = cond (begins_number (take (suc i) w)) (stop_from left (suc i) w) i

-- the same of a whole word, whose length it is where some number begins with all of it
unfoldable pub stop : List ℕ → ℕ
stop w = stop_from (length w) 0 w

-- why no number goes on with the byte at that place: a digit makes it too large, and any other byte is stray
abbrev pub why_at : ℕ → Why
why_at b = cond (is_digit b) TooLarge StrayByte

-- a reason and a place together
abbrev pub flaw_at : Why → ℕ → Flaw
flaw_at why place = record { why = why; byte = place }

-- what a word says: it goes bad at the first such place; or it is a number, if it has a digit; or the digit is missing at its end
unfoldable pub number_of : List ℕ → Result ℕ Flaw
number_of w =
    cond (ltb (stop w) (length w)) (Err (flaw_at (why_at (get_or w (stop w) 0)) (stop w)))
    (cond (ltb 0 (length (unsigned w))) (Ok (value_of (unsigned w))) (Err (flaw_at NoDigit (length w))))

-- a number with one more byte behind it: ten times the number and the digit; or why there is none
unfoldable pub with_digit : ℕ → ℕ → Result ℕ Why
with_digit n b =
    cond (is_digit b) (cond (ltb (n * 10 + (b - 48)) (2 ^ 64)) (Ok (n * 10 + (b - 48))) (Err TooLarge)) (Err StrayByte)

-- ---- the same without why and where: a word is good with its number, or it is bad

-- one or more digits, of a value below 2 ^ 64
unfoldable pub is_number : List ℕ → Bool
is_number ds = ltb 0 (length ds) && is_all_digits ds && ltb (value_of ds) (2 ^ 64)

pub data GoodOrBad : Type 0 where
  good : ℕ → GoodOrBad
  bad : GoodOrBad

unfoldable pub word_judged : List ℕ → GoodOrBad
word_judged w = cond (is_number (unsigned w)) (good (value_of (unsigned w))) bad

-- an answer with its reason and its place forgotten
abbrev pub forgetting : Result ℕ Flaw → GoodOrBad
forgetting (Ok n) = good n
forgetting (Err flaw) = bad

-- ---- both as relations, for the laws

-- the word w is the number n, with `+` in front or without
pub record Digits (ds : List ℕ) (n : ℕ) : Type 0 where
  pub some : 0 < length ds
  pub digits : T (is_all_digits ds)
  pub value : value_of ds ≡ n
  pub fits : n < 2 ^ 64

abbrev pub Says : List ℕ → ℕ → Type 0
Says w n = Digits w n ⊎ ((ds : List ℕ) × (w ≡ 43 ∷ ds) × Digits ds n)

-- at the place stands a stray byte: a number begins with all that stands before it, and it is no digit, nor a `+` that stands first
pub record StrayAt (w : List ℕ) (place : ℕ) : Type 0 where
  pub inside : place < length w
  pub begun : begins_number (take place w) ≡ true
  pub other : is_digit (get_or w place 0) ≡ false
  pub unplussed : place ≡ 0 → get_or w place 0 ≡ 43 → ⊥

-- at the place stands the digit that is too much: what stands before it is digits, behind a `+` or none, of a value below 2 ^ 64, and with
-- it the value is 2 ^ 64 or more
pub record LargeAt (w : List ℕ) (place : ℕ) : Type 0 where
  pub inside : place < length w
  pub digits : is_all_digits (unsigned (take place w)) ≡ true
  pub fits : value_of (unsigned (take place w)) < 2 ^ 64
  pub digit : is_digit (get_or w place 0) ≡ true
  pub over : 2 ^ 64 ≤ value_of (unsigned (take (suc place) w))

-- why and where a word is bad. A word without a digit is empty or a `+` alone, and its digit is missing at its end
pub data BadAt (w : List ℕ) : Why → ℕ → Type 0 where
  missing : (w ≡ []) ⊎ (w ≡ 43 ∷ []) → BadAt w NoDigit (length w)
  stray : {place : ℕ} → StrayAt w place → BadAt w StrayByte place
  large : {place : ℕ} → LargeAt w place → BadAt w TooLarge place

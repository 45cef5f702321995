-- The core of plants that stays up (RULES, "Plants and core"), from the recovering flags and the lent picks.
-- Assumes nothing.
use Rattle.std.specs.Prelude.{Bool, true, cond, ◌&&◌, List, [], ◌∷◌, ◌++◌, ℕ, zero, suc, ◌+◌, ◌-◌, leb, eqb, length, take, drop, get_or}
use Rattle.basis.specs.Basis.{quorum}
use Rattle.plants_lineup.specs.Shuffle.{shuffled, picks_within}

-- how many picks the size takes: none if the full core is asked
abbrev pub size_picks : Bool → ℕ
size_picks full = cond full 0 1

-- how many picks are used: for the size, for the first shuffle, of all n plants, and for the second, of all but a quorum of them
abbrev pub picks_used : ℕ → Bool → ℕ
picks_used n full = size_picks full + (n - 1) + (n - quorum n - 1)

-- the picks for the first shuffle and those for the second, at the front of each list
abbrev pub first_picks : List ℕ → Bool → List ℕ
first_picks picks full = drop (size_picks full) picks

abbrev pub second_picks : ℕ → List ℕ → Bool → List ℕ
second_picks n picks full = drop (size_picks full + (n - 1)) picks

-- the size: n if the full core is asked, else the first pick
abbrev pub core_size : ℕ → List ℕ → Bool → ℕ
core_size n picks full = cond full n (get_or picks 0 0)

-- each pick is within its range, both ends included: quorum..n for the size, 0..i in the shuffles
unfoldable pub picks_in_range : ℕ → List ℕ → Bool → Bool
picks_in_range n picks full =
    leb (quorum n) (core_size n picks full) && leb (core_size n picks full) n
    && picks_within (n - 1) (first_picks picks full)
    && picks_within (n - quorum n - 1) (second_picks n picks full)

-- k plants from plant i on
unfoldable pub ids_from : ℕ → ℕ → List ℕ
ids_from i zero = []
ids_from i (suc k) = i ∷ ids_from (suc i) k

-- those that pass a test, in their order
unfoldable pub those : (ℕ → Bool) → List ℕ → List ℕ
those test [] = []
those test (x ∷ xs) = cond (test x) (x ∷ those test xs) (those test xs)

-- how many pass a test
abbrev pub tally : (ℕ → Bool) → List ℕ → ℕ
tally test l = length (those test l)

-- a plant's flag: 1 if it is recovering, 0 if it is healthy
abbrev pub has_flag : List ℕ → ℕ → ℕ → Bool
has_flag flags flag id = eqb (get_or flags id 0) flag

abbrev pub is_healthy : List ℕ → ℕ → Bool
is_healthy flags id = has_flag flags 0 id

abbrev pub is_recovering : List ℕ → ℕ → Bool
is_recovering flags id = has_flag flags 1 id

-- no flag is over 1
unfoldable pub recovering_fit : List ℕ → Bool
recovering_fit [] = true
recovering_fit (f ∷ fs) = leb f 1 && recovering_fit fs

-- how many of n plants are healthy
unfoldable pub healthy_count : ℕ → List ℕ → ℕ
healthy_count n flags = tally (is_healthy flags) (ids_from 0 n)

-- the plants shuffled
abbrev pub candidates : ℕ → List ℕ → List ℕ
candidates n picks = shuffled picks (ids_from 0 n)

-- of the candidates the first quorum of healthy ones, and the filler: the other healthy, then the recovering
abbrev pub staying : ℕ → List ℕ → List ℕ → List ℕ
staying n flags ids = take (quorum n) (those (is_healthy flags) ids)

abbrev pub filler : ℕ → List ℕ → List ℕ → List ℕ
filler n flags ids = drop (quorum n) (those (is_healthy flags) ids) ++ those (is_recovering flags) ids

-- the plants in the order in which the core takes them, from the picks of the two shuffles: those that stay, and the filler, shuffled likewise
unfoldable pub line_up : ℕ → List ℕ → List ℕ → List ℕ → List ℕ
line_up n flags first second =
    staying n flags (candidates n first) ++ shuffled second (filler n flags (candidates n first))

-- sorted_ids, by insertion of one after the other
unfoldable pub inserted_id : ℕ → List ℕ → List ℕ
inserted_id x [] = x ∷ []
inserted_id x (y ∷ ys) = cond (leb x y) (x ∷ y ∷ ys) (y ∷ inserted_id x ys)

unfoldable pub sorted_ids : List ℕ → List ℕ
sorted_ids [] = []
sorted_ids (x ∷ xs) = inserted_id x (sorted_ids xs)

-- the core: cut to size, and sorted_ids
unfoldable pub core_of : ℕ → List ℕ → List ℕ → Bool → List ℕ
core_of n flags picks full =
    sorted_ids (take (core_size n picks full) (line_up n flags (first_picks picks full) (second_picks n picks full)))

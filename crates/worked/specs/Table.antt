-- The rules' worked numbers (RULES, "Worked numbers"): one row, one number. Every row speaks of the definitions that the contracts of the
-- code cite. Assumes nothing.
use Rattle.std.specs.Prelude.{ℕ, ◌-◌, ◌^◌, ◌≡◌, false, List, [], ◌∷◌, map, negsuc, Float, take, replicate, Ok, Err}
use Rattle.std.specs.Float.{fin, binary64}
use Rattle.std.specs.Float.Ieee.{to_bits}
use Rattle.numeral.specs.Bytes.{bytes}
use Rattle.numeral.specs.Reading.{flaw_at, number_of}
use Rattle.numeral.specs.declared.Why.TheVariants.{NoDigit, StrayByte, TooLarge}
use Rattle.chance.specs.Probability.{threshold_of}
use Rattle.chance.specs.Draw.{drawn, gen_bool_in_send}
use Rattle.plants.specs.State.{fresh_plants}
use Rattle.plants_liveness.specs.Choice.{chosen, ids_of}
use Rattle.properties_durability.specs.Durability.{needed_copies}
use Rattle.nights.specs.Record.{Record}
use Rattle.nights.specs.Net.{Options, Letter, keep, is_due}
use Rattle.nights.specs.Net
use Rattle.nights.specs.Draws.{fate_of, decided}
use Rattle.nights.specs.Journal.{Call, change, rewind, State, held, used}
use Rattle.nights.specs.Claim.{ran}

-- ---- what the rows speak of

-- 0.5, the largest number below 1, 2^-64 and 2^-65: `negsuc k` is the exponent -(k + 1)
abbrev pub a_half : Float
a_half = fin false 1 (negsuc 0)

abbrev pub largest_below_one : Float
largest_below_one = fin false (2 ^ 53 - 1) (negsuc 52)

abbrev pub two_to_minus64 : Float
two_to_minus64 = fin false 1 (negsuc 63)

abbrev pub two_to_minus65 : Float
two_to_minus65 = fin false 1 (negsuc 64)

abbrev pub threshold : Float → ℕ
threshold p = threshold_of (to_bits binary64 p)

-- the core of 5 plants, all up, of which plant 0 is recovering, by the picks 4, 4, 3, 2, 1 and a last one
abbrev pub core : ℕ → List ℕ
core last = take 4 (ids_of (chosen (fresh_plants 5) (1 ∷ 0 ∷ 0 ∷ 0 ∷ 0 ∷ []) (4 ∷ 4 ∷ 3 ∷ 2 ∷ 1 ∷ last ∷ []) false).answer)

-- the run: loss 0.5, replay 0.5, minimum 2, mean 10; a send at 10 of kind 1, draws 9223372036854775808 and 0, extras 5 and 0
abbrev pub options : Options
options = record { loss = to_bits binary64 a_half; replay = to_bits binary64 a_half; least = 2; mean = 10; faulted = false }

abbrev pub letter : Letter
letter = record { now = 10; sort = 0; origin = 1; to = 2; kind = 1; handle = 7 }

abbrev pub draws : List ℕ
draws = 9223372036854775808 ∷ 0 ∷ []

abbrev pub extras : List ℕ
extras = 5 ∷ 0 ∷ []

abbrev pub send : Call
send = change (Net.send letter draws extras)

abbrev pub taking : ℕ → Call
taking now = change (Net.collect now 80)

-- after calls from a fresh_plants network and a journal of 82 words, just marked
abbrev pub after : List Call → State
after cs = ran fate_of options (replicate 80 9) cs

abbrev pub dues : List Call → List ℕ
dues cs = map (λ (r : Record). r.due) (after cs).net.pending

abbrev pub seqs : List Call → List ℕ
seqs cs = map (λ (r : Record). r.seq) (after cs).net.pending

-- the numbers of the records that a take after some calls gives
abbrev pub given : List Call → ℕ → List ℕ
given cs now = map (λ (r : Record). r.seq) (keep (is_due now) (after cs).net.pending)

-- ---- THE TABLE
pub record Worked : Type 0 where
  -- thresholds; 2^-65 gives 0 but uses a draw
  pub half : threshold a_half ≡ 9223372036854775808
  pub below_one : threshold largest_below_one ≡ 18446744073709549568
  pub minus_64 : threshold two_to_minus64 ≡ 1
  pub minus_65 : threshold two_to_minus65 ≡ 0
  pub minus_65_draws : gen_bool_in_send two_to_minus65 (0 ∷ []) 0 ≡ drawn false 1
  -- cores
  pub last_pick_0 : core 0 ≡ 0 ∷ 1 ∷ 2 ∷ 3 ∷ []
  pub last_pick_1 : core 1 ≡ 1 ∷ 2 ∷ 3 ∷ 4 ∷ []
  -- needed copies: with nobody recovering a majority of an odd number of plants, and one less than a majority of an even one
  pub four_of_four : needed_copies 4 4 ≡ 2
  pub two_of_five : needed_copies 5 2 ≡ 0
  -- ticks: `+007`, `1,500`, 18446744073709551615 and one more; a bad one with why and where, the earliest reason
  pub plus_007 : number_of (bytes "+007") ≡ Ok 7
  pub comma : number_of (bytes "1,500") ≡ Err (flaw_at StrayByte 1)
  pub largest : number_of (bytes "18446744073709551615") ≡ Ok 18446744073709551615
  pub one_more : number_of (bytes "18446744073709551616") ≡ Err (flaw_at TooLarge 19)
  pub one_more_then_stray : number_of (bytes "18446744073709551616x") ≡ Err (flaw_at TooLarge 19)
  pub no_word : number_of (bytes "") ≡ Err (flaw_at NoDigit 0)
  pub plus_alone : number_of (bytes "+") ≡ Err (flaw_at NoDigit 1)
  pub plus_then_stray : number_of (bytes "+x") ≡ Err (flaw_at StrayByte 1)
  -- the run: the copy due 17 seq 1, the original due 12 seq 2, delayed 1
  pub draws_used : (decided options 10 1 draws extras).draws ≡ 2
  pub extras_used : (decided options 10 1 draws extras).extras ≡ 2
  pub due_ticks : dues (send ∷ []) ≡ 12 ∷ 17 ∷ []
  pub numbers : seqs (send ∷ []) ≡ 2 ∷ 1 ∷ []
  pub delayed : (after (send ∷ [])).net.delayed ≡ 1
  -- take 12 gives seq 2; take 16 gives none; word 1 is 20
  pub take_12 : given (send ∷ []) 12 ≡ 2 ∷ []
  pub take_16 : given (send ∷ taking 12 ∷ []) 16 ≡ []
  pub words_used : used (after (send ∷ taking 12 ∷ taking 16 ∷ [])).words ≡ 20
  -- rewind 2: both pending, word 0 is 1, word 1 is 8
  pub both_pending : seqs (send ∷ taking 12 ∷ taking 16 ∷ rewind 2 ∷ []) ≡ 2 ∷ 1 ∷ []
  pub calls_held : held (after (send ∷ taking 12 ∷ taking 16 ∷ rewind 2 ∷ [])).words ≡ 1
  pub words_back : used (after (send ∷ taking 12 ∷ taking 16 ∷ rewind 2 ∷ [])).words ≡ 8

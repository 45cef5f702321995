-- What the draws and extras of a message decide, told as words: 20, 21 and 22 of the options, 24 of the kind, and then 26, 27 and 28, as a
-- send tests them; a refusal leaves the words as they came (RULES, "The host's boundary"). Assumes nothing.
use Rattle.std.specs.Prelude.{ℕ, List, [], ◌∷◌, leb, Result, Ok, Err, ◌≡◌}
use Rattle.nights.specs.Net.{Options, Fate, refuse, lose, once, twice, last_kind, lost_by, replayed_by}
use Rattle.nights.specs.Draws.{Decided, decided}
use Rattle.nights.specs.Tests.{Answer, done, refused, verdict, if_done, option_tests, allowed, refusal}
use Rattle.network_options.specs.declared.Refusal.{Refusal}
use Rattle.network_options.specs.Answers.{refusal_number}
use Rattle.network_fates.specs.declared.Decision.{Decision}
use Rattle.network_fates.specs.Answers.{decided_by}
use Rattle.network_layout.specs.Layout.{answer_code}

-- when the copy and when the original is due: 0 where there is none
abbrev pub copy_due : Fate → ℕ
copy_due (refuse k) = 0
copy_due lose = 0
copy_due (once d x) = 0
copy_due (twice c d x y) = c

abbrev pub original_due : Fate → ℕ
original_due (refuse k) = 0
original_due lose = 0
original_due (once d x) = d
original_due (twice c d x y) = d

-- the words of an answer: lost, replayed, the draws and extras used, the copy's due tick and the original's
abbrev pub fate_told : Decided → List ℕ
fate_told d =
    lost_by d.fate ∷ replayed_by d.fate ∷ d.draws ∷ d.extras ∷ copy_due d.fate ∷ original_due d.fate ∷ []

-- the call
module _ (o : Options) (now kind : ℕ) (draws extras : List ℕ) where
  abbrev pub fate_answered : Answer
  fate_answered =
      verdict
      (option_tests o
      (record { passes = leb kind last_kind; number = 24 }
      ∷ record { passes = allowed (decided o now kind draws extras).fate; number = refusal (decided o now kind draws extras).fate }
      ∷ []))

  unfoldable pub fate_number : ℕ
  fate_number = answer_code fate_answered

  unfoldable pub fate_words : List ℕ → List ℕ
  fate_words told = if_done fate_answered (fate_told (decided o now kind draws extras)) told

-- INSIDE: what the code decides is decided, and a refusal is the answer's
abbrev pub Decides : Result Decision Refusal → Options → (now kind : ℕ) (draws extras : List ℕ) → Type 0
Decides (Ok d) o now kind draws extras =
    (fate_answered o now kind draws extras ≡ done) × (decided_by d ≡ decided o now kind draws extras)
Decides (Err r) o now kind draws extras = fate_answered o now kind draws extras ≡ refused (refusal_number r)

-- The 12 words of a network's head, as the host lends them. Assumes nothing.
use Rattle.std.specs.Prelude.{ℕ, Bool, cond, not, ◌&&◌, List, [], ◌∷◌, leb, eqb, get_or, Option, Some, None, Result, Ok, Err}
use Rattle.chance.specs.Probability.{good_word}
use Rattle.basis.specs.Basis.{bit}
use Rattle.nights.specs.Net.{Options}
use Rattle.nights.specs.Tests.{Answer, done, refused}
use Rattle.network_options.specs.declared.NetworkOptions.{NetworkOptions}
use Rattle.network_options.specs.declared.Refusal.{Refusal}
use Rattle.network_options.specs.Options.{plain_options, struct_options}
use Rattle.network_options.specs.Answers.{refusal_number}
use Rattle.network_form.specs.declared.Head.{Head}
use Rattle.network_layout.specs.declared.OptionWords.{OptionWords}

-- how many words a head has
abbrev pub head_size : ℕ
head_size = 12

-- the options at the head's front
abbrev pub options_in : List ℕ → Options
options_in w =
    record { loss = get_or w 0 0; replay = get_or w 1 0; least = get_or w 2 0; mean = get_or w 3 0; faulted = eqb (get_or w 4 0) 1 }

-- options handed in as words: the flag is no for 0 and yes otherwise
abbrev pub options_from : (loss replay min mean flag : ℕ) → Options
options_from loss replay min mean flag =
    record { loss = loss; replay = replay; least = min; mean = mean; faulted = not (eqb flag 0) }

-- the code's own struct of them, and what their test answers
abbrev pub options_of : OptionWords → Options
options_of o = options_from o.loss o.replay o.min o.mean o.flag

abbrev pub tested_of : Result NetworkOptions Refusal → Answer
tested_of (Ok o) = done
tested_of (Err r) = refused (refusal_number r)

-- the probabilities' words are good, and the flag is 0 or 1
unfoldable pub head_fits : List ℕ → Bool
head_fits w = good_word (get_or w 0 0) && (good_word (get_or w 1 0) && leb (get_or w 4 0) 1)

-- the head of the words, and the words of a head
abbrev pub head_in : List ℕ → Head
head_in w =
    record {
      options = struct_options (options_in w);
      pending = get_or w 5 0;
      seq = get_or w 6 0;
      sent = get_or w 7 0;
      delivered = get_or w 8 0;
      lost = get_or w 9 0;
      replayed = get_or w 10 0;
      delayed = get_or w 11 0;
    }

abbrev pub option_words : Options → List ℕ → List ℕ
option_words o rest = o.loss ∷ o.replay ∷ o.least ∷ o.mean ∷ bit o.faulted ∷ rest

abbrev pub head_words : Head → List ℕ
head_words h =
    option_words (plain_options h.options)
    (h.pending ∷ h.seq ∷ h.sent ∷ h.delivered ∷ h.lost ∷ h.replayed ∷ h.delayed ∷ [])

-- an answer as a number: 0 if it is done
abbrev pub answer_code : Answer → ℕ
answer_code done = 0
answer_code (refused k) = k

-- an answer, if the words are a head
unfoldable pub if_head : List ℕ → Answer → Answer
if_head h a = cond (head_fits h) a (refused 23)

-- INSIDE: what reading a head gives
unfoldable pub loaded : List ℕ → Option Head
loaded w = cond (head_fits w) (Some (head_in w)) None

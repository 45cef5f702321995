-- Each call of the code, on a network of the code and the journal's words, by the step of the plain form (RULES, "Journal"): the very
-- step whose runs nights' theorem speaks of. A refusal hands back the very struct. Assumes nothing.
use Rattle.std.specs.Prelude.{ℕ, cond, List, Result, Ok, Err}
use Rattle.nights.specs.Net.{Options, send, collect, choose, fresh}
use Rattle.nights.specs.Draws.{fate_of}
use Rattle.nights.specs.Tests.{Answer, done, refused, if_done}
use Rattle.nights.specs.Journal.{Call, change, mark, State, Step, step}
use Rattle.network.specs.declared.Network.{Network}
use Rattle.network_options.specs.declared.Refusal.{Refusal}
use Rattle.network_options.specs.Options.{perfect_options}
use Rattle.network_options.specs.Answers.{refusal_number}
use Rattle.network.specs.Forms.{plain_of, struct_of, is_formed}
use Rattle.network_send.specs.declared.Letter.{Letter}
use Rattle.network_send.specs.Sends.{letter_of}

-- the calls, from their parameters
abbrev pub sends : (now sort origin to kind handle : ℕ) (draws extras : List ℕ) → Call
sends n s o t k h draws extras = change (send (letter_of n s o t k h) draws extras)

-- the same of the code's own struct of a letter
abbrev pub sends_letter : Letter → (draws extras : List ℕ) → Call
sends_letter m draws extras = sends m.now m.sort m.origin m.to m.kind m.handle draws extras

abbrev pub takes : (now room : ℕ) → Call
takes now room = change (collect now room)

abbrev pub chooses : Options → Call
chooses o = change (choose o)

-- the answer that a result of the code is, whatever it gives beside it
abbrev pub answer_from : {A : Type 0} → Result A Refusal → Answer
answer_from (Ok given) = done
answer_from (Err r) = refused (refusal_number r)

-- what the code holds, in the plain form
abbrev pub state_of : Network → List ℕ → State
state_of s w = record { net = plain_of s; words = w }

-- A call that takes a network: an ill-formed struct is refused first, by 23, and on a well-formed one the call is the plain form's
-- step.
unfoldable pub step_of : Call → Network → List ℕ → Step
step_of c s w = cond (is_formed s) (step fate_of (state_of s w) c) (record { state = state_of s w; answer = refused 23 })

abbrev pub answer_of : Call → Network → List ℕ → Answer
answer_of c s w = (step_of c s w).answer

abbrev pub words_after : Call → Network → List ℕ → List ℕ
words_after c s w = (step_of c s w).state.words

abbrev pub network_after : Call → Network → List ℕ → Network
network_after c s w = if_done (step_of c s w).answer (struct_of (step_of c s w).state.net) s

-- A mark takes no network: its step is the same on any, and here it is that on a fresh one.
abbrev pub marked : List ℕ → Step
marked w = step fate_of (record { net = fresh perfect_options; words = w }) mark

abbrev pub mark_answer : List ℕ → Answer
mark_answer w = (marked w).answer

abbrev pub mark_words : List ℕ → List ℕ
mark_words w = (marked w).state.words

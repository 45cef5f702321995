-- What the contracts of the five journaled calls say, to be held beside them: one record for each function and one field for each
-- `ensures`, in its words. A lent slice stands for its words at the call's entry; at its exit `left` is the journal and `given` the
-- output; `t` is what the function returns. Assumes nothing.
use Rattle.std.specs.Prelude.{ℕ, ◌≡◌, List, length, Result}
use Rattle.nights.specs.Record.{record_words}
use Rattle.nights.specs.Net.{keep, is_due}
use Rattle.nights.specs.Draws.{decided}
use Rattle.nights.specs.Tests.{Answer}
use Rattle.nights.specs.Journal.{rewind}
use Rattle.calls.specs.declared.After.{After}
use Rattle.network_options.specs.declared.NetworkOptions.{NetworkOptions}
use Rattle.network_options.specs.declared.Refusal.{Refusal}
use Rattle.network_options.specs.Options.{plain_options}
use Rattle.network_options.specs.Answers.{settled_of}
use Rattle.network_form.specs.Calls.{written}
use Rattle.network_send.specs.declared.Letter.{Letter}
use Rattle.network_send.specs.declared.Accepted.{Accepted}
use Rattle.network_send.specs.Sends.{sent_of, sending}
use Rattle.network_take.specs.Takes.{counted_of, counting}
use Rattle.network.specs.declared.Network.{Network}
use Rattle.network.specs.Forms.{plain_of}
use Rattle.journal_calls.specs.Calls.{sends_letter, takes, chooses, answer_from, answer_of, words_after, network_after, mark_answer, mark_words}

-- journal_send::send
pub record SendMade (network : Network) (letter : Letter) (draws extras journal : List ℕ)
    (t : After Network (Result Accepted Refusal)) (left : List ℕ) : Type 0 where
  pub networks : t.state ≡ network_after (sends_letter letter draws extras) network journal
  pub answers : sent_of t.answer
      ≡ sending (answer_of (sends_letter letter draws extras) network journal)
      (decided (plain_of network).options letter.now letter.kind draws extras)
  pub journals : left ≡ words_after (sends_letter letter draws extras) network journal

-- journal_take::take_due
pub record TakeMade (network : Network) (now : ℕ) (out journal : List ℕ) (t : After Network (Result ℕ Refusal))
    (given left : List ℕ) : Type 0 where
  pub networks : t.state ≡ network_after (takes now (length out)) network journal
  pub answers : counted_of t.answer
      ≡ counting (answer_of (takes now (length out)) network journal) (length (keep (is_due now) (plain_of network).pending))
  pub outs : given
      ≡ written (answer_of (takes now (length out)) network journal)
      (record_words (keep (is_due now) (plain_of network).pending)) out
  pub journals : left ≡ words_after (takes now (length out)) network journal

-- journal_options::set_options
pub record OptionsMade (network : Network) (options : NetworkOptions) (journal : List ℕ) (t : After Network (Result Unit Refusal))
    (left : List ℕ) : Type 0 where
  pub networks : t.state ≡ network_after (chooses (plain_options options)) network journal
  pub answers : settled_of t.answer ≡ answer_of (chooses (plain_options options)) network journal
  pub journals : left ≡ words_after (chooses (plain_options options)) network journal

-- journal_rewind::rewind
pub record RewindMade (network : Network) (k : ℕ) (journal : List ℕ) (t : After Network (Result Unit Refusal)) (left : List ℕ)
    : Type 0 where
  pub networks : t.state ≡ network_after (rewind k) network journal
  pub answers : settled_of t.answer ≡ answer_of (rewind k) network journal
  pub journals : left ≡ words_after (rewind k) network journal

-- journal_mark::mark
pub record MarkMade (journal : List ℕ) (t : Result Unit Refusal) (left : List ℕ) : Type 0 where
  pub answers : settled_of t ≡ mark_answer journal
  pub journals : left ≡ mark_words journal

-- The theorem's answer of each answer of the code: done, or refused with its number. Where a call tells nothing more it is `settled_of`.
abbrev pub answer_of_send : Result Accepted Refusal → Answer
answer_of_send t = answer_from t

abbrev pub answer_of_take : Result ℕ Refusal → Answer
answer_of_take t = answer_from t

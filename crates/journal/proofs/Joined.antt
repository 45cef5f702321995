-- What each contract says of its call is what the theorem asks of a turn of the night. Assumes nothing.
use Prim.Native.Nat.{ℕ}
use mathlib.Core.Path.{◌≡◌, refl, ap, ◌∙◌}
use mathlib.Core.List.{List}
use lib.ListN.{length}
use Rattle.nights.specs.Journal.{rewind}
use Rattle.std.specs.Prelude.{Result, Ok, Err}
use Rattle.calls.specs.declared.After.{After}
use Rattle.network_options.specs.declared.NetworkOptions.{NetworkOptions}
use Rattle.network_options.specs.declared.Refusal.{Refusal}
use Rattle.network_options.specs.Options.{plain_options}
use Rattle.network_options.specs.Answers.{settled_of}
use Rattle.network_send.specs.declared.Letter.{Letter}
use Rattle.network_send.specs.declared.Accepted.{Accepted}
use Rattle.network_send.specs.Sends.{Sending, sent_of}
use Rattle.network_send.proofs.Testing.{answer_of}
use Rattle.network_take.specs.Takes.{Count, counted_of}
use Rattle.network_take.proofs.Once.{counting_of}
use Rattle.network.specs.declared.Network.{Network}
use Rattle.journal_calls.specs.Calls.{sends_letter, takes, chooses}
use Rattle.journal.specs.Night.{Held, Settled, Marked}
use Rattle.journal.specs.Promised.{SendMade, TakeMade, OptionsMade, RewindMade, MarkMade, answer_of_send, answer_of_take}

abbrev held_in : Network → List ℕ → Held
held_in n w = record { network = n; words = w }

-- ---- the answers

sent_is : (t : Result Accepted Refusal) → answer_of_send t ≡ (sent_of t).answer
sent_is (Ok a) = refl
sent_is (Err r) = refl

counted_is : (t : Result ℕ Refusal) → answer_of_take t ≡ (counted_of t).answer
counted_is (Ok n) = refl
counted_is (Err r) = refl

-- ---- the calls

module _ (network : Network) (journal : List ℕ) where
  pub send_settles : (letter : Letter) (draws extras : List ℕ) (t : After Network (Result Accepted Refusal)) (left : List ℕ)
      → SendMade network letter draws extras journal t left
      → Settled (held_in network journal) (sends_letter letter draws extras) (answer_of_send t.answer) (held_in t.state left)
  send_settles letter draws extras t left m =
      record {
        answers = sent_is t.answer ∙ (ap (λ (z : Sending). z.answer) m.answers ∙ answer_of _ _);
        network = m.networks;
        words = m.journals;
      }

  pub take_settles : (now : ℕ) (out : List ℕ) (t : After Network (Result ℕ Refusal)) (given left : List ℕ) → TakeMade network now out journal t given left
      → Settled (held_in network journal) (takes now (length out)) (answer_of_take t.answer) (held_in t.state left)
  take_settles now out t given left m =
      record {
        answers = counted_is t.answer ∙ (ap (λ (z : Count). z.answer) m.answers ∙ counting_of _ _);
        network = m.networks;
        words = m.journals;
      }

  pub options_settle : (options : NetworkOptions) (t : After Network (Result Unit Refusal)) (left : List ℕ) → OptionsMade network options journal t left
      → Settled (held_in network journal) (chooses (plain_options options)) (settled_of t.answer) (held_in t.state left)
  options_settle options t left m = record { answers = m.answers; network = m.networks; words = m.journals }

  pub rewind_settles : (k : ℕ) (t : After Network (Result Unit Refusal)) (left : List ℕ) → RewindMade network k journal t left
      → Settled (held_in network journal) (rewind k) (settled_of t.answer) (held_in t.state left)
  rewind_settles k t left m = record { answers = m.answers; network = m.networks; words = m.journals }

  -- a mark takes no network: the host holds on to its own
  pub mark_settles : (t : Result Unit Refusal) (left : List ℕ) → MarkMade journal t left
      → Marked (held_in network journal) (settled_of t) (held_in network left)
  mark_settles t left m = record { answers = m.answers; network = refl; words = m.journals }

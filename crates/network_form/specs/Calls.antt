-- Each call on a head and its words by the calls of the plain form: the same tests in the same order, the same effect. A refusal hands
-- back the very head and words. Assumes nothing.
use Rattle.std.specs.Prelude.{ℕ, ◌*◌, List, [], ◌∷◌, ◌++◌, length, drop, leb}
use Rattle.nights.specs.Record.{record_size}
use Rattle.nights.specs.Net.{Change, effect}
use Rattle.nights.specs.Draws.{fate_of}
use Rattle.nights.specs.Tests.{Answer, if_done, Test, verdict, tests}
use Rattle.network_queue.specs.Packed.{packed}
use Rattle.network_form.specs.declared.Head.{Head}
use Rattle.network_form.specs.Forms.{plain_in, head_of, formed_in}

-- every call tests first that the network is well formed
abbrev pub form_test : Head → List ℕ → Test
form_test h w = record { passes = formed_in h w; number = 23 }

-- a send, a take or a change of options: its answer, and the head and the words that it leaves
unfoldable pub answer_in : Change → Head → List ℕ → Answer
answer_in c h w = verdict (form_test h w ∷ tests fate_of c (plain_in h w) [])

unfoldable pub head_after : Change → Head → List ℕ → Head
head_after c h w = if_done (answer_in c h w) (head_of (effect fate_of c (plain_in h w))) h

unfoldable pub records_after : Change → Head → List ℕ → List ℕ
records_after c h w = if_done (answer_in c h w) (packed (effect fate_of c (plain_in h w)).pending) w

-- counting and listing what is pending
unfoldable pub form_answer : Head → List ℕ → Answer
form_answer h w = verdict (form_test h w ∷ [])

unfoldable pub list_answer : Head → List ℕ → (room : ℕ) → Answer
list_answer h w room =
    verdict (form_test h w ∷ record { passes = leb (record_size * length (plain_in h w).pending) room; number = 30 } ∷ [])

-- a lent row with words at its front, if the call is done
abbrev pub written : Answer → (words out : List ℕ) → List ℕ
written a words out = if_done a (words ++ drop (length words) out) out

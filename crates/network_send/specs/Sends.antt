-- What a send is told, and what its answer tells. Assumes nothing.
use Rattle.std.specs.Prelude.{ℕ, List, Result, Ok, Err, ◌≡◌, ◌+◌, ◌≤◌, length}
use Rattle.basis.specs.Basis.{bit}
use Rattle.nights.specs.Net.{capacity, dues, Letter, Fate, refuse, lose, once, twice, lost_by, replayed_by, send}
use Rattle.nights.specs.Draws.{Decided, decided}
use Rattle.nights.specs.Tests.{Answer, done, refused}
use Rattle.network_options.specs.declared.Refusal.{Refusal}
use Rattle.network_options.specs.Options.{plain_options}
use Rattle.network_options.specs.Answers.{refusal_number}
use Rattle.network_fates.specs.declared.Decision.{Decision}
use Rattle.network_fates.specs.Answers.{decided_by}
use Rattle.network_form.specs.declared.Head.{Head}
use Rattle.network_form.specs.Calls.{answer_in}
use Rattle.network_send.specs.declared.Letter.{Letter as Told}
use Rattle.network_send.specs.declared.Accepted.{Accepted}

-- what a send is told, from the code's own struct of it
abbrev pub plain_letter : Told → Letter
plain_letter m = record { now = m.now; sort = m.sort; origin = m.origin; to = m.to; kind = m.kind; handle = m.handle }

-- and from numbers
abbrev pub letter_of : (now sort origin to kind handle : ℕ) → Letter
letter_of n s o t k h = record { now = n; sort = s; origin = o; to = t; kind = k; handle = h }

-- a send: the answer, how many were lost and how many replayed by it, and how many draws and extras it used; 0 beside a refusal
pub record Sending : Type 0 where
  pub answer : Answer
  pub lost : ℕ
  pub replayed : ℕ
  pub draws : ℕ
  pub extras : ℕ

abbrev pub sent_of : Result Accepted Refusal → Sending
sent_of (Ok a) = record { answer = done; lost = bit a.lost; replayed = bit a.replayed; draws = a.draws; extras = a.extras }
sent_of (Err r) = record { answer = refused (refusal_number r); lost = 0; replayed = 0; draws = 0; extras = 0 }

unfoldable pub sending : Answer → Decided → Sending
sending done d =
    record { answer = done; lost = lost_by d.fate; replayed = replayed_by d.fate; draws = d.draws; extras = d.extras }
sending (refused k) d = record { answer = refused k; lost = 0; replayed = 0; draws = 0; extras = 0 }

-- what a send on a head and its words tells
abbrev pub send_tells : Letter → (draws extras : List ℕ) → Head → List ℕ → Sending
send_tells m draws extras h w =
    sending (answer_in (send m draws extras) h w) (decided (plain_options h.options) m.now m.kind draws extras)

-- what a fate alone answers
unfoldable pub fate_answer : Fate → Answer
fate_answer (refuse k) = refused k
fate_answer lose = done
fate_answer (once d x) = done
fate_answer (twice c d x y) = done

-- INSIDE: what the code decides of a send is decided, with room for its copies, and a refusal is the answer's
abbrev pub Decides : Result Decision Refusal → Letter → (draws extras : List ℕ) → Head → List ℕ → Type 0
Decides (Ok d) m draws extras h w =
    (answer_in (send m draws extras) h w ≡ done)
    × (decided_by d ≡ decided (plain_options h.options) m.now m.kind draws extras)
    × (h.pending + length (dues (decided_by d).fate) ≤ capacity)
Decides (Err r) m draws extras h w = answer_in (send m draws extras) h w ≡ refused (refusal_number r)

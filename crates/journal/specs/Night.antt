-- A night of the code (demand 3): calls made by the public functions one after the other, each on the network and the journal's words
-- that the last one left, with what each call's contract says of it; and what the network is then. Assumes nothing.
use Rattle.std.specs.Prelude.{ℕ, ◌≡◌, true, List, [], ◌∷◌, map}
use Rattle.nights.specs.Net.{Options}
use Rattle.nights.specs.Draws.{fate_of}
use Rattle.nights.specs.Tests.{Answer}
use Rattle.nights.specs.Journal.{Call, change, rewind, mark}
use Rattle.nights.specs.Standing.{Entry, standing}
use Rattle.nights.specs.Rule.{Told}
use Rattle.nights.specs.Claim.{ran, log_of, Claim}
use Rattle.network.specs.declared.Network.{Network}
use Rattle.network.specs.Forms.{plain_of, struct_of, is_formed}
use Rattle.network.specs.Calls.{first_network}
use Rattle.journal_calls.specs.Calls.{state_of, answer_of, words_after, network_after, mark_answer, mark_words}

-- what the host holds between two calls
pub record Held : Type 0 where
  pub network : Network
  pub words : List ℕ

-- a call that was made: the call, its answer, and what the host held then
pub record Turn : Type 0 where
  pub call : Call
  pub answer : Answer
  pub after : Held

-- what the contracts of send, take_due, set_options and rewind say of a call, and what that of mark says
pub record Settled (h : Held) (c : Call) (answer : Answer) (after : Held) : Type 0 where
  pub answers : answer ≡ answer_of c h.network h.words
  pub network : after.network ≡ network_after c h.network h.words
  pub words : after.words ≡ words_after c h.network h.words

pub record Marked (h : Held) (answer : Answer) (after : Held) : Type 0 where
  pub answers : answer ≡ mark_answer h.words
  pub network : after.network ≡ h.network
  pub words : after.words ≡ mark_words h.words

unfoldable pub Happened : Held → Call → Answer → Held → Type 0
Happened h (change c) answer after = Settled h (change c) answer after
Happened h (rewind k) answer after = Settled h (rewind k) answer after
Happened h mark answer after = Marked h answer after

-- one call after the other
unfoldable pub Night : Held → List Turn → Type 0
Night h [] = Unit {0}
Night h (t ∷ ts) = Happened h t.call t.answer t.after × Night t.after ts

-- what the host holds at the end
unfoldable pub end_of : Held → List Turn → Held
end_of h [] = h
end_of h (t ∷ ts) = end_of t.after ts

-- the calls, and the calls with their answers
abbrev pub calls_of : List Turn → List Call
calls_of ts = map (λ (t : Turn). t.call) ts

abbrev pub entries_of : List Turn → List Entry
entries_of ts = map (λ (t : Turn). record { call = t.call; answer = t.answer }) ts

-- a fresh network of the options, and a journal of any words that has just been marked
abbrev pub evening : Options → List ℕ → Held
evening o rest = record { network = first_network o; words = 0 ∷ 2 ∷ rest }

-- DEMAND 3
module _ (o : Options) (rest : List ℕ) (ts : List Turn) where
  abbrev pub morning : Held
  morning = end_of (evening o rest) ts

  pub record Demand3 : Type 0 where
    -- the network is what the standing list says, by the rule that runs no queue
    pub told : Told fate_of o (standing (entries_of ts)) (plain_of morning.network)
    -- every word of it is settled by that, for it is the struct of its plain form; and it is well formed
    pub whole : morning.network ≡ struct_of (plain_of morning.network)
    pub formed : is_formed morning.network ≡ true
    -- the answers and the words are those of the plain form's run, of which the claim holds: what a rewind gives back, how far it
    -- can go, that a mark stays, and how many calls the journal holds
    pub answers : entries_of ts ≡ log_of fate_of o rest (calls_of ts)
    pub same : state_of morning.network morning.words ≡ ran fate_of o rest (calls_of ts)
    pub claim : Claim fate_of o rest (calls_of ts)

-- Each journaled call over a network's words and the journal's: the words in, the same call's definition, the words out. Words that are
-- no head are 23, and a refusal leaves every word as it came. Assumes nothing.
use Rattle.std.specs.Prelude.{List, ℕ}
use Rattle.nights.specs.Tests.{Answer, if_done}
use Rattle.nights.specs.Journal.{Call}
use Rattle.network.specs.declared.Network.{Network}
use Rattle.network.specs.Forms.{network_of}
use Rattle.journal_calls.specs.Calls.{answer_of, words_after, network_after}
use Rattle.network_layout.specs.Layout.{head_in, head_words, if_head}

-- the network of a head's words and its records
abbrev pub network_in : List ℕ → List ℕ → Network
network_in h r = network_of (head_in h) r

module _ (c : Call) (h r j : List ℕ) where
  abbrev pub journal_answer : Answer
  journal_answer = if_head h (answer_of c (network_in h r) j)

  abbrev pub journal_head : List ℕ
  journal_head = if_done journal_answer (head_words (network_after c (network_in h r) j).head) h

  abbrev pub journal_records : List ℕ
  journal_records = if_done journal_answer (network_after c (network_in h r) j).words r

  abbrev pub journal_words : List ℕ
  journal_words = if_done journal_answer (words_after c (network_in h r) j) j

-- What a take, a count and a list of what is pending tell, and what is written to the lent output. Assumes nothing.
use Rattle.std.specs.Prelude.{ℕ, List, length, Result, Ok, Err}
use Rattle.nights.specs.Record.{Record, record_words}
use Rattle.nights.specs.Net.{keep, is_due, collect}
use Rattle.nights.specs.Tests.{Answer, done, refused}
use Rattle.network_options.specs.declared.Refusal.{Refusal}
use Rattle.network_options.specs.Answers.{refusal_number}
use Rattle.network_form.specs.declared.Head.{Head}
use Rattle.network_form.specs.Forms.{plain_in}
use Rattle.network_form.specs.Calls.{answer_in, form_answer, list_answer, written}

-- a call that tells a number of records: the answer, and the number, 0 beside a refusal
pub record Count : Type 0 where
  pub answer : Answer
  pub records : ℕ

abbrev pub counted_of : Result ℕ Refusal → Count
counted_of (Ok n) = record { answer = done; records = n }
counted_of (Err r) = record { answer = refused (refusal_number r); records = 0 }

unfoldable pub counting : Answer → ℕ → Count
counting done n = record { answer = done; records = n }
counting (refused k) n = record { answer = refused k; records = 0 }

-- the records that are due at a tick, in delivery order
abbrev pub due_records : ℕ → Head → List ℕ → List Record
due_records tick h w = keep (is_due tick) (plain_in h w).pending

-- what a take on a head and its words tells, and the lent output after it
abbrev pub take_tells : (tick room : ℕ) → Head → List ℕ → Count
take_tells tick room h w = counting (answer_in (collect tick room) h w) (length (due_records tick h w))

abbrev pub take_gives : (tick : ℕ) (out : List ℕ) → Head → List ℕ → List ℕ
take_gives tick out h w = written (answer_in (collect tick (length out)) h w) (record_words (due_records tick h w)) out

-- what counting tells, and what listing tells and gives
abbrev pub count_tells : Head → List ℕ → Count
count_tells h w = counting (form_answer h w) (length (plain_in h w).pending)

abbrev pub list_tells : (room : ℕ) → Head → List ℕ → Count
list_tells room h w = counting (list_answer h w room) (length (plain_in h w).pending)

abbrev pub list_gives : (out : List ℕ) → Head → List ℕ → List ℕ
list_gives out h w = written (list_answer h w (length out)) (record_words (plain_in h w).pending) out

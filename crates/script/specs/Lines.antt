-- What one line of a fault script says (RULES, "Fault scripts"): cut at its first `#`, stripped and cut into words, it is blank, an event,
-- or faulty, the tests 3 to 7 in this order; 4 and 7 carry why the number reader refused the word, and where. Words after those that are
-- needed are ignored. Assumes nothing.
use Rattle.std.specs.Prelude.{cond, List, [], ◌∷◌, ℕ, Option, Some, None, Result, Ok, Err}
use Rattle.numeral.specs.Reading.{number_of}
use Rattle.numeral.specs.declared.Flaw.{Flaw}
use Rattle.script_words.specs.Words.{cut_at, strip, line_words}
use Rattle.script.specs.Faults.{named_by, needs_id, with_id}
use Rattle.script.specs.declared.fault.Fault.{Fault}
use Rattle.script.specs.declared.line.Event.{Event}
use Rattle.script.specs.declared.line.Refusal.{Refusal}
use Rattle.script.specs.declared.line.Refusal.TheVariants.{OneWord, BadTick, UnknownFault, MissingId, BadId}

-- a line is blank, an event, or faulty for a reason
abbrev pub Line : Type 0
Line = Result (Option Event) Refusal

abbrev pub blank : Line
blank = Ok None

abbrev pub event : ℕ → Fault → Line
event tick fault = Ok (Some (record { tick = tick; fault = fault }))

abbrev pub faulty : Refusal → Line
faulty r = Err r

-- the id, read as a number
abbrev pub with_number : ℕ → Fault → Result ℕ Flaw → Line
with_number tick fault (Err flaw) = faulty (BadId flaw)
with_number tick fault (Ok id) = event tick (with_id fault id)

-- a fault that needs an id and the words after its name
abbrev pub with_words : ℕ → Fault → List (List ℕ) → Line
with_words tick fault [] = faulty MissingId
with_words tick fault (w ∷ ws) = with_number tick fault (number_of w)

-- a fault and the words after its name: heal-all needs none of them
abbrev pub with_fault : ℕ → Fault → List (List ℕ) → Line
with_fault tick fault ws = cond (needs_id fault) (with_words tick fault ws) (event tick fault)

abbrev pub with_name : ℕ → Option Fault → List (List ℕ) → Line
with_name tick None ws = faulty UnknownFault
with_name tick (Some fault) ws = with_fault tick fault ws

abbrev pub with_tick : Result ℕ Flaw → List ℕ → List (List ℕ) → Line
with_tick (Err flaw) name ws = faulty (BadTick flaw)
with_tick (Ok tick) name ws = with_name tick (named_by name) ws

-- the first word is the tick, the second the fault
unfoldable pub of_words : List (List ℕ) → Line
of_words [] = blank
of_words (tick ∷ []) = faulty OneWord
of_words (tick ∷ name ∷ ws) = with_tick (number_of tick) name ws

-- what a line says. Its comment begins at byte 35, `#`
unfoldable pub line_says : List ℕ → Line
line_says l = of_words (line_words (strip (cut_at 35 l)))

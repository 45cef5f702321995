-- What a whole script says (RULES, "Fault scripts" and "Refusal numbers"), and the lent words after it was read.
-- Over the whole text refusal 1 comes first, then 2; then the first faulty line answers. Assumes nothing.
use Rattle.std.specs.Prelude.{cond, List, [], ◌∷◌, ◌++◌, map, ℕ, suc, ◌+◌, ◌*◌, ◌/◌, ltb, eqb, length, drop, Some, None, Result, Ok, Err}
use Rattle.numeral.specs.Reading.{why_number}
use Rattle.order.specs.Order as order
use Rattle.script_words.specs.Words.{lines_of}
use Rattle.script_stray.specs.Stray.{stray_line}
use Rattle.script.specs.Faults.{fault_number, fault_id}
use Rattle.script.specs.Lines.{Line, line_says}
use Rattle.script.specs.declared.Refused.{Refused}
use Rattle.script.specs.declared.line.Refusal.{Refusal}
use Rattle.script.specs.declared.line.Refusal.TheVariants.{TooLong, BadByte, OneWord, BadTick, UnknownFault, MissingId, BadId, NoRoom}

-- the refusals' numbers
abbrev pub script_refusal : Refusal → ℕ
script_refusal TooLong = 1
script_refusal BadByte = 2
script_refusal OneWord = 3
script_refusal (BadTick flaw) = 4
script_refusal UnknownFault = 5
script_refusal MissingId = 6
script_refusal (BadId flaw) = 7
script_refusal NoRoom = 8

-- why the word of a bad tick or a bad id is no number, by the reason's number, and at which byte of the word; 0 for any other refusal
abbrev pub refusal_why : Refusal → ℕ
refusal_why TooLong = 0
refusal_why BadByte = 0
refusal_why OneWord = 0
refusal_why (BadTick flaw) = why_number flaw.why
refusal_why UnknownFault = 0
refusal_why MissingId = 0
refusal_why (BadId flaw) = why_number flaw.why
refusal_why NoRoom = 0

abbrev pub refusal_byte : Refusal → ℕ
refusal_byte TooLong = 0
refusal_byte BadByte = 0
refusal_byte OneWord = 0
refusal_byte (BadTick flaw) = flaw.byte
refusal_byte UnknownFault = 0
refusal_byte MissingId = 0
refusal_byte (BadId flaw) = flaw.byte
refusal_byte NoRoom = 0

-- the most bytes that a text may have
abbrev pub longest : ℕ
longest = 65536

-- three words for each event that so many bytes can hold: one for nine bytes, the last line's LF left out (proofs/Most)
abbrev pub held_words : ℕ → ℕ
held_words bytes = 3 * ((bytes + 1) / 9)

-- the event that a line is, as tick, fault and id: one or none
abbrev pub line_events : Line → List order.Event
line_events (Ok None) = []
line_events (Ok (Some e)) = record { tick = e.tick; fault = fault_number e.fault; id = fault_id e.fault } ∷ []
line_events (Err r) = []

-- the events among what lines say, in file order
unfoldable pub events_of : List Line → List order.Event
events_of [] = []
events_of (l ∷ ls) = line_events l ++ events_of ls

-- a script's answer: how many events it has, or why it is refused and at which line
abbrev pub Script : Type 0
Script = Result ℕ Refused

abbrev pub refused_at : Refusal → ℕ → Script
refused_at r n = Err (record { refusal = r; line = n })

-- the answer of lines that begin at line n, with `found` events before them and room for `room` in all: the first faulty line's refusal, where
-- an event more than the room makes its line faulty too
unfoldable pub lines_judged : ℕ → ℕ → ℕ → List Line → Script
lines_judged room n found [] = Ok found
lines_judged room n found (Ok None ∷ ls) = lines_judged room (suc n) found ls
lines_judged room n found (Ok (Some e) ∷ ls) = cond (ltb found room) (lines_judged room (suc n) (suc found) ls) (refused_at NoRoom n)
lines_judged room n found (Err r ∷ ls) = refused_at r n

-- the same of one line: how many events were found up to its end, or why it stops
abbrev pub judged_line : ℕ → ℕ → Line → Result ℕ Refusal
judged_line room found (Ok None) = Ok found
judged_line room found (Ok (Some e)) = cond (ltb found room) (Ok (found + 1)) (Err NoRoom)
judged_line room found (Err r) = Err r

-- what the lines of a text say, one after the other
abbrev pub said : List ℕ → List Line
said text = map line_says (lines_of text)

-- the answer, with `words` words lent: room counts in whole events
unfoldable pub script_answer : List ℕ → ℕ → Script
script_answer text words =
    cond (ltb longest (length text)) (refused_at TooLong 0)
    (cond (eqb (stray_line text) 0) (lines_judged (words / 3) 1 0 (said text)) (refused_at BadByte (stray_line text)))

-- the script's events by tick, equal ticks in file order
unfoldable pub sorted_events : List ℕ → List order.Event
sorted_events text = order.sorted (events_of (said text))

-- the lent words after the answer: the events, then what was there; on a refusal none has changed
abbrev pub words_given : Script → List ℕ → List ℕ → List ℕ
words_given (Ok n) text words = order.event_words (sorted_events text) ++ drop (3 * n) words
words_given (Err refused) text words = words

unfoldable pub script_words : List ℕ → List ℕ → List ℕ
script_words text words = words_given (script_answer text (length words)) text words

-- What the program `faults` writes (RULES, "Fault scripts"): for a script that is accepted a line `events=`, then for each event a line
-- `tick=`, a line `fault=` and, unless it is heal-all, a line `id=`; for a refusal a line `refusal=` and a line `line=` and, for a tick or
-- an id that is no number, a line `why=` and a line `byte=`. Each ends with a line feed. Assumes nothing.
use Rattle.std.specs.Prelude.{cond, List, [], ◌∷◌, ◌++◌, ℕ, ◌+◌, ◌*◌, leb, eqb, length, drop, Option, Some, None, Ok, Err}
use Rattle.numeral.specs.Bytes.{bytes}
use Rattle.numeral.specs.Reading.{why_number}
use Rattle.numeral.specs.Writing.{decimal}
use Rattle.order.specs.Order.{Event}
use Rattle.script.specs.Faults.{crash, restart, reboot, partition, heal, heal_all}
use Rattle.numeral.specs.declared.Flaw.{Flaw}
use Rattle.script.specs.Scripts.{Script, script_refusal, script_answer, sorted_events}
use Rattle.script.specs.declared.line.Refusal.{Refusal}
use Rattle.script.specs.declared.line.Refusal.TheVariants.{TooLong, BadByte, OneWord, BadTick, UnknownFault, MissingId, BadId, NoRoom}

-- a key and its number on a line
abbrev pub number_line : List ℕ → ℕ → List ℕ
number_line key n = key ++ (decimal n ++ 10 ∷ [])

-- the keys, with their `=`
abbrev pub events_key : List ℕ
events_key = bytes "events="

abbrev pub tick_key : List ℕ
tick_key = bytes "tick="

abbrev pub fault_key : List ℕ
fault_key = bytes "fault="

abbrev pub id_key : List ℕ
id_key = bytes "id="

abbrev pub refusal_key : List ℕ
refusal_key = bytes "refusal="

abbrev pub line_key : List ℕ
line_key = bytes "line="

abbrev pub why_key : List ℕ
why_key = bytes "why="

abbrev pub byte_key : List ℕ
byte_key = bytes "byte="

-- a fault's name by its number, 0 to 5; no event has another
unfoldable pub name_of : ℕ → List ℕ
name_of n =
    cond (eqb n 0) crash (cond (eqb n 1) restart (cond (eqb n 2) reboot (cond (eqb n 3) partition (cond (eqb n 4) heal heal_all))))

-- the lines of an event: heal-all, number 5, has no id
unfoldable pub fault_line : ℕ → List ℕ
fault_line fault = fault_key ++ (name_of fault ++ 10 ∷ [])

unfoldable pub id_line : ℕ → ℕ → List ℕ
id_line fault id = cond (eqb fault 5) [] (number_line id_key id)

unfoldable pub event_text : Event → List ℕ
event_text e = number_line tick_key e.tick ++ (fault_line e.fault ++ id_line e.fault e.id)

unfoldable pub events_text : List Event → List ℕ
events_text [] = []
events_text (e ∷ es) = event_text e ++ events_text es

-- the count and the events
abbrev pub listed : ℕ → List Event → List ℕ
listed n es = number_line events_key n ++ events_text es

-- why a number is none and at which byte of its word: a bad tick and a bad id have these lines, and no other refusal has
abbrev pub flaw_text : Flaw → List ℕ
flaw_text flaw = number_line why_key (why_number flaw.why) ++ number_line byte_key flaw.byte

abbrev pub reason_text : Refusal → List ℕ
reason_text TooLong = []
reason_text BadByte = []
reason_text OneWord = []
reason_text (BadTick flaw) = flaw_text flaw
reason_text UnknownFault = []
reason_text MissingId = []
reason_text (BadId flaw) = flaw_text flaw
reason_text NoRoom = []

-- the lines of a refusal at a line n
abbrev pub refusal_text : Refusal → ℕ → List ℕ
refusal_text r n = number_line refusal_key (script_refusal r) ++ (number_line line_key n ++ reason_text r)

-- what is written for an answer
abbrev pub answer_text : Script → List Event → List ℕ
answer_text (Ok n) es = listed n es
answer_text (Err refused) es = refusal_text refused.refusal refused.line

-- the most events that the program takes, and the words lent to the reader for them
abbrev pub most_reported : ℕ
most_reported = 2048

abbrev pub event_room : ℕ
event_room = 3 * most_reported

-- what is written for a text
unfoldable pub report_text : List ℕ → List ℕ
report_text text = answer_text (script_answer text event_room) (sorted_events text)

-- the bytes that are always enough: 28 for a key and a number on the first line, and 66 for each event; a refusal's lines take far fewer
abbrev pub enough : ℕ
enough = 28 + 66 * most_reported

-- the answer and the lent bytes: nothing is written where fewer than enough are lent
unfoldable pub report_of : List ℕ → ℕ → Option ℕ
report_of text have = cond (leb enough have) (Some (length (report_text text))) None

unfoldable pub bytes_after : List ℕ → List ℕ → List ℕ
bytes_after text out = cond (leb enough (length out)) (report_text text ++ drop (length (report_text text)) out) out

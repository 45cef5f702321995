-- `script_report::report` meets its contract: the text for the answer, which always fits. Assumes nothing.
use borrow.Author.Tests.{le-leb}
use Rattle.std.proofs.Common.{◌≡◌, sym, ap, ◌∙◌, List, ℕ, ◌+◌, ◌*◌, ◌/◌, ◌≤◌, length, take, drop, arith, Some, Ok, Err}
use Rattle.std.proofs.Math.ListN.{replicate, length-replicate}
use Rattle.std.proofs.Math.Seq.{take_at, length-take-le}
use Rattle.basis.specs.Basis.{laid}
use Rattle.order.specs.Order.{event_words, events_in}
use Rattle.order.proofs.Laws.{length_words_of, events_in_words_of}
use Rattle.script.specs.Scripts.{Script, script_answer, sorted_events, script_words}
use Rattle.script.specs.declared.Refused.{Refused}
use Rattle.script.proofs.Laws.{events_counted}
use Rattle.script_report.specs.Report.{most_reported, listed, refusal_text, event_room, report_text, enough, report_of, bytes_after}
use Rattle.script_report.proofs.report.Goals as goal

-- what was laid from the front is the report
settled : (text out t : List ℕ) (r : ℕ) (o : List ℕ) → enough ≤ length out → report_text text ≡ t → r ≡ length t → o ≡ laid out 0 t
    → (Some r ≡ report_of text (length out)) × (o ≡ bytes_after text out)
unfolding report_of bytes_after
settled text out t r o h e f g =
    let z : 0 + length t ≡ length t = omega arith in
    (rw (le-leb enough (length out) h, e, f), rw (le-leb enough (length out) h, e, g, z))

accepted_text : (text : List ℕ) (m : ℕ) → script_answer text event_room ≡ Ok m → report_text text ≡ listed m (sorted_events text)
unfolding report_text
accepted_text text m e = rw e

refused_text : (text : List ℕ) (r : Refused) → script_answer text event_room ≡ Err r → report_text text ≡ refusal_text r.refusal r.line
unfolding report_text
refused_text text r e = rw e

-- the words that the reader left hold the events
given : (text : List ℕ) (m : ℕ) (w : List ℕ) → script_answer text event_room ≡ Ok m → m ≡ length (sorted_events text) → w ≡ script_words text (replicate event_room 0)
    → events_in (take (3 * m) w) ≡ sorted_events text
unfolding script_words
given text m w e n f =
    let es = sorted_events text in
    rw (f, length-replicate {A = ℕ} event_room 0, e, take_at (event_words es) (drop (3 * m) (replicate event_room 0)) (3 * m) (omega (arith, length_words_of es))) (events_in_words_of es)

answered : (text : List ℕ) (r : Script) → r ≡ script_answer text (length {A = ℕ} (replicate event_room 0)) → script_answer text event_room ≡ r
answered text r q = ap (script_answer text) (sym (length-replicate {A = ℕ} event_room 0)) ∙ sym q

-- how many events there are, and that their words are the reader's first
record Counted (text words : List ℕ) (m : ℕ) : Type 0 where
  all : m ≡ length (sorted_events text)
  few : m ≤ most_reported
  long : length (take (3 * m) words) ≡ 3 * m
  third : length (take (3 * m) words) / 3 ≡ m

counted : (text words : List ℕ) (m : ℕ) → script_answer text event_room ≡ Ok m → length words ≡ event_room → Counted text words m
counted text words m e l =
    let n = events_counted text event_room m e in
    let k : length (take (3 * m) words) ≡ 3 * m = length-take-le (3 * m) words (omega (arith, n.1)) in
    record { all = n.0; few = omega (arith, n.1); long = k; third = omega arith }

pub overflow_mul-events : goal.overflow_mul-events
overflow_mul-events c =
    let p = c.parse_script in
    let k = counted c.args.text.now p.new.events c.in-Ok.count (answered c.args.text.now p.result p.ensures.answer ∙ c.in-Ok.is) (omega (arith, p.auto.events)) in
    record { fits = omega (arith, k.few) }

pub slice_bounds-events-end : goal.slice_bounds-events-end
slice_bounds-events-end c =
    let p = c.parse_script in
    let k = counted c.args.text.now p.new.events c.in-Ok.count (answered c.args.text.now p.result p.ensures.answer ∙ c.in-Ok.is) (omega (arith, p.auto.events)) in
    omega (arith, k.few, p.auto.events)

pub slice_bounds-put_events-end : goal.slice_bounds-put_events-end
slice_bounds-put_events-end c =
    let p = c.parse_script in
    let k = counted c.args.text.now p.new.events c.in-Ok.count (answered c.args.text.now p.result p.ensures.answer ∙ c.in-Ok.is) (omega (arith, p.auto.events)) in
    sym k.long

pub put_events-requires-clause-whole : goal.put_events-requires-clause-whole
put_events-requires-clause-whole c =
    let p = c.parse_script in
    let k = counted c.args.text.now p.new.events c.in-Ok.count (answered c.args.text.now p.result p.ensures.answer ∙ c.in-Ok.is) (omega (arith, p.auto.events)) in
    omega (arith, k.long, k.third)

pub put_events-requires-clause-room : goal.put_events-requires-clause-room
put_events-requires-clause-room c =
    let p = c.parse_script in
    let k = counted c.args.text.now p.new.events c.in-Ok.count (answered c.args.text.now p.result p.ensures.answer ∙ c.in-Ok.is) (omega (arith, p.auto.events)) in
    omega (arith, k.third, k.few)

pub returns-in-Ok : goal.returns-in-Ok
returns-in-Ok c =
    let a = c.args in
    let p = c.parse_script in
    let m = c.in-Ok.count in
    let e = answered a.text.now p.result p.ensures.answer ∙ c.in-Ok.is in
    let k = counted a.text.now p.new.events m e (omega (arith, p.auto.events)) in
    let w = given a.text.now m p.new.events e k.all p.ensures.words in
    let f = rw (k.third, w) at c.put_events.ensures in
    let s = settled a.text.now a.out.now (listed m (sorted_events a.text.now)) c.put_events.new.self.at c.put_events.new.self.out.now (omega arith) (accepted_text a.text.now m e)
    (f.place ∙ omega arith) f.bytes in
    record { answer = s.0; bytes = grind (arith, s.1, c.put_events.ensures.same) }

pub returns-in-Err : goal.returns-in-Err
returns-in-Err c =
    let a = c.args in
    let p = c.parse_script in
    let f = c.put_refusal in
    let r = c.in-Err.refused in
    let s = settled a.text.now a.out.now (refusal_text r.refusal r.line) f.new.self.at f.new.self.out.now (omega arith)
    (refused_text a.text.now r (answered a.text.now p.result p.ensures.answer ∙ c.in-Err.is)) (f.ensures.place ∙ omega arith) f.ensures.bytes in
    record { answer = s.0; bytes = grind (arith, s.1, f.ensures.same) }

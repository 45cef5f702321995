-- `script::read_within` meets its contract: words are written only once the answer is known. Assumes nothing.
use Rattle.std.proofs.Common.{◌≡◌, sym, ◌∙◌, List, ◌++◌, ℕ, ◌+◌, ◌*◌, ◌/◌, ◌≤◌, length, take, drop, arith, rules, Ok}
use Rattle.std.proofs.Math.ListN.{length-append, length-drop}
use Rattle.std.proofs.Math.Seq.{take_at, drop_at, length-take-le}
use Rattle.basis.specs.Basis.{laid}
use Rattle.order.specs.Order.{event_words, events_in, sorted}
use Rattle.order.proofs.Laws.{length_words_of, events_in_words_of}
use Rattle.script.specs.Scripts.{Script, longest, held_words, said, events_of, lines_judged, sorted_events, words_given}
use Rattle.script.proofs.Judging.{accepted}
use Rattle.script.proofs.Most.{at_most}
use Rattle.script.proofs.read_within.Goals as goal

-- how many events there are, and that they fit
record Counted (text words : List ℕ) (n : ℕ) : Type 0 where
  all : n ≡ length (events_of (said text))
  fits : 3 * n ≤ length words
  most : 3 * n ≤ held_words (length text)
  short : length text ≤ longest

counted : (text words : List ℕ) (n : ℕ) (r : Script) → length text ≤ longest → r ≡ lines_judged (length words / 3) 1 0 (said text) → r ≡ Ok n → Counted text words n
counted text words n r short e q =
    let a = accepted (length words / 3) 1 0 n (said text) (sym e ∙ q) in
    let h = a.1 (omega arith) in
    let m : n ≡ length (events_of (said text)) = omega (arith, a.0) in
    record { all = m; fits = omega arith; most = omega (arith, at_most text); short = short }

-- ---- the words behind an answer that counts n events: `front` was copied over the first of them
module _ (text words : List ℕ) (n : ℕ) (k : Counted text words n) (front : List ℕ) (len : length front ≡ length (take (3 * n) words)) where
  as_long : length (front ++ drop (3 * n) words) ≡ length words
  as_long = omega (arith, length-append front (drop (3 * n) words), length-drop (3 * n) words, length-take-le (3 * n) words k.fits, k.fits)

  given : (start held w : List ℕ) → held ≡ laid start 0 (event_words (events_of (said text))) → front ≡ take (3 * n) held
      → w ≡ event_words (sorted (events_in (take (3 * n) (front ++ drop (3 * n) words)))) ++ drop (3 * n) (front ++ drop (3 * n) words) → w ≡ words_given (Ok n) text words
  unfolding sorted_events
  given start held w e f g =
      let all = events_of (said text) in
      let size : length (event_words all) ≡ 3 * n = omega (arith, length_words_of all, k.all) in
      let copied : front ≡ event_words all = f ∙ rw e (take_at (event_words all) (drop (0 + length (event_words all)) start) (3 * n) size) in
      rw (g, copied, take_at (event_words all) (drop (3 * n) words) (3 * n) size, drop_at (event_words all) (drop (3 * n) words) (3 * n) size, events_in_words_of all)

-- ---- the goals

pub overflow_mul-end : goal.overflow_mul-end
overflow_mul-end g c =
    let k = counted c.args.text.now c.args.events.now c.in_ok-count.count c.read_lines.result c.requires.0 c.read_lines.ensures.answer c.in_ok-count.was in
    record { fits = omega (arith, k.most, k.short) }

pub slice_bounds-copy_from_slice-end : goal.slice_bounds-copy_from_slice-end
slice_bounds-copy_from_slice-end g c =
    let k = counted c.args.text.now c.args.events.now c.in_ok-count.count c.read_lines.result c.requires.0 c.read_lines.ensures.answer c.in_ok-count.was in
    k.fits

pub slice_bounds-copy_from_slice-end-2 : goal.slice_bounds-copy_from_slice-end-2
slice_bounds-copy_from_slice-end-2 g c =
    let k = counted c.args.text.now c.args.events.now c.in_ok-count.count c.read_lines.result c.requires.0 c.read_lines.ensures.answer c.in_ok-count.was in
    sym (length-take-le (3 * c.in_ok-count.count) c.args.events.now k.fits)

pub shared_whole_as_front-copy_from_slice : goal.shared_whole_as_front-copy_from_slice
shared_whole_as_front-copy_from_slice g c =
    let k = counted c.args.text.now c.args.events.now c.in_ok-count.count c.read_lines.result c.requires.0 c.read_lines.ensures.answer c.in_ok-count.was in
    (omega (arith, k.most), omega arith)

pub copy_from_slice-requires : goal.copy_from_slice-requires
copy_from_slice-requires g c =
    let k = counted c.args.text.now c.args.events.now c.in_ok-count.count c.read_lines.result c.requires.0 c.read_lines.ensures.answer c.in_ok-count.was in
    let l = c.read_lines.auto.held in
    length-take-le (3 * c.in_ok-count.count) c.args.events.now k.fits
    ∙ sym (length-take-le (3 * c.in_ok-count.count) c.read_lines.new.held (omega (arith, k.most)))

pub whole_as_slice-sort : goal.whole_as_slice-sort
whole_as_slice-sort g c = omega arith

pub sort-requires-clause-n_le_most_sorted : goal.sort-requires-clause-n_le_most_sorted
sort-requires-clause-n_le_most_sorted g c =
    let k = counted c.args.text.now c.args.events.now c.in_ok-count.count c.read_lines.result c.requires.0 c.read_lines.ensures.answer c.in_ok-count.was in
    omega (arith, k.most, k.short)

pub returns-clause-words : goal.returns-clause-words
returns-clause-words g c =
    let k = counted c.args.text.now c.args.events.now c.in_ok-count.count c.read_lines.result c.requires.0 c.read_lines.ensures.answer c.in_ok-count.was in
    given c.args.text.now c.args.events.now c.in_ok-count.count k c.copy_from_slice.new.self c.copy_from_slice.ensures.len
    _ c.read_lines.new.held c.sort.new.words (c.read_lines.ensures.words (search rules)) c.copy_from_slice.ensures.after c.sort.ensures

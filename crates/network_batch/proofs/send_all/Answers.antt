-- `network_batch::send_all` meets its contract: what is left to send, from what has been sent, leaves what the whole leaves. Assumes nothing.
use Prim.Native.Nat.{◌-◌}
use mathlib.Core.Path.{◌≡◌, sym, ap, ◌∙◌}
use native.Mathlib.Omega.{arith}
use mathlib.Core.List.{List}
use Prim.Native.Nat.{ℕ}
use lib.ListN.{get_or}
use Rattle.network_form.proofs.Calling.{head_stays, records_stay}
use Rattle.network_form.proofs.Laws.{stays_formed}
use Rattle.network_words.proofs.Told.{sent_refused, sent_done, sent_told}
use Rattle.network_batch.specs.Ticks.{call_at}
use Rattle.network_batch.proofs.Sending.{rest, within_left, turn_goes, turn_stops, all_sent, made_of, formed_again}
use Rattle.network_batch.proofs.Undoing.{older_again, none_yet, one_more}
use Rattle.network_batch.proofs.Using.{modest}
use Rattle.network_batch.proofs.send_all.Goals as goal

pub loop-place-init : goal.loop-place-init
loop-place-init c =
    let z : c.args.count - 0 ≡ c.args.count = omega arith in
    record { formed = c.requires.0; drawn = omega arith; added = omega arith; ran = rw z; older = none_yet _ _ c.requires.0 }

pub letter_at-letter-requires : goal.letter_at-letter-requires
letter_at-letter-requires c = omega (arith, c.requires.1)

pub offset_bounds-draws-drawn : goal.offset_bounds-draws-drawn
offset_bounds-draws-drawn c = omega (arith, c.loop-place.invariant.drawn)

pub slice_bounds-send_on-count : goal.slice_bounds-send_on-count
slice_bounds-send_on-count c = omega (arith, c.loop-place.invariant.drawn)

pub slice_bounds-send_on-start : goal.slice_bounds-send_on-start
slice_bounds-send_on-start c = omega (arith, c.loop-place.invariant.drawn)

pub offset_bounds-extras-added : goal.offset_bounds-extras-added
offset_bounds-extras-added c = omega (arith, c.loop-place.invariant.added)

pub slice_bounds-send_on-count-in-loop-place : goal.slice_bounds-send_on-count-in-loop-place
slice_bounds-send_on-count-in-loop-place c = omega (arith, c.loop-place.invariant.added)

pub slice_bounds-send_on-start-in-loop-place : goal.slice_bounds-send_on-start-in-loop-place
slice_bounds-send_on-start-in-loop-place c = omega (arith, c.loop-place.invariant.added)

pub send_on-sent-requires : goal.send_on-sent-requires
send_on-sent-requires c = c.loop-place.invariant.formed

pub returns-in-Err : goal.returns-in-Err
returns-in-Err c =
    let a = c.args in
    let l = c.loop-place in
    let i = l.invariant in
    let y = made_of _ _ _ l.me l.records _ _ _ _ _ _ c.letter_at-letter.ensures (rest a.draws.now l.drawn) (rest a.extras.now l.added)
    (c.send_on-sent.ensures.head, (c.send_on-sent.ensures.records, c.send_on-sent.ensures.answer)) in
    let call = call_at a.sends.now a.draws.now a.extras.now l.place l.drawn l.added in
    let no = sent_refused _ _ _ y.1.1 _ c.in-Err.is in
    let s = y.0 ∙ sym (head_stays l.me l.records call _ no) in
    let v = y.1.0 ∙ sym (records_stay l.me l.records call _ no) in
    record {
      ran = sym (i.ran ∙ turn_stops a.sends.now a.draws.now a.extras.now a.count l.place l.drawn l.added l.me l.records c.loop-place-test.true _ no);
      whole = formed_again _ _ _ _ s v i.formed;
      within = omega (arith, c.loop-place-test.true);
      older = (older_again _ _ _ _ _ _ s v i.older).olds;
    }

pub overflow_add-drawn : goal.overflow_add-drawn
overflow_add-drawn c =
    let a = c.args in
    let l = c.loop-place in
    let i = l.invariant in
    let y = made_of _ _ _ l.me l.records _ _ _ _ _ _ c.letter_at-letter.ensures (rest a.draws.now l.drawn) (rest a.extras.now l.added)
    (c.send_on-sent.ensures.head, (c.send_on-sent.ensures.records, c.send_on-sent.ensures.answer)) in
    let n = ap (λ (t : List ℕ). get_or t 2 0) (sent_told _ _ _ y.1.1 _ c.in-Ok.is) in
    omega (arith, within_left a.draws.now _ _ _ i.drawn n (modest _ _ _ _ _).draws_within, c.well_formed)

pub overflow_add-added : goal.overflow_add-added
overflow_add-added c =
    let a = c.args in
    let l = c.loop-place in
    let i = l.invariant in
    let y = made_of _ _ _ l.me l.records _ _ _ _ _ _ c.letter_at-letter.ensures (rest a.draws.now l.drawn) (rest a.extras.now l.added)
    (c.send_on-sent.ensures.head, (c.send_on-sent.ensures.records, c.send_on-sent.ensures.answer)) in
    let n = ap (λ (t : List ℕ). get_or t 3 0) (sent_told _ _ _ y.1.1 _ c.in-Ok.is) in
    omega (arith, within_left a.extras.now _ _ _ i.added n (modest _ _ _ _ _).extras_within, c.well_formed)

pub loop-place-preserved : goal.loop-place-preserved
loop-place-preserved c =
    let a = c.args in
    let l = c.loop-place in
    let i = l.invariant in
    let y = made_of _ _ _ l.me l.records _ _ _ _ _ _ c.letter_at-letter.ensures (rest a.draws.now l.drawn) (rest a.extras.now l.added)
    (c.send_on-sent.ensures.head, (c.send_on-sent.ensures.records, c.send_on-sent.ensures.answer)) in
    let call = call_at a.sends.now a.draws.now a.extras.now l.place l.drawn l.added in
    let d = ap (λ (t : List ℕ). get_or t 2 0) (sent_told _ _ _ y.1.1 _ c.in-Ok.is) in
    let x = ap (λ (t : List ℕ). get_or t 3 0) (sent_told _ _ _ y.1.1 _ c.in-Ok.is) in
    let e = sent_done _ _ _ y.1.1 _ c.in-Ok.is in
    record {
      formed = formed_again _ _ _ _ y.0 y.1.0 (stays_formed call l.me l.records e);
      drawn = within_left a.draws.now _ _ _ i.drawn d (modest _ _ _ _ _).draws_within;
      added = within_left a.extras.now _ _ _ i.added x (modest _ _ _ _ _).extras_within;
      ran = i.ran
          ∙ turn_goes a.sends.now a.draws.now a.extras.now a.count l.place l.drawn l.added l.me l.records c.loop-place-test.true e _ _ d x _ _ y.0 y.1.0;
      older = older_again _ _ _ _ _ _ y.0 y.1.0 (one_more _ _ _ _ i.older _ _ _ e);
    }

pub returns : goal.returns
returns c =
    let a = c.args in
    let l = c.loop-place in
    record {
      ran = sym (l.invariant.ran ∙ all_sent a.sends.now a.draws.now a.extras.now a.count l.place l.drawn l.added l.me l.records c.loop-place-test.false);
      whole = l.invariant.formed;
      within = tt;
      older = l.invariant.older.olds;
    }

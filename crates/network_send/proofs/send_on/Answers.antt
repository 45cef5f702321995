-- `network_send::send_on` meets its contract: what is decided, and then the queueing of the fate. Assumes nothing.
use mathlib.Core.Path.{ap, ◌∙◌}
use native.Mathlib.Omega.{arith}
use denote.Floats.{passes}
use Rattle.std.proofs.lemmas.Grind.{common_steps}
use Rattle.nights.specs.Net.{send, send_one, effect}
use Rattle.nights.specs.Draws.{Decided}
use Rattle.network_queue.specs.Packed.{packed}
use Rattle.network_options.proofs.OptionForms.{flag_bit}
use Rattle.network_fates.specs.Answers.{decided_by}
use Rattle.network_form.specs.Forms.{plain_in, head_of}
use Rattle.network_form.proofs.Maps.{good_in, small, counts}
use Rattle.network_form.proofs.Calling.{head_follows, records_follow}
use Rattle.network_send.specs.Sends.{plain_letter}
use Rattle.network_send.proofs.Testing.{unsent, few, accepted_tells}
use Rattle.network_send.proofs.Queueing.{sent_head, sent_words, records_good, records_rise}
use Rattle.network_send.proofs.send_on.Goals as goal

pub decide-requires-clause-options : goal.decide-requires-clause-options
decide-requires-clause-options c = good_in c.args.head c.args.w.now c.requires

pub decide-requires-clause-few : goal.decide-requires-clause-few
decide-requires-clause-few c = small c.args.head c.args.w.now c.requires

pub returns-in-Err : goal.returns-in-Err
returns-in-Err c =
    let a = c.args in
    let u = unsent a.head a.w.now (plain_letter a.letter) a.draws.now a.extras.now _ (c.in-Err.ensures a.w.now c.requires) in
    record { head = u.0; records = u.1.0; answer = u.1.1 }

pub queue_copies-requires-clause-room : goal.queue_copies-requires-clause-room
queue_copies-requires-clause-room c =
    let n = counts c.args.head c.args.w.now c.requires in
    ((c.in-Ok.ensures c.args.w.now c.requires).2, omega (arith, n.few, n.replayed, n.even, n.numbered))

pub queue_copies-requires-clause-n_value : goal.queue_copies-requires-clause-n_value
queue_copies-requires-clause-n_value c =
    (records_good c.args.head c.args.w.now c.requires, records_rise c.args.head c.args.w.now c.requires)

pub overflow_add-state : goal.overflow_add-state
overflow_add-state c =
    let n = counts c.args.head c.args.w.now c.requires in
    omega (arith, n.small, (few (decided_by c.in-Ok.decision).fate).queued, c.copies-copies.ensures)

pub overflow_add-state-2 : goal.overflow_add-state-2
overflow_add-state-2 c =
    let n = counts c.args.head c.args.w.now c.requires in
    omega (arith, n.few, n.replayed, n.even, n.numbered, (few (decided_by c.in-Ok.decision).fate).queued, c.copies-copies.ensures)

pub overflow_add-state-3 : goal.overflow_add-state-3
overflow_add-state-3 c =
    let n = counts c.args.head c.args.w.now c.requires in
    omega (arith, n.few)

pub overflow_add-state-4 : goal.overflow_add-state-4
overflow_add-state-4 c =
    let n = counts c.args.head c.args.w.now c.requires in
    omega (arith, n.few, n.lost, (few (decided_by c.in-Ok.decision).fate).lost, c.lost.ensures, c.from.ensures ∙ flag_bit c.lost.result)

pub overflow_add-state-5 : goal.overflow_add-state-5
overflow_add-state-5 c =
    let n = counts c.args.head c.args.w.now c.requires in
    omega (arith, n.few, n.replayed, (few (decided_by c.in-Ok.decision).fate).replayed, c.replayed.ensures, c.from-2.ensures ∙ flag_bit c.replayed.result)

pub overflow_add-state-6 : goal.overflow_add-state-6
overflow_add-state-6 c =
    let n = counts c.args.head c.args.w.now c.requires in
    omega (arith, n.few, n.replayed, n.even, n.numbered, n.delayed, (few (decided_by c.in-Ok.decision).fate).delayed, c.delayed.ensures)

pub returns : goal.returns
unfolding effect
returns c =
    let a = c.args in
    let h = a.head in
    let w = a.w.now in
    let m = plain_letter a.letter in
    let d = decided_by c.in-Ok.decision in
    let t = c.in-Ok.ensures w c.requires in
    let e = t.0 in
    record {
      head = rw (c.copies-copies.ensures, c.from.ensures ∙ (flag_bit c.lost.result ∙ c.lost.ensures), c.from-2.ensures ∙ (flag_bit c.replayed.result ∙ c.replayed.ensures), c.delayed.ensures)
          (sent_head h w m d.fate (record { loss = passes _ c.well_formed.1.0.1.1.0.1.1.0.1; replay = passes _ c.well_formed.1.0.1.1.0.1.1.1.0.1 })
          ∙ (ap (λ (x : Decided). head_of (send_one m x.fate (plain_in h w))) t.1
          ∙ head_follows h w (send m a.draws.now a.extras.now) e));
      records = sent_words h w m d.fate c.requires c.told-w t.2 _ c.queue_copies.ensures
          ∙ (ap (λ (x : Decided). packed (send_one m x.fate (plain_in h w)).pending) t.1
          ∙ records_follow h w (send m a.draws.now a.extras.now) e);
      answer = accepted_tells h w m a.draws.now a.extras.now d _ _ _ _ e t.1 c.lost.ensures c.replayed.ensures (grind (arith, common_steps)) c.extras.ensures;
    }

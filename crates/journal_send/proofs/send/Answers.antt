-- `journal_send::send` meets its contract: the plain call, then the journal's tests, then the record of the numbers before. Assumes nothing.
use mathlib.Core.Path.{◌≡◌, refl, sym, ap, ◌∙◌}
use Rattle.std.specs.Prelude.{Result}
use Rattle.nights.specs.Net.{Change, send as sends}
use Rattle.nights.specs.Draws.{Decided, decided}
use Rattle.nights.specs.Tests.{Answer}
use Rattle.nights.specs.Journal.{undo_words}
use Rattle.network_options.specs.declared.Refusal.{Refusal}
use Rattle.network_options.specs.Answers.{settled_of}
use Rattle.network_send.specs.declared.Accepted.{Accepted}
use Rattle.network_send.specs.Sends.{Sending, plain_letter, sent_of, sending}
use Rattle.network.specs.Forms.{plain_of}
use Rattle.network_send.proofs.Testing.{answer_of}
use Rattle.journal_ledger.proofs.Words.{roomy}
use Rattle.journal_calls.proofs.Journaled.{refused_plain, refused_then, accepted}
use Rattle.journal_send.proofs.send.Goals as goal

-- the plain call's answer, from what it told
told : (a : Answer) (fate : Decided) {s r : Result Accepted Refusal} → sent_of s ≡ sending a fate → s ≡ r → a ≡ (sent_of r).answer
told a fate e h =
    sym (answer_of a fate)
    ∙ (sym (ap (λ (t : Sending). t.answer) e) ∙ ap (λ (t : Result Accepted Refusal). (sent_of t).answer) h)

pub returns-in_default : goal.returns-in_default
returns-in_default c =
    let a = c.args in
    let call : Change = sends (plain_letter a.letter) a.draws.now a.extras.now in
    let fate : Decided = decided (plain_of a.network).options a.letter.now a.letter.kind a.draws.now a.extras.now in
    let n = c.send-sent.ensures in
    let m = refused_plain call a.network a.journal.now _ (told _ _ n.answer c.in_default.is) in
    record {
      network = n.network ∙ m.network;
      answer = n.answer ∙ ap (λ (x : Answer). sending x fate) m.answer;
      journal = m.words;
    }

pub append-requires : goal.append-requires
append-requires c = roomy c.args.journal.now 6 (sym c.room_for.ensures ∙ ap settled_of c.in_default-room_for.is)

pub returns : goal.returns
unfolding undo_words
returns c =
    let a = c.args in
    let call : Change = sends (plain_letter a.letter) a.draws.now a.extras.now in
    let fate : Decided = decided (plain_of a.network).options a.letter.now a.letter.kind a.draws.now a.extras.now in
    let n = c.send-sent.ensures in
    let room = sym c.room_for.ensures ∙ ap settled_of c.in_default-room_for.is in
    let m = accepted call a.network a.journal.now (told _ _ n.answer c.in-Ok.is) _ refl room in
    record {
      network = n.network ∙ m.network;
      answer = n.answer ∙ ap (λ (x : Answer). sending x fate) m.answer;
      journal = (rw c.number.ensures at c.append.ensures) ∙ m.words;
    }

pub returns-in-Err : goal.returns-in-Err
unfolding undo_words sending
returns-in-Err c =
    let a = c.args in
    let call : Change = sends (plain_letter a.letter) a.draws.now a.extras.now in
    let fate : Decided = decided (plain_of a.network).options a.letter.now a.letter.kind a.draws.now a.extras.now in
    let j = sym c.room_for.ensures ∙ ap settled_of c.in-Err.is in
    let m = refused_then call a.network a.journal.now (told _ _ c.send-sent.ensures.answer c.in-Ok.is) _ 6 refl j in
    record { network = m.network; answer = ap (λ (x : Answer). sending x fate) m.answer; journal = m.words }

-- `journal_options::set_options` meets its contract: the plain call, then the journal's tests, then the record of the old options. Assumes nothing.
use mathlib.Core.Path.{◌≡◌, refl, sym, ap, ◌∙◌}
use lib.ListN.{length}
use Rattle.nights.specs.Net.{choose}
use Rattle.nights.specs.Journal.{undo_words}
use Rattle.nights.proofs.Kept.{options_good}
use Rattle.network_options.specs.Options.{plain_options}
use Rattle.network_options.specs.Answers.{settled_of}
use Rattle.network.specs.Forms.{plain_of}
use Rattle.network.proofs.Structs.{plain_formed, was_formed}
use Rattle.journal_ledger.proofs.Words.{roomy}
use Rattle.journal_calls.proofs.Journaled.{refused_plain, refused_then, accepted}
use Rattle.journal_options.proofs.set_options.Goals as goal

pub returns-in_default : goal.returns-in_default
returns-in_default c =
    let n = c.set_options-next.ensures in
    let e = sym n.answer ∙ ap settled_of c.in_default.is in
    let m = refused_plain (choose (plain_options c.args.options)) c.args.network c.args.journal.now _ e in
    record { network = n.network ∙ m.network; answer = n.answer ∙ m.answer; journal = m.words }

pub returns-in_default-room : goal.returns-in_default-room
unfolding undo_words
returns-in_default-room c =
    let done = sym c.set_options-next.ensures.answer ∙ ap settled_of c.in-Ok.is in
    let j = sym c.room_for-room.ensures ∙ ap settled_of c.in_default-room.is in
    let m = refused_then (choose (plain_options c.args.options)) c.args.network c.args.journal.now done _ 7 refl j in
    record { network = m.network; answer = ap settled_of c.in_default-room.is ∙ m.answer; journal = m.words }

pub options_record-record-requires : goal.options_record-record-requires
options_record-record-requires c =
    let done = sym c.set_options-next.ensures.answer ∙ ap settled_of c.in-Ok.is in
    let n = c.args.network in
    options_good (plain_of n) (plain_formed n (was_formed (choose (plain_options c.args.options)) n done))

pub append-requires : goal.append-requires
append-requires c =
    let r = c.options_record-record in
    let z : length r.result ≡ 7 = ap length r.ensures in
    roomy c.args.journal.now (length r.result) (rw z (sym c.room_for-room.ensures ∙ ap settled_of c.in-Ok-room.is))

pub returns : goal.returns
unfolding undo_words
returns c =
    let n = c.set_options-next.ensures in
    let done = sym n.answer ∙ ap settled_of c.in-Ok.is in
    let room = sym c.room_for-room.ensures ∙ ap settled_of c.in-Ok-room.is in
    let r = c.options_record-record in
    let m =
    accepted (choose (plain_options c.args.options)) c.args.network c.args.journal.now done r.result r.ensures (rw r.ensures room) in
    record { network = n.network ∙ m.network; answer = n.answer ∙ m.answer; journal = c.append.ensures ∙ m.words }

-- `network_send::queue_copies` meets its contract: one copy after the other, each under the next number. Assumes nothing.
use Prim.Native.Nat.{◌+◌}
use mathlib.Core.Path.{◌≡◌, sym, ap, ◌∙◌}
use native.Mathlib.Omega.{arith}
use lib.ListN.{length}
use Rattle.nights.specs.Record.{Record}
use Rattle.nights.specs.Net.{dues, copies}
use Rattle.network_queue.specs.Places.{inserted_words, inserted_all}
use Rattle.network_place.proofs.Keeping.{still_rising}
use Rattle.network_fates.specs.declared.Decision.{Decision}
use Rattle.network_fates.specs.Answers.{decided_by}
use Rattle.network_send.specs.Sends.{plain_letter}
use Rattle.network_send.proofs.queue_copies.Goals as goal

pub insert-requires : goal.insert-requires
unfolding dues
insert-requires c = (omega (arith, ap (λ (d : Decision). length (dues (decided_by d).fate)) c.in-Once.is, c.requires.room.0), c.requires.n_value.1)

pub insert-requires-in-Twice : goal.insert-requires-in-Twice
unfolding dues
insert-requires-in-Twice c = (omega (arith, ap (λ (d : Decision). length (dues (decided_by d).fate)) c.in-Twice.is, c.requires.room.0), c.requires.n_value.1)

pub insert-requires-in-Twice-2 : goal.insert-requires-in-Twice-2
unfolding dues
insert-requires-in-Twice-2 c = let s = ap (λ (d : Decision). length (dues (decided_by d).fate)) c.in-Twice.is in (
  omega (arith, s, c.requires.room.0),
  rw c.insert-in-Twice.ensures
      (still_rising c.args.w.now c.args.n c.args.seq _ c.requires.n_value.0 c.requires.n_value.1
      (omega (arith, ap (λ (x : Record). x.seq) c.copy-in-Twice.ensures))),
)

pub returns-in-Lost : goal.returns-in-Lost
unfolding inserted_all copies dues
returns-in-Lost c = sym (ap (λ (d : Decision). inserted_all c.args.w.now c.args.n (copies (plain_letter c.args.letter) c.args.seq (dues (decided_by d).fate))) c.in-Lost.is)

pub returns-in-Once : goal.returns-in-Once
unfolding inserted_all copies dues
returns-in-Once c = c.insert.ensures
    ∙ (ap (λ (r : Record). inserted_words c.args.w.now c.args.n r) c.copy.ensures ∙ sym (ap (λ (d : Decision). inserted_all c.args.w.now c.args.n (copies (plain_letter c.args.letter) c.args.seq (dues (decided_by d).fate))) c.in-Once.is))

pub returns-in-Twice : goal.returns-in-Twice
unfolding inserted_all copies dues
returns-in-Twice c = let z : c.args.seq + 1 + 1 ≡ c.args.seq + 2 = omega arith in
    c.insert-in-Twice-2.ensures
    ∙ (rw (c.insert-in-Twice.ensures, c.copy-in-Twice.ensures, c.copy-in-Twice-2.ensures, ← z) (sym (ap (λ (d : Decision). inserted_all c.args.w.now c.args.n (copies (plain_letter c.args.letter) c.args.seq (dues (decided_by d).fate))) c.in-Twice.is)))

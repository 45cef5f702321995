-- What an answer says of the lent rows: a refusal leaves them, and a call that is done writes them. And the answer itself, out of what
-- a send or a take inside tells. Assumes nothing.
use mathlib.Core.Path.{◌≡◌, sym, ap, ◌∙◌}
use mathlib.Core.List.{List, [], ◌∷◌}
use mathlib.Core.Bool.{true, false}
use Prim.Native.Nat.{ℕ}
use Rattle.std.specs.Prelude.{Result, Ok, Err}
use Rattle.basis.specs.Basis.{bit}
use Rattle.nights.specs.Draws.{Decided}
use Rattle.nights.specs.Tests.{Answer, done, refused}
use Rattle.network_options.specs.declared.Refusal.{Refusal}
use Rattle.network_options.specs.Answers.{refusal_number}
use Rattle.network_send.specs.declared.Accepted.{Accepted}
use Rattle.network_send.specs.Sends.{Sending, sent_of, sending}
use Rattle.network_send.proofs.Testing.{answer_of}
use Rattle.network_take.specs.Takes.{Count, counted_of, counting}
use Rattle.network_take.proofs.Once.{counting_of}
use Rattle.network_layout.specs.Layout.{head_fits, if_head}
use Rattle.network_words.specs.Calls.{Rows, by_answer, send_told}
use Rattle.network_layout.proofs.Heads.{no_head, a_head}

-- ---- the rows by the answer

pub record Kept (a : Answer) (k : ℕ) : Type 0 where
  pub number : (wrote came : Rows) → k ≡ (by_answer a wrote came).number
  pub head : (wrote came : Rows) → came.head ≡ (by_answer a wrote came).head
  pub records : (wrote came : Rows) → came.records ≡ (by_answer a wrote came).records
  pub out : (wrote came : Rows) → came.out ≡ (by_answer a wrote came).out
  pub told : (wrote came : Rows) → came.told ≡ (by_answer a wrote came).told

pub record Done (a : Answer) : Type 0 where
  pub number : (wrote came : Rows) → wrote.number ≡ (by_answer a wrote came).number
  pub head : (wrote came : Rows) → wrote.head ≡ (by_answer a wrote came).head
  pub records : (wrote came : Rows) → wrote.records ≡ (by_answer a wrote came).records
  pub out : (wrote came : Rows) → wrote.out ≡ (by_answer a wrote came).out
  pub told : (wrote came : Rows) → wrote.told ≡ (by_answer a wrote came).told

pub kept : (a : Answer) (k : ℕ) → a ≡ refused k → Kept a k
unfolding by_answer
kept a k e =
    record { number = λ w c. rw e; head = λ w c. rw e; records = λ w c. rw e; out = λ w c. rw e; told = λ w c. rw e }

pub finished : (a : Answer) → a ≡ done → Done a
unfolding by_answer
finished a e =
    record { number = λ w c. rw e; head = λ w c. rw e; records = λ w c. rw e; out = λ w c. rw e; told = λ w c. rw e }

-- of words that are no head, and of words that are one
module _ (h : List ℕ) (a : Answer) where
  pub unread : head_fits h ≡ false → Kept (if_head h a) 23
  unread f = kept (if_head h a) 23 (no_head h a f)

  module _ (f : head_fits h ≡ true) where
    pub read_kept : (k : ℕ) → a ≡ refused k → Kept (if_head h a) k
    read_kept k e = kept (if_head h a) k (a_head h a f ∙ e)

    pub read_finished : a ≡ done → Done (if_head h a)
    read_finished e = finished (if_head h a) (a_head h a f ∙ e)

-- ---- the answer by what a send tells

module _ (t : Result Accepted Refusal) (a : Answer) (d : Decided) (e : sent_of t ≡ sending a d) where
  pub sent_refused : (r : Refusal) → t ≡ Err r → a ≡ refused (refusal_number r)
  sent_refused r q = sym (answer_of a d) ∙ ap (λ (z : Sending). z.answer) (sym e ∙ ap sent_of q)

  module _ (x : Accepted) (q : t ≡ Ok x) where
    pub sent_done : a ≡ done
    sent_done = sym (answer_of a d) ∙ ap (λ (z : Sending). z.answer) (sym e ∙ ap sent_of q)

    pub sent_told : bit x.lost ∷ bit x.replayed ∷ x.draws ∷ x.extras ∷ [] ≡ send_told d
    unfolding sending
    sent_told =
        ap (λ (z : Sending). z.lost ∷ z.replayed ∷ z.draws ∷ z.extras ∷ [])
        (sym (ap sent_of q) ∙ (e ∙ ap (λ (b : Answer). sending b d) sent_done))

-- ---- and by what a take, a count or a list tells

module _ (t : Result ℕ Refusal) (a : Answer) (n : ℕ) (e : counted_of t ≡ counting a n) where
  pub taken_refused : (r : Refusal) → t ≡ Err r → a ≡ refused (refusal_number r)
  taken_refused r q = sym (counting_of a n) ∙ ap (λ (z : Count). z.answer) (sym e ∙ ap counted_of q)

  module _ (k : ℕ) (q : t ≡ Ok k) where
    pub taken_done : a ≡ done
    taken_done = sym (counting_of a n) ∙ ap (λ (z : Count). z.answer) (sym e ∙ ap counted_of q)

    pub taken_told : k ≡ n
    unfolding counting
    taken_told = ap (λ (z : Count). z.records) (sym (ap counted_of q) ∙ (e ∙ ap (λ (b : Answer). counting b n) taken_done))

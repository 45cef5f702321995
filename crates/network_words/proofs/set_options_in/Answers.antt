-- `network_words::set_options_in` meets its contract: the words of the head with the new options, if they pass their tests. Assumes nothing.
use mathlib.Core.Path.{sym, ap, ◌∙◌}
use mathlib.Core.List.{[], ◌∷◌}
use Rattle.std.proofs.lemmas.Result.{err_from_is_err_and}
use Rattle.nights.specs.Net.{Options, choose}
use Rattle.network_options.proofs.OptionForms.{good_done}
use Rattle.network_form.specs.declared.Head.{Head}
use Rattle.network_form.specs.Forms.{formed_in}
use Rattle.network_form.specs.Calls.{answer_in}
use Rattle.network_form.proofs.Calling.{call_ill}
use Rattle.network_layout.specs.Layout.{head_in, options_of, option_words}
use Rattle.network_layout.proofs.Heads.{unfit, head_read}
use Rattle.network_words.proofs.Told.{unread, read_kept, read_finished}
use Rattle.network_words.proofs.InPlace.{chosen_answer, chosen_head}
use Rattle.network_words.proofs.set_options_in.Goals as goal

pub returns-in_default : goal.returns-in_default
returns-in_default c =
    let a = c.args in
    let k = unread a.head.now (answer_in (choose (options_of a.options)) (head_in a.head.now) a.records.now)
    (unfit a.head.now (sym c.in_default.is ∙ c.load.ensures)) in
    record { answer = k.number _ _; head = k.head _ _ }

pub returns-then-not-formed : goal.returns-then-not-formed
returns-then-not-formed c =
    let a = c.args in
    let l = head_read a.head.now c.in-Some.old (sym c.in-Some.is ∙ c.load.ensures) in
    let g = ap (λ (x : Head). formed_in x a.records.now) (sym l.1) ∙ (sym c.formed.ensures ∙ c.if-not-formed.true) in
    let k = read_kept a.head.now _ l.0 23 (call_ill (head_in a.head.now) a.records.now (choose (options_of a.options)) g) in
    record { answer = k.number _ _; head = k.head _ _ }

pub returns-in_err-options : goal.returns-in_err-options
returns-in_err-options c =
    let a = c.args in
    let l = head_read a.head.now c.in-Some.old (sym c.in-Some.is ∙ c.load.ensures) in
    let g = ap (λ (x : Head). formed_in x a.records.now) (sym l.1) ∙ (sym c.formed.ensures ∙ c.if-not-formed.false) in
    let p = err_from_is_err_and c.from_residual.result c.from_residual.ensures.1 in
    let k = read_kept a.head.now _ l.0 _ (chosen_answer (options_of a.options) a.head.now a.records.now g ∙ sym c.in_err-options.ensures.answer) in
    record { answer = rw (p.1, p.2) (k.number _ _); head = k.head _ _ }

pub store-requires : goal.store-requires
store-requires c = rw c.in_ok-options.ensures.options (good_done (options_of c.args.options) (sym c.in_ok-options.ensures.answer))

pub returns : goal.returns
returns c =
    let a = c.args in
    let o = options_of a.options in
    let h = c.in-Some.old in
    let l = head_read a.head.now h (sym c.in-Some.is ∙ c.load.ensures) in
    let g = ap (λ (x : Head). formed_in x a.records.now) (sym l.1) ∙ (sym c.formed.ensures ∙ c.if-not-formed.false) in
    let d = read_finished a.head.now _ l.0 (chosen_answer o a.head.now a.records.now g ∙ sym c.in_ok-options.ensures.answer) in
    record {
      answer = d.number _ _;
      head = c.store.ensures
          ∙ (ap (λ (p : Options). option_words p (h.pending ∷ h.seq ∷ h.sent ∷ h.delivered ∷ h.lost ∷ h.replayed ∷ h.delayed ∷ [])) c.in_ok-options.ensures.options
          ∙ (ap (λ (x : Head). option_words o (x.pending ∷ x.seq ∷ x.sent ∷ x.delivered ∷ x.lost ∷ x.replayed ∷ x.delayed ∷ [])) l.1
          ∙ (chosen_head o a.head.now a.records.now g (sym c.in_ok-options.ensures.answer) ∙ d.head _ _)));
    }

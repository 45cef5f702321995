-- `network_words::new_in` meets its contract: the head and the records of a fresh network, if the options pass their tests. Assumes nothing.
use mathlib.Core.Path.{sym, ap, ◌∙◌}
use lib.ListN.{replicate}
use Rattle.std.proofs.lemmas.Result.{err_from_is_err_and}
use Rattle.nights.specs.Net.{Options, fresh, good_options}
use Rattle.network_options.specs.Options.{plain_options}
use Rattle.network_options.proofs.OptionForms.{good_done}
use Rattle.network_form.specs.declared.Head.{Head}
use Rattle.network_form.specs.Forms.{head_of}
use Rattle.network_layout.specs.Layout.{options_of, option_words, head_words}
use Rattle.network_words.proofs.Told.{kept, finished}
use Rattle.network_words.proofs.InPlace.{plain_back}
use Rattle.network_words.proofs.new_in.Goals as goal

pub returns-in_err-options : goal.returns-in_err-options
returns-in_err-options c =
    let p = err_from_is_err_and c.from_residual.result c.from_residual.ensures.1 in
    let k = kept _ _ (sym c.in_err-options.ensures.answer) in
    record { answer = rw (p.1, p.2) (k.number _ _); head = k.head _ _; records = k.records _ _ }

pub store-requires : goal.store-requires
store-requires c =
    let o = options_of c.args.options in
    let g = good_done o (sym c.in_ok-options.ensures.answer) in
    ap (λ (h : Head). good_options (plain_options h.options)) (c.empty.ensures ∙ ap (λ (p : Options). head_of (fresh p)) c.in_ok-options.ensures.options)
    ∙ (ap (λ (p : Options). good_options p) (plain_back o g) ∙ g)

pub returns : goal.returns
returns c =
    let o = options_of c.args.options in
    let g = good_done o (sym c.in_ok-options.ensures.answer) in
    let d = finished _ (sym c.in_ok-options.ensures.answer) in
    record {
      answer = d.number _ _;
      head = c.store.ensures
          ∙ (ap (λ (h : Head). head_words h) (c.empty.ensures ∙ ap (λ (p : Options). head_of (fresh p)) c.in_ok-options.ensures.options)
          ∙ (ap (λ (p : Options). option_words p (replicate 7 0)) (plain_back o g) ∙ d.head _ _));
      records = d.records _ _;
    }

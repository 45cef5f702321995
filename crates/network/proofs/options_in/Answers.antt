-- `network::options_in` meets its contract. Assumes nothing.
use mathlib.Core.Path.{sym, ◌∙◌}
use Rattle.nights.specs.Net.{choose}
use Rattle.network_options.specs.Options.{plain_options}
use Rattle.network_form.proofs.Calling.{records_stay}
use Rattle.network.proofs.Choosing.{choose_ill, choose_well, kept_words}
use Rattle.network.proofs.options_in.Goals as goal

pub returns-then-not-formed : goal.returns-then-not-formed
returns-then-not-formed c =
    let a = c.args in
    let e = choose_ill a.head a.w.now a.options (sym c.formed.ensures ∙ c.if-not-formed.true) in
    record { answer = sym e; records = records_stay a.head a.w.now (choose (plain_options a.options)) 23 e }

pub returns : goal.returns
returns c =
    let a = c.args in
    let f = sym c.formed.ensures ∙ c.if-not-formed.false in
    record { answer = c.validate.ensures ∙ sym (choose_well a.head a.w.now a.options f); records = kept_words a.head a.w.now a.options f c.told-w }

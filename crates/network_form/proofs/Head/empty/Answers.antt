-- `network_form::Head::empty` meets its contract: the options come back from their words. Assumes nothing.
use denote.Floats.{passes}
use Rattle.network_options.proofs.OptionForms.{Held, options_back}
use Rattle.network_form.proofs.Head.empty.Goals as goal

pub returns : goal.returns
returns c = let h : Held c.args.options = record { loss = passes _ c.well_formed.0.1.1.0.1; replay = passes _ c.well_formed.0.1.1.1.0.1 } in
    rw (options_back c.args.options h)

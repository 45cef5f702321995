-- `network_fate::fate` meets its contract: what is decided is told, and a refusal tells nothing. Assumes nothing.
use mathlib.Core.Path.{ap, ◌∙◌}
use Rattle.nights.specs.Draws.{Decided}
use Rattle.nights.specs.Tests.{if_done}
use Rattle.network_fate.specs.Fates.{fate_told, fate_number, fate_words}
use Rattle.network_fate.proofs.fate.Goals as goal

pub returns-in-Ok : goal.returns-in-Ok
unfolding fate_number fate_words if_done
returns-in-Ok c =
    let t = c.in-Ok.ensures in
    record { answer = rw t.0; told = rw t.0 (c.told_of.ensures ∙ ap (λ (d : Decided). fate_told d) t.1) }

pub returns-in-Err : goal.returns-in-Err
unfolding fate_number fate_words if_done
returns-in-Err c =
    let e = c.in-Err.ensures in
    record { answer = rw e c.number.ensures; told = rw e }

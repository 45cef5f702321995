-- What the code's decisions and ticks are in the plain form. Assumes nothing.
use Rattle.std.specs.Prelude.{ℕ, ◌^◌, cond, ltb, Option, Some, None, Result, Ok, Err}
use Rattle.nights.specs.Net.{lose, once, twice}
use Rattle.nights.specs.Draws.{Decided, refusing}
use Rattle.network_options.specs.declared.Refusal.{Refusal}
use Rattle.network_options.specs.Answers.{refusal_number}
use Rattle.network_fates.specs.declared.Decision.{Decision}
use Rattle.network_fates.specs.declared.Decision.TheVariants.{Lost, Once, Twice}

-- a decision of the code, and one that may be refused
abbrev pub decided_by : Decision → Decided
decided_by (Lost d) = record { fate = lose; draws = d; extras = 0 }
decided_by (Once t l d x) = record { fate = once t l; draws = d; extras = x }
decided_by (Twice c t k l d x) = record { fate = twice c t k l; draws = d; extras = x }

abbrev pub decision_of : Result Decision Refusal → Decided
decision_of (Ok d) = decided_by d
decision_of (Err r) = refusing (refusal_number r)

-- a tick, if there is one so late
pub data Reached : Type 0 where
  at : ℕ → Reached
  past : Reached

abbrev pub tick_of : Option ℕ → Reached
tick_of (Some t) = at t
tick_of None = past

unfoldable pub tick_from : ℕ → Reached
tick_from t = cond (ltb t (2 ^ 64)) (at t) past

-- What the code's answers tell, with each refusal by its number (RULES, "Refusal numbers"). Assumes nothing.
use Rattle.std.specs.Prelude.{ℕ, Result, Ok, Err}
use Rattle.nights.specs.Tests.{Answer, done, refused}
use Rattle.network_options.specs.declared.Refusal.{Refusal}
use Rattle.network_options.specs.declared.Refusal.TheVariants.{BadLoss, BadReplay, MinOverMean, IllFormed, BadKindOrSort, SentLimit, ShortDraws, ShortExtras, LateTick, Full, ShortOutput, BadJournal, NoJournalRoom, TooFarBack}

abbrev pub refusal_number : Refusal → ℕ
refusal_number BadLoss = 20
refusal_number BadReplay = 21
refusal_number MinOverMean = 22
refusal_number IllFormed = 23
refusal_number BadKindOrSort = 24
refusal_number SentLimit = 25
refusal_number ShortDraws = 26
refusal_number ShortExtras = 27
refusal_number LateTick = 28
refusal_number Full = 29
refusal_number ShortOutput = 30
refusal_number BadJournal = 31
refusal_number NoJournalRoom = 32
refusal_number TooFarBack = 33

-- a call that has nothing more to tell
abbrev pub settled_of : Result Unit Refusal → Answer
settled_of (Ok done_with) = done
settled_of (Err r) = refused (refusal_number r)

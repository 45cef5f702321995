-- No two refusals have one number, so that an answer is settled by what it tells. Assumes nothing.
use mathlib.Core.Path.{◌≡◌, refl, sym, ap, ◌∙◌}
use mathlib.Core.Bool.{cond}
use Prim.Native.Nat.{ℕ}
use native.Mathlib.Omega.{arith}
use lib.Dec.{eqb}
use Rattle.network_options.specs.declared.Refusal.{Refusal}
use Rattle.network_options.specs.declared.Refusal.TheVariants.{BadLoss, BadReplay, MinOverMean, IllFormed, BadKindOrSort, SentLimit, ShortDraws, ShortExtras, LateTick, Full, ShortOutput, BadJournal, NoJournalRoom, TooFarBack}
use Rattle.std.specs.Prelude.{Result, Ok, Err}
use Rattle.network_options.specs.Answers.{refusal_number, settled_of}

-- no two refusals have one number
refusal_of : ℕ → Refusal
refusal_of k =
    cond (eqb k 20) BadLoss
    (cond (eqb k 21) BadReplay
    (cond (eqb k 22) MinOverMean
    (cond (eqb k 23) IllFormed
    (cond (eqb k 24) BadKindOrSort
    (cond (eqb k 25) SentLimit
    (cond (eqb k 26) ShortDraws
    (cond (eqb k 27) ShortExtras
    (cond (eqb k 28) LateTick
    (cond (eqb k 29) Full
    (cond (eqb k 30) ShortOutput (cond (eqb k 31) BadJournal (cond (eqb k 32) NoJournalRoom TooFarBack))))))))))))

back : (r : Refusal) → refusal_of (refusal_number r) ≡ r
unfolding refusal_of
back BadLoss = refl
back BadReplay = refl
back MinOverMean = refl
back IllFormed = refl
back BadKindOrSort = refl
back SentLimit = refl
back ShortDraws = refl
back ShortExtras = refl
back LateTick = refl
back Full = refl
back ShortOutput = refl
back BadJournal = refl
back NoJournalRoom = refl
back TooFarBack = refl

pub numbered_once : (r t : Refusal) → refusal_number r ≡ refusal_number t → r ≡ t
numbered_once r t e = sym (back r) ∙ (ap refusal_of e ∙ back t)

pub settled_once : (a b : Result Unit Refusal) → settled_of a ≡ settled_of b → a ≡ b
settled_once (Ok u) (Ok v) e = refl
settled_once (Ok u) (Err r) e = let z : ◌≡◌ {A = ℕ} 0 1 = cc in absurd (omega arith)
settled_once (Err r) (Ok u) e = let z : ◌≡◌ {A = ℕ} 0 1 = cc in absurd (omega arith)
settled_once (Err r) (Err t) e = let z : refusal_number r ≡ refusal_number t = cc in ap Err (numbered_once r t z)

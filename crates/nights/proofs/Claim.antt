-- The claim, whole. Assumes nothing.
use Prim.Native.Nat.{ℕ, ◌≤◌}
use mathlib.Core.Path.{◌≡◌, refl, sym, ap, ◌∙◌, subst}
use mathlib.Core.List.{List, ◌∷◌, ◌++◌}
use mathlib.Core.Bool.{true}
use lib.ListN.{get_or}
use Rattle.nights.specs.Net.{Options, Draws, Change, good_options}
use Rattle.nights.specs.Journal.{Call, mark}
use Rattle.nights.specs.Claim.{reach, stack, stands, Earlier, Claim}
use Rattle.nights.proofs.Folding.{replay, recorded, Folded}
use Rattle.nights.specs.Draws.{fate_of}
use Rattle.nights.proofs.Run.{the_numbers_are_counted, fold_of_standing, rewinds, no_further, mark_holds, the_journal_holds, size_stays}
use Rattle.nights.proofs.Back.{earlier_time}
use Rattle.nights.proofs.Exact.{the_pending_are_exactly}

pub folded : (fate : Draws) (o : Options) → good_options o ≡ true → (rest : List ℕ) (cs : List Call) → Folded fate o rest cs
folded fate o good rest cs =
    record {
      folds = fold_of_standing fate o good rest cs;
      holds =
          the_journal_holds fate o good rest cs (reach fate o rest cs)
          (recorded fate o (reach fate o rest cs) (stack fate o rest cs)) refl refl;
    }

pub claim : (fate : Draws) (o : Options) → good_options o ≡ true → (rest : List ℕ) (cs : List Call) → Claim fate o rest cs
claim fate o good rest cs =
    record {
      told = record { counted = the_numbers_are_counted fate o good rest cs; pending = the_pending_are_exactly fate o good rest cs };
      goes_back =
          λ (k : ℕ) (h : k ≤ reach fate o rest cs).
          let e : Earlier fate o rest cs k = earlier_time fate o rest cs k in
          let r = rewinds fate o good rest cs k h in
          (e, r.0, r.1 ∙ sym (fold_of_standing fate o good rest e.before ∙ ap (λ (l : List Change). replay fate o l) e.there));
      stops = no_further fate o good rest cs;
      marks =
          λ (before later : List Call) (e : cs ≡ before ++ (mark ∷ later)).
          subst (λ (l : List Call). (more : List Change) × (stands fate o rest l ≡ stands fate o rest before ++ more)) (sym e)
          (mark_holds fate o good rest before later);
      counts = ap (λ (w : List ℕ). get_or w 0 0) (folded fate o good rest cs).holds.1;
      size = size_stays fate o good rest cs;
    }

-- for the draws and extras as a send reads them
pub claim_of_the_rules : (o : Options) → good_options o ≡ true → (rest : List ℕ) (cs : List Call) → Claim fate_of o rest cs
claim_of_the_rules o good rest cs = claim fate_of o good rest cs

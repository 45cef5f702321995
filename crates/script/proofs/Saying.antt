-- What a line says, by its first words. Assumes nothing.
use mathlib.Core.Bool.{true, false}
use mathlib.Core.List.{List, [], ◌∷◌}
use mathlib.Core.Path.{◌≡◌}
use Prim.Native.Nat.{ℕ}
use Rattle.std.specs.Prelude.{Some, None, Ok, Err}
use Rattle.numeral.specs.Reading.{number_of}
use Rattle.numeral.specs.declared.Flaw.{Flaw}
use Rattle.script.specs.Faults.{named_by, needs_id, with_id}
use Rattle.script.specs.Lines.{blank, event, faulty, with_fault, of_words}
use Rattle.script.specs.declared.fault.Fault.{Fault}
use Rattle.script.specs.declared.line.Refusal.TheVariants.{OneWord, BadTick, UnknownFault, MissingId, BadId}

-- ---- the id
module _ (tick : ℕ) (fault : Fault) where
  pub no_id_needed : (ws : List (List ℕ)) → needs_id fault ≡ false → event tick fault ≡ with_fault tick fault ws
  no_id_needed ws e = rw e

  pub id_missing : (ws : List (List ℕ)) → needs_id fault ≡ true → ws ≡ [] → faulty MissingId ≡ with_fault tick fault ws
  id_missing ws e q = rw (e, q)

  pub bad_id : (w : List ℕ) (ws rest : List (List ℕ)) (flaw : Flaw) → needs_id fault ≡ true → ws ≡ w ∷ rest → number_of w ≡ Err flaw
      → faulty (BadId flaw) ≡ with_fault tick fault ws
  bad_id w ws rest flaw e q n = rw (e, q, n)

  pub id_read : (w : List ℕ) (ws rest : List (List ℕ)) (id : ℕ) → needs_id fault ≡ true → ws ≡ w ∷ rest → number_of w ≡ Ok id
      → event tick (with_id fault id) ≡ with_fault tick fault ws
  id_read w ws rest id e q n = rw (e, q, n)

-- ---- the line
pub no_words : (ws : List (List ℕ)) → ws ≡ [] → blank ≡ of_words ws
unfolding of_words
no_words ws e = rw e

pub one_word : (w : List ℕ) (ws rest : List (List ℕ)) → ws ≡ w ∷ rest → rest ≡ [] → faulty OneWord ≡ of_words ws
unfolding of_words
one_word w ws rest e f = rw (e, f)

module _ (w v : List ℕ) (ws rest behind : List (List ℕ)) (first : ws ≡ w ∷ rest) (second : rest ≡ v ∷ behind) where
  pub bad_tick : (flaw : Flaw) → number_of w ≡ Err flaw → faulty (BadTick flaw) ≡ of_words ws
  unfolding of_words
  bad_tick flaw e = rw (first, second, e)

  pub unknown : (tick : ℕ) → number_of w ≡ Ok tick → named_by v ≡ None → faulty UnknownFault ≡ of_words ws
  unfolding of_words
  unknown tick e f = rw (first, second, e, f)

  pub known : (tick : ℕ) (fault : Fault) → number_of w ≡ Ok tick → named_by v ≡ Some fault → with_fault tick fault behind ≡ of_words ws
  unfolding of_words
  known tick fault e f = rw (first, second, e, f)

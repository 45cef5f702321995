-- What a step does from any state, one that no run reaches too: refused, it changes nothing; and it leaves a well-formed network well
-- formed, whatever the journal's words. Assumes nothing.
use Prim.Native.Nat.{ℕ, zero, suc}
use mathlib.Core.Path.{◌≡◌, refl}
use mathlib.Core.List.{List, ◌∷◌}
use mathlib.Core.Bool.{Bool, true, false, cond}
use native.Mathlib.Omega.{arith}
use lib.Dec.{leb}
use lib.ListN.{length}
use Rattle.nights.specs.Net.{Plain, Draws, Change, effect, well_formed}
use Rattle.nights.specs.Tests.{Answer, done, refused, Test, verdict, tests, if_done}
use Rattle.nights.specs.Journal.{Call, change, rewind, mark, State, Step, held, used, header, good_header, undo_words, Undone, misfit, undone, undo_one, checked, further, undo_all, journal_tests, journaled, do_change, rewound, do_rewind, do_mark, step}
use Rattle.nights.proofs.Good.{well_formed_lem, good_effect, fit_effect}
use Rattle.nights.proofs.Run.{passed_tests}
use Rattle.nights.proofs.Kept.{good, fit}

unlike : {A : Type 0} (k : ℕ) → ◌≡◌ {A = Answer} done (refused k) → A
unlike k e = let z : ◌≡◌ {A = ℕ} 0 1 = cc in absurd (omega arith)

-- ---- a step that is refused

module _ (s : State) (k : ℕ) where
  change_stays : (a : Answer) (new : State) → a ≡ refused k → if_done a new s ≡ s
  unfolding if_done
  change_stays done new e = unlike k e
  change_stays (refused j) new e = refl

  rewound_stays : (j : ℕ) (u : Undone) → (rewound j s u).answer ≡ refused k → (rewound j s u).state ≡ s
  unfolding rewound
  rewound_stays j misfit e = refl
  rewound_stays j (undone n b) e = unlike k e

  rewind_stays : (j : ℕ) → (do_rewind j s).answer ≡ refused k → (do_rewind j s).state ≡ s
  unfolding do_rewind
  rewind_stays j = go (well_formed s.net) (good_header s.words) (leb j (held s.words))
    where
      u : Undone
      u = undo_all j s.net s.words (used s.words)

      refusing : ℕ → Step
      refusing n = record { state = s; answer = refused n }

      go : (a b c : Bool)
          → (cond a (cond b (cond c (rewound j s u) (refusing 33)) (refusing 31)) (refusing 23)).answer ≡ refused k
          → (cond a (cond b (cond c (rewound j s u) (refusing 33)) (refusing 31)) (refusing 23)).state ≡ s
      go true true true e = rewound_stays j u e
      go true true false e = refl
      go true false c e = refl
      go false b c e = refl

  mark_stays : (do_mark s).answer ≡ refused k → (do_mark s).state ≡ s
  unfolding do_mark
  mark_stays = go (leb 2 (length s.words))
    where
      marked : Step
      marked = record { state = record { net = s.net; words = header 0 2 s.words }; answer = done }

      go : (b : Bool) → (cond b marked (record { state = s; answer = refused 32 })).answer ≡ refused k
          → (cond b marked (record { state = s; answer = refused 32 })).state ≡ s
      go true e = unlike k e
      go false e = refl

pub refused_stays : (fate : Draws) (s : State) (c : Call) (k : ℕ) → (step fate s c).answer ≡ refused k → (step fate s c).state ≡ s
unfolding step do_change
refused_stays fate s (change c) k e = change_stays s k _ _ e
refused_stays fate s (rewind j) k e = rewind_stays s k j e
refused_stays fate s mark k e = mark_stays s k e

-- ---- a step from a well-formed network

-- what undoing gives is well formed, where it gives a network
unfoldable Formed : Undone → Type 0
Formed misfit = Unit {0}
Formed (undone n e) = well_formed n ≡ true

onward_formed : (u : Undone) (f : Plain → ℕ → Undone) → ((n : Plain) (e : ℕ) → well_formed n ≡ true → Formed (f n e))
    → Formed (further (checked u) f)
unfolding further checked Formed
onward_formed misfit f h = tt
onward_formed (undone n e) f h = go (well_formed n) refl
  where
    go : (b : Bool) → well_formed n ≡ b → Formed (further (cond b (undone n e) misfit) f)
    go true w = h n e w
    go false w = tt

all_formed : (k : ℕ) (n : Plain) (w : List ℕ) (e : ℕ) → well_formed n ≡ true → Formed (undo_all k n w e)
unfolding undo_all Formed
all_formed zero n w e h = h
all_formed (suc k) n w e h = onward_formed (undo_one n w e) (λ m b. undo_all k m w b) (λ m b g. all_formed k m w b g)

opened : {b : Bool} → b ≡ true → (ts : List Test) → verdict (record { passes = b; number = 23 } ∷ ts) ≡ verdict ts
unfolding verdict
opened e ts = rw e

module _ (fate : Draws) (s : State) (f : well_formed s.net ≡ true) where
  change_keeps : (c : Change) → well_formed (do_change fate c s).state.net ≡ true
  unfolding do_change if_done
  change_keeps c = go (verdict (first ∷ tests fate c s.net more)) refl
    where
      more : List Test
      more = journal_tests s.words (length (undo_words c s.net))

      first : Test
      first = record { passes = well_formed s.net; number = 23 }

      go : (a : Answer) → verdict (first ∷ tests fate c s.net more) ≡ a → well_formed (if_done a (journaled fate c s) s).net ≡ true
      go done e =
          well_formed_lem (effect fate c s.net) (good_effect fate c s.net (good s.net f))
          (fit_effect fate c s.net (good s.net f) (passed_tests fate c s.net more (rw (opened f (tests fate c s.net more)) at e)).0 (fit s.net f))
      go (refused k) e = f

  rewound_keeps : (k : ℕ) (u : Undone) → Formed u → well_formed (rewound k s u).state.net ≡ true
  unfolding rewound Formed
  rewound_keeps k misfit g = f
  rewound_keeps k (undone n e) g = g

  rewind_keeps : (k : ℕ) → well_formed (do_rewind k s).state.net ≡ true
  unfolding do_rewind
  rewind_keeps k = go (well_formed s.net) (good_header s.words) (leb k (held s.words))
    where
      u : Undone
      u = undo_all k s.net s.words (used s.words)

      refusing : ℕ → Step
      refusing n = record { state = s; answer = refused n }

      go : (a b c : Bool)
          → well_formed (cond a (cond b (cond c (rewound k s u) (refusing 33)) (refusing 31)) (refusing 23)).state.net ≡ true
      go true true true = rewound_keeps k u (all_formed k s.net s.words (used s.words) f)
      go true true false = f
      go true false c = f
      go false b c = f

  mark_keeps : well_formed (do_mark s).state.net ≡ true
  unfolding do_mark
  mark_keeps = go (leb 2 (length s.words))
    where
      go : (b : Bool)
          → well_formed
          (cond {A = Step} b (record { state = record { net = s.net; words = header 0 2 s.words }; answer = done })
          (record { state = s; answer = refused 32 })
          ).state.net
          ≡ true
      go true = f
      go false = f

  pub step_keeps : (c : Call) → well_formed (step fate s c).state.net ≡ true
  unfolding step
  step_keeps (change c) = change_keeps c
  step_keeps (rewind k) = rewind_keeps k
  step_keeps mark = mark_keeps

-- No call is refused with the number 0, which is what the host's boundary returns for a call that is done. Assumes nothing.
use Prim.Native.Nat.{ℕ, zero, suc, ◌<◌}
use mathlib.Core.Path.{◌≡◌, refl}
use mathlib.Core.Bool.{Bool, true, false, cond, ◌&&◌}
use mathlib.Core.List.{List, [], ◌∷◌}
use native.Mathlib.Omega.{arith}
use lib.Dec.{leb}
use lib.ListN.{length}
use Rattle.std.specs.Prelude.{Option, Some, None}
use Rattle.chance.specs.declared.Draw.{Draw}
use Rattle.nights.specs.Net.{Options, Plain, Fate, refuse, lose, once, twice, Change, send, collect, choose, fresh, well_formed}
use Rattle.nights.specs.Draws.{Decided, is_faulted, extras_for, due_at, is_tick, alone, both, after_replay, after_loss, decided, fate_of}
use Rattle.nights.specs.Tests.{done, refused, Test, verdict, allowed, refusal, tests}
use Rattle.nights.specs.Journal.{Call, change, rewind, mark, State, Step, held, used, header, good_header, Undone, misfit, undone, undo_all, journal_tests, do_change, rewound, do_rewind, do_mark, step}
use Rattle.network_options.specs.Options.{perfect_options}
use Rattle.network.specs.declared.Network.{Network}
use Rattle.network.specs.Forms.{is_formed}
use Rattle.journal_calls.specs.Calls.{state_of, step_of, answer_of, mark_answer}

-- ---- what a send's draws and extras decide: 26, 27 and 28 are its refusals

-- a fate that does not refuse with 0
record Numbered (f : Fate) : Type 0 where
  never : f ≡ refuse 0 → ⊥

refuses : (k : ℕ) → Numbered (refuse (suc k))
refuses k = record { never = λ e. let z : suc k ≡ 0 = cc in omega arith }

loses : Numbered lose
loses = record { never = λ e. let z : ◌≡◌ {A = ℕ} 0 1 = cc in omega arith }

queues_one : (d : ℕ) (x : Bool) → Numbered (once d x)
queues_one d x = record { never = λ e. let z : ◌≡◌ {A = ℕ} 0 1 = cc in omega arith }

queues_two : (c d : ℕ) (x y : Bool) → Numbered (twice c d x y)
queues_two c d x y = record { never = λ e. let z : ◌≡◌ {A = ℕ} 0 1 = cc in omega arith }

either : (b : Bool) (x y : Decided) → Numbered x.fate → Numbered y.fate → Numbered (cond b x y).fate
either true x y h k = h
either false x y h k = k

module _ (o : Options) (now : ℕ) (draws extras : List ℕ) where
  alone_numbered : (drawn : ℕ) → Numbered (alone o now extras drawn).fate
  unfolding alone
  alone_numbered drawn =
      either (leb (extras_for o 1) (length extras)) _ _
      (either (is_tick (due_at o now extras 0)) _ _ (queues_one _ _) (refuses 27))
      (refuses 26)

  both_numbered : (drawn : ℕ) → Numbered (both o now extras drawn).fate
  unfolding both
  both_numbered drawn =
      either (leb (extras_for o 2) (length extras)) _ _
      (either (is_tick (due_at o now extras 0) && is_tick (due_at o now extras 1)) _ _ (queues_two _ _ _ _) (refuses 27))
      (refuses 26)

  replay_numbered : (d : Option Draw) → Numbered (after_replay o now extras d).fate
  unfolding after_replay
  replay_numbered (Some d) = either d.yes _ _ (both_numbered d.next) (alone_numbered d.next)
  replay_numbered None = refuses 25

  loss_numbered : (d : Option Draw) → Numbered (after_loss o now draws extras d).fate
  unfolding after_loss
  loss_numbered (Some d) = either d.yes _ _ loses (replay_numbered _)
  loss_numbered None = refuses 25

  fate_numbered : (kind : ℕ) → Numbered (fate_of o now kind draws extras)
  unfolding decided
  fate_numbered kind = either (is_faulted o kind) _ _ (loss_numbered _) (queues_one _ _)

  pub fate_never_zero : (kind : ℕ) → fate_of o now kind draws extras ≡ refuse 0 → ⊥
  fate_never_zero kind = (fate_numbered kind).never

-- ---- the tests of a call

-- the first that fails answers, and none that fails is numbered 0
tested : (t : Test) (ts : List Test) → (t.passes ≡ false → 0 < t.number) → (verdict ts ≡ refused 0 → ⊥)
    → verdict (t ∷ ts) ≡ refused 0 → ⊥
unfolding verdict
tested t ts h more e = go t.passes refl e
  where
    go : (b : Bool) → t.passes ≡ b → cond b (verdict ts) (refused t.number) ≡ refused 0 → ⊥
    go true p q = more q
    go false p q = let z : t.number ≡ 0 = cc in omega (arith, h p)

is_done : done ≡ refused 0 → ⊥
is_done e = let z : ◌≡◌ {A = ℕ} 0 1 = cc in omega arith

all_passed : verdict [] ≡ refused 0 → ⊥
unfolding verdict
all_passed = is_done

refusal_numbered : (f : Fate) → (f ≡ refuse 0 → ⊥) → allowed f ≡ false → 0 < refusal f
refusal_numbered (refuse zero) h e = absurd (h refl)
refusal_numbered (refuse (suc k)) h e = omega arith
refusal_numbered lose h e = let z : ◌≡◌ {A = ℕ} 0 1 = cc in absurd (omega arith)
refusal_numbered (once d x) h e = let z : ◌≡◌ {A = ℕ} 0 1 = cc in absurd (omega arith)
refusal_numbered (twice c d x y) h e = let z : ◌≡◌ {A = ℕ} 0 1 = cc in absurd (omega arith)

change_numbered : (c : Change) (n : Plain) (more : List Test) → (verdict more ≡ refused 0 → ⊥)
    → verdict (tests fate_of c n more) ≡ refused 0 → ⊥
unfolding tests
change_numbered (send m draws extras) n more h =
    tested _ _ (λ e. omega arith)
    (tested _ _ (λ e. omega arith)
    (tested _ _ (refusal_numbered _ (fate_never_zero n.options m.now draws extras m.kind))
    (tested _ _ (λ e. omega arith) h)))
change_numbered (collect now room) n more h = tested _ _ (λ e. omega arith) h
change_numbered (choose o) n more h =
    tested _ _ (λ e. omega arith) (tested _ _ (λ e. omega arith) (tested _ _ (λ e. omega arith) h))

journal_numbered : (w : List ℕ) (size : ℕ) → verdict (journal_tests w size) ≡ refused 0 → ⊥
journal_numbered w size = tested _ _ (λ e. omega arith) (tested _ _ (λ e. omega arith) all_passed)

-- ---- a step, from any state

refused_by : (k : ℕ) → refused (suc k) ≡ refused 0 → ⊥
refused_by k e = let z : suc k ≡ 0 = cc in omega arith

module _ (s : State) where
  rewound_numbered : (k : ℕ) (u : Undone) → (rewound k s u).answer ≡ refused 0 → ⊥
  unfolding rewound
  rewound_numbered k misfit = refused_by 30
  rewound_numbered k (undone n e) = is_done

  rewind_numbered : (k : ℕ) → (do_rewind k s).answer ≡ refused 0 → ⊥
  unfolding do_rewind
  rewind_numbered k = go (well_formed s.net) (good_header s.words) (leb k (held s.words))
    where
      u : Undone
      u = undo_all k s.net s.words (used s.words)

      refusing : ℕ → Step
      refusing n = record { state = s; answer = refused n }

      go : (a b c : Bool) → (cond a (cond b (cond c (rewound k s u) (refusing 33)) (refusing 31)) (refusing 23)).answer ≡ refused 0 → ⊥
      go true true true = rewound_numbered k u
      go true true false = refused_by 32
      go true false c = refused_by 30
      go false b c = refused_by 22

  mark_numbered : (do_mark s).answer ≡ refused 0 → ⊥
  unfolding do_mark
  mark_numbered = go (leb 2 (length s.words))
    where
      marked : Step
      marked = record { state = record { net = s.net; words = header 0 2 s.words }; answer = done }

      go : (b : Bool) → (cond b marked (record { state = s; answer = refused 32 })).answer ≡ refused 0 → ⊥
      go true = is_done
      go false = refused_by 31

  pub never_zero : (c : Call) → (step fate_of s c).answer ≡ refused 0 → ⊥
  unfolding step do_change
  never_zero (change c) = tested _ _ (λ e. omega arith) (change_numbered c s.net _ (journal_numbered s.words _))
  never_zero (rewind k) = rewind_numbered k
  never_zero mark = mark_numbered

-- ---- and so a call of the code

pub call_never_zero : (c : Call) (s : Network) (w : List ℕ) → answer_of c s w ≡ refused 0 → ⊥
unfolding step_of
call_never_zero c s w = go (is_formed s)
  where
    go : (b : Bool) → (cond b (step fate_of (state_of s w) c) (record { state = state_of s w; answer = refused 23 })).answer ≡ refused 0 → ⊥
    go true = never_zero (state_of s w) c
    go false = refused_by 22

pub mark_never_zero : (w : List ℕ) → mark_answer w ≡ refused 0 → ⊥
mark_never_zero w = never_zero (record { net = fresh perfect_options; words = w }) mark

-- The claim: any calls, one after the other, and what holds of the network and the journal's words then. Assumes nothing.
use Rattle.std.specs.Prelude.{ℕ, ◌+◌, ◌≤◌, ◌<◌, ◌≡◌, List, [], ◌∷◌, ◌++◌, length, drop}
use Rattle.nights.specs.Net.{Options, fresh, Draws, Change}
use Rattle.nights.specs.Tests.{done, refused}
use Rattle.nights.specs.Journal.{Call, rewind, mark, State, held, step}
use Rattle.nights.specs.Standing.{Entry, struck, standing, reached}
use Rattle.nights.specs.Rule.{Told}

-- A RUN: the calls one after the other, each on what the last one left
module _ (fate : Draws) where
  unfoldable pub run : State → List Call → State
  run s [] = s
  run s (c ∷ cs) = run (step fate s c).state cs

  unfoldable pub log : State → List Call → List Entry
  log s [] = []
  log s (c ∷ cs) = record { call = c; answer = (step fate s c).answer } ∷ log (step fate s c).state cs

-- a fresh network and an empty journal: no calls, two words used, the other words as the host left them
abbrev pub start : Options → List ℕ → State
start o rest = record { net = fresh o; words = 0 ∷ 2 ∷ rest }

-- THE CLAIM
module _ (fate : Draws) (o : Options) (rest : List ℕ) where
  -- where a run ends; its log; what stands after it, the newest first and the oldest first; how far a rewind can go
  abbrev pub ran : List Call → State
  ran cs = run fate (start o rest) cs

  abbrev pub log_of : List Call → List Entry
  log_of cs = log fate (start o rest) cs

  abbrev pub stack : List Call → List Change
  stack cs = struck [] (log_of cs)

  abbrev pub stands : List Call → List Change
  stands cs = standing (log_of cs)

  abbrev pub reach : List Call → ℕ
  reach cs = reached 0 (log_of cs)

  -- a time of the run at which all stood that now stands but the last k
  pub record Earlier (cs : List Call) (k : ℕ) : Type 0 where
    pub before : List Call
    pub later : List Call
    pub whole : cs ≡ before ++ later
    pub there : stack before ≡ drop k (stack cs)

  pub record Claim (cs : List Call) : Type 0 where
    -- the network is what the standing list says
    pub told : Told fate o (stands cs) (ran cs).net
    -- a rewind as far as the last mark is accepted, and puts back the network of an earlier time, field for field
    pub goes_back : (k : ℕ) → k ≤ reach cs
        → (e : Earlier cs k)
        × ((step fate (ran cs) (rewind k)).answer ≡ done)
        × ((step fate (ran cs) (rewind k)).state.net ≡ (ran e.before).net)
    -- and one past it is refused
    pub stops : (k : ℕ) → reach cs < k → step fate (ran cs) (rewind k) ≡ record { state = ran cs; answer = refused 33 }
    -- what stood at a mark stands for good
    pub marks : (before later : List Call) → cs ≡ before ++ (mark ∷ later)
        → (more : List Change) × (stands cs ≡ stands before ++ more)
    -- word 0 of the journal counts what stands since the last mark, and the journal has as many words as it had
    pub counts : held (ran cs).words ≡ reach cs
    pub size : length (ran cs).words ≡ length rest + 2

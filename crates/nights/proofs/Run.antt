-- Step 2 and the join: after any calls the network is the fold of the standing list, and so what the rule says. Assumes nothing.
use Prim.Native.Nat.{ℕ, zero, suc, ◌+◌, ◌-◌, ◌*◌, ◌^◌, ◌≤◌, ◌<◌}
use mathlib.Core.Path.{◌≡◌, refl, sym, ap, ◌∙◌, subst}
use mathlib.Core.List.{List, [], ◌∷◌, ◌++◌, append_assoc, append-nil, reverse, reverse-append}
use mathlib.Core.Bool.{Bool, true, false, cond}
use native.Mathlib.Omega.{arith}
use native.Mathlib.Numerals.{add-one}
use borrow.Author.Tests.{le-leb, lt-leb, leb-true, leb-false, ltb-true}
use lib.Dec.{leb}
use lib.ListN.{length, take, drop, length-append, length-drop}
use lib.Seq.{take_at, drop_at, drop-append-add, drop-append-le}
use Rattle.basis.proofs.Laws.{both}
use Rattle.chance.specs.Probability.{good_word}
use Rattle.nights.specs.Record.{Record, record_words}
use Rattle.nights.specs.Net.{Options, Plain, keep, Fate, dues, Draws, Letter, Change, send, collect, choose, is_due, effect, good_options, well_formed}
use Rattle.nights.specs.Tests.{Answer, done, refused, Test, verdict, send_tests, tests, if_done}
use Rattle.nights.specs.Journal.{Call, change, rewind, mark, State, Step, held, used, logged, good_header, undo_words, undone, undo_all, journal_tests, journaled, do_change, rewound, do_rewind, do_mark, step}
use Rattle.nights.specs.Standing.{strike, struck, reach_by, reached}
use Rattle.nights.specs.Rule.{Counted}
use Rattle.nights.specs.Claim.{start, run, log, reach, ran, stack, stands}
use Rattle.nights.proofs.Folding.{replay, flat, recorded}
use Rattle.nights.proofs.Good.{PassedSend, Passed, Sound, well_formed_replay}
use Rattle.nights.proofs.Fold.{sorted_copies, pending_sorted, counted}
use Rattle.nights.proofs.Undo.{undo_many}

-- WHAT A STATE HOLDS, where `st` stands (the newest first), of it `kept` is out of a rewind's reach, and the journal has `size` words
pub record Follows (fate : Draws) (o : Options) (size : ℕ) (s : State) (st kept : List Change) (reach : ℕ) : Type 0 where
  pub recent : List Change
  pub rest : List ℕ
  pub parts : st ≡ recent ++ kept
  pub far : length recent ≡ reach
  pub net : s.net ≡ replay fate o st
  pub words : s.words ≡ length recent ∷ suc (suc (length (flat fate o kept recent))) ∷ (flat fate o kept recent ++ rest)
  pub whole : length (flat fate o kept recent) + length rest + 2 ≡ size
  pub sound : Sound fate o st

-- the same a step on: what was out of reach stays out of reach
pub record Next (fate : Draws) (o : Options) (size : ℕ) (s : State) (st kept : List Change) (reach : ℕ) : Type 0 where
  pub kept' : List Change
  pub more : List Change
  pub grows : kept' ≡ more ++ kept
  pub follows : Follows fate o size s st kept' reach

module _ (fate : Draws) (o : Options) where
  same : {size : ℕ} {s : State} {st kept : List Change} {r : ℕ} → Follows fate o size s st kept r → Next fate o size s st kept r
  same {kept = kept} f = record { kept' = kept; more = []; grows = refl; follows = f }

  -- every record has two words at least
  two_words : (c : Change) (n : Plain) → 2 ≤ length (undo_words c n)
  unfolding undo_words
  two_words (send m draws extras) n = omega arith
  two_words (collect now room) n =
      let rs : List Record = keep (is_due now) n.pending in
      omega (arith, length-append (record_words rs) (2 ∷ (8 * length rs + 2) ∷ []))
  two_words (choose p) n = omega arith

  long : (kept recent : List Change) → 2 * length recent ≤ length (flat fate o kept recent)
  unfolding flat
  long kept [] = omega arith
  long kept (c ∷ recent) =
      let u : List ℕ = undo_words c (replay fate o (recent ++ kept)) in
      omega (arith, long kept recent, two_words c (replay fate o (recent ++ kept)), length-append (flat fate o kept recent) u)

  -- the header is good, always
  good_words : (c : ℕ) (f rest : List ℕ) → 2 * c ≤ length f → good_header (c ∷ suc (suc (length f)) ∷ (f ++ rest)) ≡ true
  unfolding good_header
  good_words c f rest h =
      rw (
        le-leb 2 (suc (suc (length (f ++ rest)))) (omega arith),
        le-leb 2 (suc (suc (length f))) (omega arith),
        le-leb (suc (suc (length f))) (suc (suc (length (f ++ rest)))) (omega (arith, length-append f rest)),
        le-leb (2 * c) (suc (suc (length f)) - 2) (omega arith),
      )

  module _ (size : ℕ) (s : State) (st kept : List Change) (r : ℕ) (f : Follows fate o size s st kept r) where
    good_header_lem : good_header s.words ≡ true
    good_header_lem = rw f.words (good_words (length f.recent) (flat fate o kept f.recent) f.rest (long kept f.recent))

    held_is : held s.words ≡ length f.recent
    held_is = rw f.words

-- THE PLAIN CALLS

passed : (t : Test) (ts : List Test) → verdict (t ∷ ts) ≡ done → (t.passes ≡ true) × (verdict ts ≡ done)
unfolding verdict
passed t ts e = go t.passes refl e
  where
    go : (b : Bool) → t.passes ≡ b → cond b (verdict ts) (refused t.number) ≡ done → (t.passes ≡ true) × (verdict ts ≡ done)
    go true p q = (p, q)
    go false p q = let z : ◌≡◌ {A = ℕ} 0 1 = cc in absurd (omega arith)

passed_send : (m : Letter) (f : Fate) (n : Plain) (more : List Test) → verdict (send_tests m f n more) ≡ done
    → PassedSend m f n × (verdict more ≡ done)
passed_send m f n more e =
    let a = passed _ _ e in
    let b = passed _ _ a.1 in
    let c = passed _ _ b.1 in
    let d = passed _ _ c.1 in
    let k = both (leb m.kind 10) (leb m.sort 1) a.0 in (
      record {
        kind = leb-true m.kind 10 k.0;
        sort = leb-true m.sort 1 k.1;
        sent = ltb-true n.sent (2 ^ 62) b.0;
        fated = c.0;
        small = leb-true (length n.pending + length (dues f)) 128 d.0;
      },
      d.1,
    )

passed_choose : (o : Options) → good_word o.loss ≡ true → good_word o.replay ≡ true → leb o.least o.mean ≡ true → good_options o ≡ true
unfolding good_options
passed_choose o a b c = rw (a, b, c)

pub passed_tests : (fate : Draws) (c : Change) (n : Plain) (more : List Test) → verdict (tests fate c n more) ≡ done
    → Passed fate c n × (verdict more ≡ done)
unfolding tests
passed_tests fate (send m draws extras) n more e = passed_send m (fate n.options m.now m.kind draws extras) n more e
passed_tests fate (collect now room) n more e = (tt, (passed _ _ e).1)
passed_tests fate (choose p) n more e =
    let a = passed _ _ e in
    let b = passed _ _ a.1 in
    let c = passed _ _ b.1 in
    (passed_choose p a.0 b.0 c.0, c.1)

passed_journal : (w : List ℕ) (size : ℕ) → verdict (journal_tests w size) ≡ done → used w + size ≤ length w
passed_journal w size e = leb-true (used w + size) (length w) (passed _ _ (passed _ _ e).1).0

-- a record is written behind the others
logged_is : (c : ℕ) (f rest u : List ℕ)
    → logged (c ∷ suc (suc (length f)) ∷ (f ++ rest)) u ≡ suc c ∷ suc (suc (length (f ++ u))) ∷ ((f ++ u) ++ drop (length u) rest)
unfolding logged
logged_is c f rest u =
    let a : suc (suc (length f)) + length u ≡ suc (suc (length f + length u)) = omega arith in
    let b : suc (suc (length f)) + length u ≡ suc (suc (length (f ++ u))) = omega (arith, length-append f u) in
    rw (add-one c, a, take_at f rest (length f) refl, drop-append-add f rest (length u), length-append f u, append_assoc f u (drop (length u) rest))

module _ (fate : Draws) (o : Options) (good : good_options o ≡ true) (size : ℕ) (s : State) (st kept : List Change) (r : ℕ) (f : Follows fate o size s st kept r) (c : Change) where
  accepted : Passed fate c s.net → used s.words + length (undo_words c s.net) ≤ length s.words
      → Follows fate o size (journaled fate c s) (c ∷ st) kept (r + 1)
  unfolding replay flat
  accepted p h =
      let e : replay fate o st ≡ replay fate o (f.recent ++ kept) = ap (λ (l : List Change). replay fate o l) f.parts in
      let n : s.net ≡ replay fate o (f.recent ++ kept) = f.net ∙ e in
      let u : List ℕ = undo_words c (replay fate o (f.recent ++ kept)) in
      let front : List ℕ = flat fate o kept f.recent in
      let k = rw (n, f.words) at h in
      record {
        recent = c ∷ f.recent;
        rest = drop (length u) f.rest;
        parts = ap (λ (l : List Change). c ∷ l) f.parts;
        far = omega (arith, f.far);
        net = ap (λ (x : Plain). effect fate c x) f.net;
        words =
            rw (n, f.words)
            (logged_is (length f.recent) front f.rest u);
        whole = omega (arith, k, f.whole, length-append front u, length-append front f.rest, length-drop (length u) f.rest);
        sound = (rw f.net at p, f.sound);
      }

  change_next : Next fate o size (do_change fate c s).state (strike st (change c) (do_change fate c s).answer) kept (reach_by r (change c) (do_change fate c s).answer)
  unfolding do_change strike reach_by if_done
  change_next = go (verdict (first ∷ ts)) refl
    where
      more : List Test
      more = journal_tests s.words (length (undo_words c s.net))

      ts : List Test
      ts = tests fate c s.net more

      first : Test
      first = record { passes = well_formed s.net; number = 23 }

      go : (a : Answer) → verdict (first ∷ ts) ≡ a
          → Next fate o size (if_done a (journaled fate c s) s) (strike st (change c) a) kept (reach_by r (change c) a)
      go done e =
          let p = passed_tests fate c s.net more (passed first ts e).1 in
          same fate o (accepted p.0 (passed_journal s.words (length (undo_words c s.net)) p.1))
      go (refused k) e = same fate o f

-- A MARK
module _ (fate : Draws) (o : Options) (good : good_options o ≡ true) (size : ℕ) (s : State) (st kept : List Change) (r : ℕ) (f : Follows fate o size s st kept r) where
  marked : Follows fate o size (record { net = s.net; words = 0 ∷ 2 ∷ drop 2 s.words }) st st 0
  unfolding flat
  marked =
      record {
        recent = [];
        rest = drop 2 s.words;
        parts = refl;
        far = refl;
        net = f.net;
        words = refl;
        whole = omega (arith, f.whole, ap length f.words, length-append (flat fate o kept f.recent) f.rest, length-drop 2 s.words);
        sound = f.sound;
      }

  mark_is : do_mark s ≡ record { state = record { net = s.net; words = 0 ∷ 2 ∷ drop 2 s.words }; answer = done }
  unfolding do_mark
  mark_is =
      let h : 2 ≤ length s.words = rw f.words (omega arith) in
      rw (le-leb 2 (length s.words) h)

  mark_next : Next fate o size (do_mark s).state (strike st mark (do_mark s).answer) kept (reach_by r mark (do_mark s).answer)
  unfolding strike reach_by
  mark_next = rw mark_is (record { kept' = st; more = f.recent; grows = f.parts; follows = marked })

-- A REWIND

-- the words of the calls that stay are a front of all
flat_front : (fate : Draws) (o : Options) (kept : List Change) (k : ℕ) (recent : List Change)
    → (x : List ℕ) × (flat fate o kept recent ≡ flat fate o kept (drop k recent) ++ x)
unfolding flat
flat_front fate o kept zero recent = ([], sym (append-nil (flat fate o kept recent)))
flat_front fate o kept (suc k) [] = ([], refl)
flat_front fate o kept (suc k) (c ∷ recent) =
    let p = flat_front fate o kept k recent in
    let u : List ℕ = undo_words c (replay fate o (recent ++ kept)) in
    (p.0 ++ u, ap (λ (l : List ℕ). l ++ u) p.1 ∙ append_assoc (flat fate o kept (drop k recent)) p.0 u)

sound_drop : (fate : Draws) (o : Options) (k : ℕ) (st : List Change) → Sound fate o st → Sound fate o (drop k st)
sound_drop fate o zero st s = s
sound_drop fate o (suc k) [] s = tt
sound_drop fate o (suc k) (c ∷ st) s = sound_drop fate o k st s.1

module _ (fate : Draws) (o : Options) (good : good_options o ≡ true) (size : ℕ) (s : State) (st kept : List Change) (r : ℕ) (f : Follows fate o size s st kept r) (k : ℕ) where
  abbrev place : ℕ
  place = suc (suc (length (flat fate o kept (drop k f.recent))))

  abbrev back_then : State
  back_then = record { net = replay fate o (drop k st); words = (held s.words - k) ∷ place ∷ drop 2 s.words }

  well : well_formed s.net ≡ true
  well = rw f.net (well_formed_replay fate o st good f.sound)

  rewind_is : k ≤ length f.recent → do_rewind k s ≡ record { state = back_then; answer = done }
  unfolding do_rewind rewound
  rewind_is h =
      let w : List ℕ = s.words in
      let front : List ℕ = flat fate o kept f.recent in
      let d : drop k st ≡ drop k f.recent ++ kept = ap (λ (l : List Change). drop k l) f.parts ∙ drop-append-le k f.recent kept h in
      let n : s.net ≡ replay fate o (f.recent ++ kept) = f.net ∙ ap (λ (l : List Change). replay fate o l) f.parts in
      let u : used w ≡ suc (suc (length front)) = rw f.words in
      let b : leb k (held w) ≡ true = le-leb k (held w) (omega (arith, held_is fate o size s st kept r f)) in
      let m : undo_all k s.net w (used w) ≡ undone (replay fate o (drop k st)) place =
      rw (u, n, f.words, d)
      (undo_many fate o kept (length f.recent) (suc (suc (length front))) good k f.recent f.rest h (subst (λ (l : List Change). Sound fate o l) f.parts f.sound)) in
      rw (well, good_header_lem fate o size s st kept r f, b, m)

  far_is : length f.recent < k → do_rewind k s ≡ record { state = s; answer = refused 33 }
  unfolding do_rewind
  far_is h =
      let b : leb k (held s.words) ≡ false = lt-leb k (held s.words) (omega (arith, held_is fate o size s st kept r f)) in
      rw (well, good_header_lem fate o size s st kept r f, b)

  went_back : k ≤ length f.recent → Follows fate o size back_then (drop k st) kept (r - k)
  went_back h =
      let p = flat_front fate o kept k f.recent in
      let front : List ℕ = flat fate o kept (drop k f.recent) in
      let c : held s.words - k ≡ length (drop k f.recent) = omega (arith, held_is fate o size s st kept r f, length-drop k f.recent) in
      let b : drop 2 s.words ≡ front ++ (p.0 ++ f.rest) =
      ap (λ (l : List ℕ). drop 2 l) f.words ∙ (ap (λ (l : List ℕ). l ++ f.rest) p.1 ∙ append_assoc front p.0 f.rest) in
      record {
        recent = drop k f.recent;
        rest = p.0 ++ f.rest;
        parts = ap (λ (l : List Change). drop k l) f.parts ∙ drop-append-le k f.recent kept h;
        far = omega (arith, length-drop k f.recent, f.far);
        net = refl;
        words = rw (c, b);
        whole = omega (arith, f.whole, ap length p.1, length-append front p.0, length-append p.0 f.rest);
        sound = sound_drop fate o k st f.sound;
      }

  rewind_next : Next fate o size (do_rewind k s).state (strike st (rewind k) (do_rewind k s).answer) kept (reach_by r (rewind k) (do_rewind k s).answer)
  unfolding strike reach_by
  rewind_next = go (leb k (length f.recent)) refl
    where
      go : (b : Bool) → leb k (length f.recent) ≡ b
          → Next fate o size (do_rewind k s).state (strike st (rewind k) (do_rewind k s).answer) kept (reach_by r (rewind k) (do_rewind k s).answer)
      go true e = let h : k ≤ length f.recent = leb-true k (length f.recent) e in rw (rewind_is h) (same fate o (went_back h))
      go false e = rw (far_is (leb-false k (length f.recent) e)) (same fate o f)

-- ANY CALL, ANY CALLS
module _ (fate : Draws) (o : Options) (good : good_options o ≡ true) (size : ℕ) where
  step_next : (c : Call) (s : State) (st kept : List Change) (r : ℕ) → Follows fate o size s st kept r
      → Next fate o size (step fate s c).state (strike st c (step fate s c).answer) kept (reach_by r c (step fate s c).answer)
  unfolding step
  step_next (change c) s st kept r f = change_next fate o good size s st kept r f c
  step_next (rewind k) s st kept r f = rewind_next fate o good size s st kept r f k
  step_next mark s st kept r f = mark_next fate o good size s st kept r f

  run_next : (cs : List Call) (s : State) (st kept : List Change) (r : ℕ) → Follows fate o size s st kept r
      → Next fate o size (run fate s cs) (struck st (log fate s cs)) kept (reached r (log fate s cs))
  unfolding run log struck reached
  run_next [] s st kept r f = same fate o f
  run_next (c ∷ cs) s st kept r f =
      let a = step_next c s st kept r f in
      let b = run_next cs (step fate s c).state (strike st c (step fate s c).answer) a.kept' (reach_by r c (step fate s c).answer) a.follows in
      record {
        kept' = b.kept';
        more = b.more ++ a.more;
        grows = b.grows ∙ (ap (λ (l : List Change). b.more ++ l) a.grows ∙ sym (append_assoc b.more a.more kept));
        follows = b.follows;
      }

started : (fate : Draws) (o : Options) (rest : List ℕ) → Follows fate o (length rest + 2) (start o rest) [] [] 0
unfolding replay flat
started fate o rest =
    record { recent = []; rest = rest; parts = refl; far = refl; net = refl; words = refl; whole = omega arith; sound = tt }

log-append : (fate : Draws) (a b : List Call) (s : State) (st : List Change)
    → struck st (log fate s (a ++ b)) ≡ struck (struck st (log fate s a)) (log fate (run fate s a) b)
unfolding run log struck
log-append fate [] b s st = refl
log-append fate (c ∷ a) b s st = log-append fate a b (step fate s c).state (strike st c (step fate s c).answer)

-- THE THEOREM, over any draw rules, any good options and any words behind an empty header
module _ (fate : Draws) (o : Options) (good : good_options o ≡ true) (rest : List ℕ) where
  all_follows : (cs : List Call) → Next fate o (length rest + 2) (ran fate o rest cs) (stack fate o rest cs) [] (reach fate o rest cs)
  all_follows cs = run_next fate o good (length rest + 2) cs (start o rest) [] [] 0 (started fate o rest)

  -- step 1: the journal holds the records of what stands since the last mark, and it has as many words as it had
  pub the_journal_holds : (cs : List Call) (r : ℕ) (written : List ℕ) → r ≡ reach fate o rest cs
      → written ≡ recorded fate o r (stack fate o rest cs)
      → (others : List ℕ) × ((ran fate o rest cs).words ≡ r ∷ suc (suc (length written)) ∷ (written ++ others))
  the_journal_holds cs r written e h =
      let f = (all_follows cs).follows in
      let st : List Change = stack fate o rest cs in
      let kept : List Change = (all_follows cs).kept' in
      let n : length f.recent ≡ r = omega (arith, f.far) in
      let a : take r st ≡ f.recent = rw f.parts (take_at f.recent kept r n) in
      let b : drop r st ≡ kept = rw f.parts (drop_at f.recent kept r n) in
      (f.rest, rw (h, a, b, ← n) f.words)

  pub size_stays : (cs : List Call) → length (ran fate o rest cs).words ≡ length rest + 2
  size_stays cs =
      let f = (all_follows cs).follows in
      omega (arith, ap length f.words, f.whole, length-append (flat fate o (all_follows cs).kept' f.recent) f.rest)

  -- step 2: the network is the fold of what stands
  pub fold_of_standing : (cs : List Call) → (ran fate o rest cs).net ≡ replay fate o (stack fate o rest cs)
  fold_of_standing cs = (all_follows cs).follows.net

  pub all_sound : (cs : List Call) → Sound fate o (stack fate o rest cs)
  all_sound cs = (all_follows cs).follows.sound

  -- steps 2 and 3: the options and the counters are what the standing list says, and the pending list is the copies that wait, sorted
  pub the_numbers_are_counted : (cs : List Call) → Counted fate o (stands fate o rest cs) (ran fate o rest cs).net
  the_numbers_are_counted cs =
      let f = (all_follows cs).follows in
      rw f.net (counted fate o (stack fate o rest cs) good f.sound)

  pub the_pending_are_sorted : (cs : List Call) → (ran fate o rest cs).net.pending ≡ sorted_copies fate o (stands fate o rest cs)
  the_pending_are_sorted cs = rw (all_follows cs).follows.net (pending_sorted fate o (stack fate o rest cs))

  -- a rewind is accepted if its k is at most what stands since the last mark, and leaves the network before the last k
  pub rewinds : (cs : List Call) (k : ℕ) → k ≤ reach fate o rest cs
      → ((step fate (ran fate o rest cs) (rewind k)).answer ≡ done) × ((step fate (ran fate o rest cs) (rewind k)).state.net ≡ replay fate o (drop k (stack fate o rest cs)))
  unfolding step
  rewinds cs k h =
      let x = all_follows cs in
      let e = rewind_is fate o good (length rest + 2) (ran fate o rest cs) (stack fate o rest cs) x.kept' (reach fate o rest cs) x.follows k (omega (arith, x.follows.far)) in
      (ap (λ (p : Step). p.answer) e, ap (λ (p : Step). p.state.net) e)

  -- and refused otherwise
  pub no_further : (cs : List Call) (k : ℕ) → reach fate o rest cs < k
      → step fate (ran fate o rest cs) (rewind k) ≡ record { state = ran fate o rest cs; answer = refused 33 }
  unfolding step
  no_further cs k h =
      let x = all_follows cs in
      far_is fate o good (length rest + 2) (ran fate o rest cs) (stack fate o rest cs) x.kept' (reach fate o rest cs) x.follows k (omega (arith, x.follows.far))

  -- a mark cannot be rewound past: what stood at the mark stands for good
  pub mark_holds : (before later : List Call)
      → (more : List Change) × (stands fate o rest (before ++ (mark ∷ later)) ≡ stands fate o rest before ++ more)
  unfolding log struck strike step
  mark_holds before later =
      let x = all_follows before in
      let s : State = ran fate o rest before in
      let st : List Change = stack fate o rest before in
      let e = mark_is fate o good (length rest + 2) s st x.kept' (reach fate o rest before) x.follows in
      let y =
      run_next fate o good (length rest + 2) later (record { net = s.net; words = 0 ∷ 2 ∷ drop 2 s.words }) st st 0
      (marked fate o good (length rest + 2) s st x.kept' (reach fate o rest before) x.follows) in
      let z : stack fate o rest (before ++ (mark ∷ later)) ≡ (y.follows.recent ++ y.more) ++ st =
      log-append fate before (mark ∷ later) (start o rest) []
      ∙ rw e (y.follows.parts ∙ (ap (λ (l : List Change). y.follows.recent ++ l) y.grows ∙ sym (append_assoc y.follows.recent y.more st))) in
      (reverse (y.follows.recent ++ y.more), ap (λ (l : List Change). reverse l) z ∙ reverse-append (y.follows.recent ++ y.more) st)

-- A journaled call beside the plain one: it is refused where the plain call is, with the same answer, then where the journal is, and
-- else it is the plain call with its record written. Assumes nothing.
use Prim.Native.Nat.{ℕ}
use mathlib.Core.Path.{◌≡◌, refl, sym, ap, ◌∙◌}
use mathlib.Core.List.{List, [], ◌∷◌, ◌++◌}
use mathlib.Core.Bool.{Bool, true, false, cond}
use lib.ListN.{length}
use Rattle.nights.specs.Net.{Plain, Change, send, collect, choose}
use Rattle.nights.specs.Draws.{fate_of}
use Rattle.nights.specs.Tests.{Answer, done, refused, Test, verdict, tests, if_done}
use Rattle.nights.specs.Journal.{Call, change, Step, logged, undo_words, journal_tests, journaled, do_change, step}
use Rattle.network.specs.declared.Network.{Network}
use Rattle.network.specs.Forms.{plain_of, struct_of, is_formed}
use Rattle.network.specs.Calls.{call_answer, call_network}
use Rattle.network.proofs.Structs.{plain_formed, call_ill, call_well, stays, follows, was_formed}
use Rattle.journal_calls.specs.Calls.{state_of, step_of, answer_of, words_after, network_after}

-- ---- tests and more tests

abbrev chained : Answer → Answer → Answer
chained done b = b
chained (refused k) b = refused k

verdict_more : (ts more : List Test) → verdict (ts ++ more) ≡ chained (verdict ts) (verdict more)
unfolding verdict
verdict_more [] more = refl
verdict_more (t ∷ ts) more = go t.passes (verdict_more ts more)
  where
    go : (b : Bool) → verdict (ts ++ more) ≡ chained (verdict ts) (verdict more)
        → cond b (verdict (ts ++ more)) (refused t.number) ≡ chained (cond b (verdict ts) (refused t.number)) (verdict more)
    go true e = e
    go false e = refl

tests_more : (c : Change) (n : Plain) (more : List Test) → tests fate_of c n more ≡ tests fate_of c n [] ++ more
unfolding tests
tests_more (send m draws extras) n more = refl
tests_more (collect now room) n more = refl
tests_more (choose o) n more = refl

-- ---- what a contract says

-- of a call's network, its answer and the journal's words
module _ (c : Call) (s : Network) (w : List ℕ) where
  pub record Met (t : Network) (a : Answer) (v : List ℕ) : Type 0 where
    pub network : t ≡ network_after c s w
    pub answer : a ≡ answer_of c s w
    pub words : v ≡ words_after c s w

  pub met_by : (p : Step) → step_of c s w ≡ p → Met (if_done p.answer (struct_of p.state.net) s) p.answer p.state.words
  met_by p e =
      record {
        network = ap (λ (q : Step). if_done q.answer (struct_of q.state.net) s) (sym e);
        answer = ap (λ (q : Step). q.answer) (sym e);
        words = ap (λ (q : Step). q.state.words) (sym e);
      }

  pub refused_by : (k : ℕ) → step_of c s w ≡ record { state = state_of s w; answer = refused k } → Met s (refused k) w
  unfolding if_done
  refused_by k e = met_by _ e

-- ---- the step of a plain call

module _ (c : Change) (s : Network) (w : List ℕ) where
  -- the answer, and the step that it makes
  abbrev chain : Answer
  chain = chained (call_answer c s) (verdict (journal_tests w (length (undo_words c (plain_of s)))))

  step_is : is_formed s ≡ true
      → step_of (change c) s w ≡ record { state = if_done chain (journaled fate_of c (state_of s w)) (state_of s w); answer = chain }
  unfolding step_of step do_change verdict
  step_is f =
      rw (f, plain_formed s f, call_well s c f, tests_more c (plain_of s) (journal_tests w (length (undo_words c (plain_of s)))))
      (ap (λ (a : Answer). record { state = if_done a (journaled fate_of c (state_of s w)) (state_of s w); answer = a })
      (verdict_more (tests fate_of c (plain_of s) []) (journal_tests w (length (undo_words c (plain_of s))))))

  pub refused_first : (k : ℕ) → call_answer c s ≡ refused k → Met (change c) s w s (refused k) w
  unfolding step_of if_done
  refused_first k e = refused_by (change c) s w k (go (is_formed s) refl)
    where
      go : (b : Bool) → is_formed s ≡ b → step_of (change c) s w ≡ record { state = state_of s w; answer = refused k }
      go true f = step_is f ∙ rw e
      go false f = let z : ◌≡◌ {A = Answer} (refused 23) (refused k) = sym (call_ill s c f) ∙ e in rw (f, ← z)

  -- the same of what the plain call gave
  pub refused_plain : (k : ℕ) → call_answer c s ≡ refused k → Met (change c) s w (call_network c s) (call_answer c s) w
  refused_plain k e = rw (e, sym (stays s c k e)) (refused_first k e)

  module _ (e : call_answer c s ≡ done) where
    pub refused_then : (k size : ℕ) → size ≡ length (undo_words c (plain_of s)) → verdict (journal_tests w size) ≡ refused k
        → Met (change c) s w s (refused k) w
    unfolding if_done
    refused_then k size n j = refused_by (change c) s w k (step_is (was_formed c s e) ∙ rw (e, ← n, j))

    pub accepted : (r : List ℕ) → r ≡ undo_words c (plain_of s) → verdict (journal_tests w (length r)) ≡ done
        → Met (change c) s w (call_network c s) (call_answer c s) (logged w r)
    unfolding if_done
    accepted r n j =
        rw (sym (follows s c e), e, n)
        (met_by (change c) s w (record { state = journaled fate_of c (state_of s w); answer = done }) (step_is (was_formed c s e) ∙ rw (e, ← n, j)))

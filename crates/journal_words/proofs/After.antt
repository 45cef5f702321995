-- The lent words after a journaled call, by its answer: a refusal leaves all of them, and a call that is done leaves a well-formed
-- network, whose words they are. Assumes nothing.
use Prim.Native.Nat.{ℕ}
use mathlib.Core.Path.{◌≡◌, refl, sym, ap, ◌∙◌}
use mathlib.Core.Bool.{Bool, true, false}
use mathlib.Core.List.{List}
use native.Mathlib.Omega.{arith}
use Rattle.std.specs.Prelude.{Some}
use Rattle.nights.specs.Draws.{fate_of}
use Rattle.nights.specs.Tests.{Answer, done, refused, if_done}
use Rattle.nights.specs.Journal.{Call, State, Step, step}
use Rattle.nights.proofs.Steps.{refused_stays, step_keeps}
use Rattle.network.specs.declared.Network.{Network}
use Rattle.network_form.specs.declared.Head.{Head}
use Rattle.network.specs.Forms.{network_of, struct_of, is_formed}
use Rattle.network.proofs.Structs.{plain_formed, struct_formed}
use Rattle.journal_calls.specs.Calls.{state_of, step_of, answer_of, words_after, network_after}
use Rattle.network_layout.specs.Layout.{head_fits, head_words, loaded}
use Rattle.network_layout.proofs.Heads.{head_read}
use Rattle.journal_words.specs.Calls.{network_in, journal_answer, journal_head, journal_records, journal_words}
use Rattle.journal_words.proofs.Told.{Kept, Done, read_kept, read_finished}

-- what was read is the network of the words
pub read_is : (h r : List ℕ) (x : Head) → Some x ≡ loaded h → (t : Network) → t ≡ network_of x r → t ≡ network_in h r
read_is h r x e t q = q ∙ ap (λ (y : Head). network_of y r) (head_read h x e).1

module _ (c : Call) (s : Network) (j : List ℕ) where
  well : is_formed s ≡ true → step_of c s j ≡ step fate_of (state_of s j) c
  unfolding step_of
  well f = rw f

  ill : is_formed s ≡ false → step_of c s j ≡ record { state = state_of s j; answer = refused 23 }
  unfolding step_of
  ill f = rw f

  -- a refusal leaves the journal
  same_journal : (k : ℕ) → answer_of c s j ≡ refused k → words_after c s j ≡ j
  same_journal k e = go (is_formed s) refl
    where
      go : (b : Bool) → is_formed s ≡ b → words_after c s j ≡ j
      go true f =
          ap (λ (p : Step). p.state.words) (well f)
          ∙ ap (λ (x : State). x.words) (refused_stays fate_of (state_of s j) c k (sym (ap (λ (p : Step). p.answer) (well f)) ∙ e))
      go false f = ap (λ (p : Step). p.state.words) (ill f)

  -- a call that is done leaves a well-formed network
  stays_formed : answer_of c s j ≡ done → is_formed (network_after c s j) ≡ true
  unfolding if_done
  stays_formed e = rw e (go (is_formed s) refl)
    where
      go : (b : Bool) → is_formed s ≡ b → is_formed (struct_of (step_of c s j).state.net) ≡ true
      go true f =
          ap (λ (p : Step). is_formed (struct_of p.state.net)) (well f)
          ∙ struct_formed _ (step_keeps fate_of (state_of s j) (plain_formed s f) c)
      go false f =
          let q : ◌≡◌ {A = Answer} (refused 23) done = sym (ap (λ (p : Step). p.answer) (ill f)) ∙ e in
          let z : ◌≡◌ {A = ℕ} 0 1 = cc in
          absurd (omega arith)

-- ---- over lent words, by what a call of the journal hands back

module _ (c : Call) (h r j : List ℕ) (f : head_fits h ≡ true) (t : Network) (v : List ℕ)
    (n : t ≡ network_after c (network_in h r) j) (w : v ≡ words_after c (network_in h r) j) where
  pub record Left (k : ℕ) : Type 0 where
    pub kept : Kept (journal_answer c h r j) k
    pub journal : v ≡ journal_words c h r j

  pub left : (k : ℕ) → answer_of c (network_in h r) j ≡ refused k → Left k
  left k e =
      let a : Kept (journal_answer c h r j) k = read_kept h (answer_of c (network_in h r) j) f k e in
      record { kept = a; journal = w ∙ (same_journal c (network_in h r) j k e ∙ a.words _ j) }

  pub record Written : Type 0 where
    pub finished : Done (journal_answer c h r j)
    pub formed : is_formed t ≡ true
    pub head : head_words t.head ≡ journal_head c h r j
    pub records : t.words ≡ journal_records c h r j
    pub journal : v ≡ journal_words c h r j

  pub wrote : answer_of c (network_in h r) j ≡ done → Written
  wrote e =
      let d : Done (journal_answer c h r j) = read_finished h (answer_of c (network_in h r) j) f e in
      record {
        finished = d;
        formed = ap is_formed n ∙ stays_formed c (network_in h r) j e;
        head = ap (λ (x : Network). head_words x.head) n ∙ d.words _ h;
        records = ap (λ (x : Network). x.words) n ∙ d.words _ r;
        journal = w ∙ d.words _ j;
      }

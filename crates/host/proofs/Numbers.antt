-- No refusal has the number 0, which says that a call is done; and behind the network's own test none has that test's, 23. Assumes
-- nothing.
use Prim.Native.Nat.{ℕ, ◌≤◌}
use mathlib.Core.Path.{◌≡◌, refl, sym, ◌∙◌, subst}
use mathlib.Core.Bool.{Bool, true, false, cond}
use mathlib.Core.List.{List, [], ◌∷◌}
use native.Mathlib.Omega.{arith}
use borrow.Author.Tests.{eqb-false}
use lib.Dec.{eqb}
use lib.Ieee.{binary64, of_bits}
use Rattle.std.specs.Prelude.{Option, Some, None}
use Rattle.chance.specs.Draw.{gen_bool_in_send}
use Rattle.chance.specs.declared.Draw.{Draw}
use Rattle.nights.specs.Net.{Options, Plain, Fate, refuse, lose, once, twice, Change, send, collect, choose}
use Rattle.nights.specs.Draws.{Decided, is_faulted, alone, both, after_replay, after_loss, decided, fate_of}
use Rattle.nights.specs.Tests.{Answer, refused, Test, verdict, allowed, refusal, tests}
use Rattle.network_options.specs.declared.Refusal.{Refusal as NetworkRefusal}
use Rattle.network_options.specs.Answers.{refusal_number}
use Rattle.network_form.specs.declared.Head.{Head}
use Rattle.network_form.specs.Forms.{plain_in, formed_in}
use Rattle.network_form.specs.Calls.{answer_in, form_answer, list_answer}
use Rattle.network_form.proofs.Calling.{call_ill, call_well}
use Rattle.network_layout.specs.Layout.{head_fits, if_head}
use Rattle.network_layout.proofs.Heads.{no_head, a_head}
use Rattle.network_batch.proofs.Using.{number_over}
use Rattle.plants.specs.declared.refusal.Refusal.{Refusal as PlantsRefusal}
use Rattle.plants.specs.Refusals.{plants_refusal}
use Rattle.plants_words.proofs.Answering.{nonzero}
use Rattle.properties_verdicts.specs.declared.Refusal.{Refusal as PropertiesRefusal}
use Rattle.properties_verdicts.specs.declared.Refusal.TheVariants.{PlantCount, NoSuchPlant, BadSnapshot, BadTracker}
use Rattle.properties_verdicts.specs.Verdicts.{properties_refusal}
use Rattle.host.proofs.Deciding.{alone_by, both_by}

-- ---- tests in order: what is so of each number that can answer is so of the one that does

abbrev Each : (ℕ → Type 0) → List Test → Type 0
Each P [] = Unit {0}
Each P (t ∷ ts) = (t.passes ≡ false → P t.number) × Each P ts

number_among : (P : ℕ → Type 0) (ts : List Test) → Each P ts → (k : ℕ) → verdict ts ≡ refused k → P k
unfolding verdict
number_among P [] u k e = let z : ◌≡◌ {A = ℕ} 0 1 = cc in absurd (omega arith)
number_among P (t ∷ ts) u k e = go t.passes refl (λ q. number_among P ts u.1 k q) e
  where
    go : (b : Bool) → t.passes ≡ b → (verdict ts ≡ refused k → P k) → cond b (verdict ts) (refused t.number) ≡ refused k → P k
    go true p more q = more q
    go false p more q = let z : t.number ≡ k = cc in subst P z (u.0 p)

-- ---- what draws and extras refuse with: 26, 27 or 28

abbrev Fated : Fate → Type 0
Fated (refuse k) = (26 ≤ k) × (k ≤ 28)
Fated lose = Unit {0}
Fated (once d x) = Unit {0}
Fated (twice c d x y) = Unit {0}

module _ (o : Options) (now : ℕ) (draws extras : List ℕ) where
  replay_fated : (d : Option Draw) → Fated (after_replay o now extras d).fate
  unfolding after_replay
  replay_fated (Some d) = go d.yes
    where
      go : (b : Bool) → Fated (cond b (both o now extras d.next) (alone o now extras d.next)).fate
      go true = both_by (λ (r : Decided). Fated r.fate) o now extras d.next (omega arith, omega arith) (omega arith, omega arith) tt
      go false = alone_by (λ (r : Decided). Fated r.fate) o now extras d.next (omega arith, omega arith) (omega arith, omega arith) tt
  replay_fated None = (omega arith, omega arith)

  loss_fated : (d : Option Draw) → Fated (after_loss o now draws extras d).fate
  unfolding after_loss
  loss_fated (Some d) = go d.yes
    where
      go : (b : Bool)
          → Fated (cond b (record { fate = lose; draws = d.next; extras = 0 }) (after_replay o now extras (gen_bool_in_send (of_bits binary64 o.replay) draws d.next))).fate
      go true = tt
      go false = replay_fated (gen_bool_in_send (of_bits binary64 o.replay) draws d.next)
  loss_fated None = (omega arith, omega arith)

  fated : (kind : ℕ) → Fated (fate_of o now kind draws extras)
  unfolding decided
  fated kind = go (is_faulted o kind)
    where
      d : Option Draw
      d = gen_bool_in_send (of_bits binary64 o.loss) draws 0

      go : (b : Bool) → Fated (cond b (after_loss o now draws extras d) (record { fate = once now false; draws = 0; extras = 0 })).fate
      go true = loss_fated d
      go false = tt

-- ---- the numbers behind the network's own test

-- neither 0 nor 23
pub record Behind (k : ℕ) : Type 0 where
  pub over : k ≡ 0 → ⊥
  pub formed : k ≡ 23 → ⊥

known : (k : ℕ) → eqb k 0 ≡ false → eqb k 23 ≡ false → Behind k
known k a b = record { over = eqb-false k 0 a; formed = eqb-false k 23 b }

fate_behind : (f : Fate) → Fated f → allowed f ≡ false → Behind (refusal f)
fate_behind (refuse k) g e = record { over = λ z. omega arith; formed = λ z. omega arith }
fate_behind lose g e = let z : ◌≡◌ {A = ℕ} 0 1 = cc in absurd (omega arith)
fate_behind (once d x) g e = let z : ◌≡◌ {A = ℕ} 0 1 = cc in absurd (omega arith)
fate_behind (twice c d x y) g e = let z : ◌≡◌ {A = ℕ} 0 1 = cc in absurd (omega arith)

module _ (n : Plain) where
  each_behind : (c : Change) → Each Behind (tests fate_of c n [])
  unfolding tests
  each_behind (send m draws extras) =
      let f = fate_behind (fate_of n.options m.now m.kind draws extras) (fated n.options m.now draws extras m.kind) in
      (λ e. known 24 refl refl, (λ e. known 25 refl refl, (f, (λ e. known 29 refl refl, tt))))
  each_behind (collect now room) = (λ e. known 30 refl refl, tt)
  each_behind (choose o) = (λ e. known 20 refl refl, (λ e. known 21 refl refl, (λ e. known 22 refl refl, tt)))

  pub tests_behind : (c : Change) (k : ℕ) → verdict (tests fate_of c n []) ≡ refused k → Behind k
  tests_behind c k e = number_among Behind (tests fate_of c n []) (each_behind c) k e

-- ---- a call on words

-- of a well-formed network the answer is its tests', and any other is refused with 23
pub call_number : (c : Change) (h : Head) (w : List ℕ) (k : ℕ) → answer_in c h w ≡ refused k → k ≡ 0 → ⊥
call_number c h w k e z = go (formed_in h w) refl
  where
    go : (b : Bool) → formed_in h w ≡ b → ⊥
    go true p = (tests_behind (plain_in h w) c k (sym (call_well h w c p) ∙ e)).over z
    go false p = let q : ◌≡◌ {A = Answer} (refused 23) (refused k) = sym (call_ill h w c p) ∙ e in let y : 23 ≡ k = cc in omega arith

pub form_number : (h : Head) (w : List ℕ) (k : ℕ) → form_answer h w ≡ refused k → k ≡ 0 → ⊥
unfolding form_answer
form_number h w k e = number_among (λ (n : ℕ). n ≡ 0 → ⊥) _ (λ p z. omega arith, tt) k e

pub list_number : (h : Head) (w : List ℕ) (room k : ℕ) → list_answer h w room ≡ refused k → k ≡ 0 → ⊥
unfolding list_answer
list_number h w room k e = number_among (λ (n : ℕ). n ≡ 0 → ⊥) _ (λ p z. omega arith, (λ p z. omega arith, tt)) k e

-- and words that are no head are refused with 23
pub head_number : (h : List ℕ) (a : Answer) → ((k : ℕ) → a ≡ refused k → k ≡ 0 → ⊥) → (k : ℕ) → if_head h a ≡ refused k → k ≡ 0 → ⊥
head_number h a n k e z = go (head_fits h) refl
  where
    go : (b : Bool) → head_fits h ≡ b → ⊥
    go true p = n k (sym (a_head h a p) ∙ e) z
    go false p = let q : ◌≡◌ {A = Answer} (refused 23) (refused k) = sym (no_head h a p) ∙ e in let y : 23 ≡ k = cc in omega arith

-- ---- the refusals of the code, by family

pub network_nonzero : (r : NetworkRefusal) → refusal_number r ≡ 0 → ⊥
network_nonzero r = number_over r

pub plants_nonzero : (r : PlantsRefusal) → plants_refusal r ≡ 0 → ⊥
plants_nonzero r = nonzero r

pub properties_nonzero : (r : PropertiesRefusal) → properties_refusal r ≡ 0 → ⊥
unfolding properties_refusal
properties_nonzero PlantCount e = omega arith
properties_nonzero NoSuchPlant e = omega arith
properties_nonzero BadSnapshot e = omega arith
properties_nonzero BadTracker e = omega arith

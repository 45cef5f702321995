-- An exported call on a network's words answers 0 exactly if it is done, and any other answer leaves every row. Assumes nothing.
use Prim.Native.Nat.{ℕ}
use mathlib.Core.Path.{◌≡◌, refl, sym, ◌∙◌}
use mathlib.Core.Bool.{Bool, true, false}
use mathlib.Core.List.{List, []}
use native.Mathlib.Omega.{arith}
use lib.ListN.{length}
use Rattle.nights.specs.Net.{Options, fresh, Change, send, collect, choose}
use Rattle.nights.specs.Tests.{Answer, done, refused, verdict, tests, option_tests}
use Rattle.network_form.specs.Calls.{answer_in, form_answer, list_answer}
use Rattle.network_layout.specs.Layout.{head_fits, head_in, if_head}
use Rattle.network_words.specs.Calls.{Rows, by_answer, new_rows, count_rows, list_rows}
use Rattle.network_layout.proofs.Heads.{no_head, a_head}
use Rattle.host.specs.Calls.{Exported, sending, taking, choosing, on_rows, lent_to, answer_on, Unchanged}
use Rattle.host.proofs.Numbers.{tests_behind, call_number, form_number, list_number, head_number}

-- ---- an answer of 0, and any other

zero-done : (a : Answer) (wrote came : Rows) → ((k : ℕ) → a ≡ refused k → k ≡ 0 → ⊥) → (by_answer a wrote came).number ≡ 0 → a ≡ done
unfolding by_answer
zero-done done wrote came n e = refl
zero-done (refused k) wrote came n e = absurd (n k refl e)

leaves_all : (a : Answer) (wrote came : Rows) → wrote.number ≡ 0 → ((by_answer a wrote came).number ≡ 0 → ⊥)
    → Unchanged (by_answer a wrote came) came
unfolding by_answer
leaves_all done wrote came z n = absurd (n z)
leaves_all (refused k) wrote came z n = record { head = refl; records = refl; out = refl; told = refl }

pub done-zero : (a : Answer) (wrote came : Rows) → wrote.number ≡ 0 → a ≡ done → (by_answer a wrote came).number ≡ 0
unfolding by_answer
done-zero a wrote came z e = rw e z

pub wrote_by : (a : Answer) (wrote came : Rows) → a ≡ done → by_answer a wrote came ≡ wrote
unfolding by_answer
wrote_by a wrote came e = rw e

pub number_by : (a : Answer) (wrote came : Rows) (k : ℕ) → a ≡ refused k → (by_answer a wrote came).number ≡ k
unfolding by_answer
number_by a wrote came k e = rw e

-- ---- calls that change a network

module _ (t : Rows) where
  never_0 : (c : Change) (k : ℕ) → if_head t.head (answer_in c (head_in t.head) t.records) ≡ refused k → k ≡ 0 → ⊥
  never_0 c = head_number t.head _ (call_number c (head_in t.head) t.records)

  -- the answer is 0 exactly if the call is done
  pub zero_is_done : (c : Exported) → (on_rows t c).number ≡ 0 → answer_on t c ≡ done
  zero_is_done (sending m draws extras told) e = zero-done _ _ _ (never_0 (send m draws extras)) e
  zero_is_done (taking tick out told) e = zero-done _ _ _ (never_0 (collect tick (length out))) e
  zero_is_done (choosing o) e = zero-done _ _ _ (never_0 (choose o)) e

  pub done_is_zero : (c : Exported) → answer_on t c ≡ done → (on_rows t c).number ≡ 0
  done_is_zero (sending m draws extras told) e = done-zero _ _ _ refl e
  done_is_zero (taking tick out told) e = done-zero _ _ _ refl e
  done_is_zero (choosing o) e = done-zero _ _ _ refl e

  -- any other answer leaves every row
  pub refused_leaves : (c : Exported) → ((on_rows t c).number ≡ 0 → ⊥) → Unchanged (on_rows t c) (lent_to c t)
  refused_leaves (sending m draws extras told) n = leaves_all _ _ _ refl n
  refused_leaves (taking tick out told) n = leaves_all _ _ _ refl n
  refused_leaves (choosing o) n = leaves_all _ _ _ refl n

  pub refused_number : (c : Exported) (k : ℕ) → answer_on t c ≡ refused k → (on_rows t c).number ≡ k
  refused_number (sending m draws extras told) k e = number_by _ _ _ k e
  refused_number (taking tick out told) k e = number_by _ _ _ k e
  refused_number (choosing o) k e = number_by _ _ _ k e

-- an answer over words that is done is that of their head
pub head_done : (h : List ℕ) (a : Answer) → if_head h a ≡ done → a ≡ done
head_done h a e = go (head_fits h) refl
  where
    go : (b : Bool) → head_fits h ≡ b → a ≡ done
    go true p = sym (a_head h a p) ∙ e
    go false p = let q : ◌≡◌ {A = Answer} (refused 23) done = sym (no_head h a p) ∙ e in let z : ◌≡◌ {A = ℕ} 0 1 = cc in absurd (omega arith)

-- ---- the calls that make a network or look at one

options_number : (o : Options) (k : ℕ) → verdict (option_tests o []) ≡ refused k → k ≡ 0 → ⊥
unfolding tests
options_number o k e = (tests_behind (fresh o) (choose o) k e).over

module _ (h r : List ℕ) where
  pub new_zero_is_done : (o : Options) → (new_rows h r o).number ≡ 0 → verdict (option_tests o []) ≡ done
  new_zero_is_done o e = zero-done _ _ _ (options_number o) e

  pub new_refused_leaves : (o : Options) → ((new_rows h r o).number ≡ 0 → ⊥)
      → Unchanged (new_rows h r o) (record { number = 0; head = h; records = r; out = []; told = [] })
  new_refused_leaves o n = leaves_all _ _ _ refl n

  pub count_zero_is_done : (told : List ℕ) → (count_rows h r told).number ≡ 0 → if_head h (form_answer (head_in h) r) ≡ done
  count_zero_is_done told e = zero-done _ _ _ (head_number h _ (form_number (head_in h) r)) e

  pub count_refused_leaves : (told : List ℕ) → ((count_rows h r told).number ≡ 0 → ⊥)
      → Unchanged (count_rows h r told) (record { number = 0; head = h; records = r; out = []; told = told })
  count_refused_leaves told n = leaves_all _ _ _ refl n

  pub list_zero_is_done : (out told : List ℕ) → (list_rows h r out told).number ≡ 0 → if_head h (list_answer (head_in h) r (length out)) ≡ done
  list_zero_is_done out told e = zero-done _ _ _ (head_number h _ (list_number (head_in h) r (length out))) e

  pub list_refused_leaves : (out told : List ℕ) → ((list_rows h r out told).number ≡ 0 → ⊥)
      → Unchanged (list_rows h r out told) (record { number = 0; head = h; records = r; out = out; told = told })
  list_refused_leaves out told n = leaves_all _ _ _ refl n

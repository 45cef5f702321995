-- The words after a change of options, which writes words alone. Assumes nothing.
use mathlib.Core.Path.{◌≡◌, refl, sym, ap, ◌∙◌}
use mathlib.Core.Bool.{Bool, true, false}
use mathlib.Core.List.{List, [], ◌∷◌}
use Prim.Native.Nat.{ℕ}
use native.Mathlib.Omega.{arith}
use lib.Dec.{leb}
use lib.ListN.{get_or}
use denote.Floats.{passes}
use Rattle.basis.proofs.Laws.{both}
use Rattle.chance.specs.Probability.{good_word}
use Rattle.chance.proofs.ThereAndBack.{there_and_back}
use Rattle.nights.specs.Net.{Options, choose, good_options, effect}
use Rattle.nights.specs.Tests.{done, verdict, tests, option_tests}
use Rattle.network_queue.proofs.Inserting.{length-recs}
use Rattle.network_options.specs.Options.{plain_options, struct_options}
use Rattle.network_options.proofs.OptionForms.{good_done}
use Rattle.network_form.specs.declared.Head.{Head}
use Rattle.network_form.specs.Forms.{formed_in}
use Rattle.network_form.specs.Calls.{answer_in, head_after}
use Rattle.network_form.proofs.Calling.{call_well, head_follows}
use Rattle.network_layout.specs.Layout.{head_in, head_words, option_words, answer_code}

module _ (o : Options) where
  -- 0 answers good ones alone
  pub number_done : answer_code (verdict (option_tests o [])) ≡ 0 → verdict (option_tests o []) ≡ done
  unfolding verdict
  number_done e = go (good_word o.loss) (good_word o.replay) (leb o.least o.mean) e
    where
      go : (a b c : Bool)
          → answer_code (verdict (record { passes = a; number = 20 } ∷ record { passes = b; number = 21 } ∷ record { passes = c; number = 22 } ∷ [])) ≡ 0
          → verdict (record { passes = a; number = 20 } ∷ record { passes = b; number = 21 } ∷ record { passes = c; number = 22 } ∷ []) ≡ done
      go true true true h = refl
      go true true false h = absurd (omega arith)
      go true false c h = absurd (omega arith)
      go false b c h = absurd (omega arith)

  -- good ones come back from their struct
  pub plain_back : good_options o ≡ true → plain_options (struct_options o) ≡ o
  unfolding good_options
  plain_back g =
      let p = both (good_word o.loss) _ g in
      let q = both (good_word o.replay) _ p.1 in
      rw ((there_and_back o.loss (passes _ p.0)).0, (there_and_back o.replay (passes _ q.0)).0)

  module _ (h r : List ℕ) (g : formed_in (head_in h) r ≡ true) where
    pub chosen_answer : answer_in (choose o) (head_in h) r ≡ verdict (option_tests o [])
    unfolding tests
    chosen_answer = call_well (head_in h) r (choose o) g

    -- the five words of the new options before the seven that were there
    pub chosen_head : verdict (option_tests o []) ≡ done
        → option_words o (get_or h 5 0 ∷ get_or h 6 0 ∷ get_or h 7 0 ∷ get_or h 8 0 ∷ get_or h 9 0 ∷ get_or h 10 0 ∷ get_or h 11 0 ∷ [])
        ≡ head_words (head_after (choose o) (head_in h) r)
    unfolding effect
    chosen_head e =
        sym
        (ap (λ (x : Head). head_words x) (sym (head_follows (head_in h) r (choose o) (chosen_answer ∙ e)))
        ∙ rw (length-recs r 0 (get_or h 5 0))
        (ap (λ (p : Options). option_words p (get_or h 5 0 ∷ get_or h 6 0 ∷ get_or h 7 0 ∷ get_or h 8 0 ∷ get_or h 9 0 ∷ get_or h 10 0 ∷ get_or h 11 0 ∷ []))
        (plain_back (good_done o e))))

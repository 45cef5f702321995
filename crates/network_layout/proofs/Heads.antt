-- A head's words: which of the three tests fails, and what reading them gives. Assumes nothing.
use mathlib.Core.Path.{◌≡◌, refl, sym, ◌∙◌}
use mathlib.Core.Bool.{Bool, true, false}
use mathlib.Core.List.{List}
use Prim.Native.Nat.{ℕ, ◌≤◌, ◌<◌}
use borrow.Author.Tests.{le-leb, lt-leb}
use lib.ListN.{get_or}
use Rattle.std.specs.Prelude.{Option, Some, None}
use Rattle.chance.specs.Probability.{good_word}
use Rattle.nights.specs.Tests.{Answer, refused}
use Rattle.network_form.specs.declared.Head.{Head}
use Rattle.network_layout.specs.Layout.{head_fits, head_in, loaded, if_head}

module _ (w : List ℕ) where
  -- ---- the tests, one after the other

  pub no_loss : good_word (get_or w 0 0) ≡ false → head_fits w ≡ false
  unfolding head_fits
  no_loss a = rw a

  module _ (a : good_word (get_or w 0 0) ≡ true) where
    pub no_replay : good_word (get_or w 1 0) ≡ false → head_fits w ≡ false
    unfolding head_fits
    no_replay b = rw (a, b)

    module _ (b : good_word (get_or w 1 0) ≡ true) where
      pub no_flag : 1 < get_or w 4 0 → head_fits w ≡ false
      unfolding head_fits
      no_flag h = rw (a, b, lt-leb (get_or w 4 0) 1 h)

      pub fitting : get_or w 4 0 ≤ 1 → head_fits w ≡ true
      unfolding head_fits
      fitting h = rw (a, b, le-leb (get_or w 4 0) 1 h)

  -- ---- what is read

  pub not_loaded : head_fits w ≡ false → None ≡ loaded w
  unfolding loaded
  not_loaded e = rw e

  pub is_loaded : head_fits w ≡ true → Some (head_in w) ≡ loaded w
  unfolding loaded
  is_loaded e = rw e

  -- words that are read fit, and are their head's; and no others
  pub unfit : None ≡ loaded w → head_fits w ≡ false
  unfit e = go (head_fits w) refl
    where
      go : (b : Bool) → head_fits w ≡ b → head_fits w ≡ false
      go true f = let p : ◌≡◌ {A = Option Head} None (Some (head_in w)) = e ∙ sym (is_loaded f) in absurd cc
      go false f = f

  pub head_read : (h : Head) → Some h ≡ loaded w → (head_fits w ≡ true) × (h ≡ head_in w)
  head_read h e = go (head_fits w) refl
    where
      go : (b : Bool) → head_fits w ≡ b → (head_fits w ≡ true) × (h ≡ head_in w)
      go true f = let p : ◌≡◌ {A = Option Head} (Some h) (Some (head_in w)) = e ∙ sym (is_loaded f) in (f, cc)
      go false f = let p : ◌≡◌ {A = Option Head} (Some h) None = e ∙ sym (not_loaded f) in absurd cc

  -- ---- an answer over words

  pub no_head : (a : Answer) → head_fits w ≡ false → if_head w a ≡ refused 23
  unfolding if_head
  no_head a e = rw e

  pub a_head : (a : Answer) → head_fits w ≡ true → if_head w a ≡ a
  unfolding if_head
  a_head a e = rw e

-- A change of options test by test, and what it does to the head and the words: what the plain form's does. Assumes nothing.
use mathlib.Core.Path.{◌≡◌, refl, sym, ap, ◌∙◌}
use mathlib.Core.List.{List, []}
use mathlib.Core.Bool.{true, false}
use Prim.Native.Nat.{ℕ}
use lib.ListN.{length}
use Rattle.std.specs.Prelude.{Result, Ok, Err, is_ok}
use Rattle.nights.specs.Net.{Options, fresh, choose, set_options, effect}
use Rattle.nights.specs.Tests.{Answer, done, refused, if_done, verdict, tests, option_tests}
use Rattle.network_queue.specs.Packed.{array_size, packed}
use Rattle.network_queue.proofs.Inserting.{length-recs}
use Rattle.network_options.specs.declared.NetworkOptions.{NetworkOptions}
use Rattle.network_options.specs.declared.Refusal.{Refusal}
use Rattle.network_options.specs.Options.{plain_options, struct_options, perfect_options}
use Rattle.network_options.specs.Answers.{refusal_number, settled_of}
use Rattle.network_options.proofs.OptionForms.{Held, options_back, perfect_plain}
use Rattle.network_form.specs.declared.Head.{Head}
use Rattle.network_form.specs.Forms.{plain_in, head_of, formed_in}
use Rattle.network_form.specs.Calls.{answer_in, records_after}
use Rattle.network_form.proofs.Maps.{words_are}
use Rattle.network_form.proofs.Calling.{call_ill, call_well, records_stay, records_follow}
use Rattle.network.specs.Forms.{struct_of}
use Rattle.network.specs.Calls.{first_network}

-- ---- an answer that passed its test, and one that did not

pub passed : (r : Result Unit Refusal) → is_ok r ≡ true → settled_of r ≡ done
passed (Ok u) e = refl
passed (Err x) e = let z : false ≡ true = e in absurd cc

pub failed : (r : Result Unit Refusal) → is_ok r ≡ false → (k : ℕ) × (settled_of r ≡ refused k)
failed (Ok u) e = let z : true ≡ false = e in absurd cc
failed (Err x) e = (refusal_number x, refl)

-- ---- the first network

pub first_good : (o : Options) → verdict (option_tests o []) ≡ done → struct_of (fresh o) ≡ first_network o
unfolding first_network if_done
first_good o e = rw e

pub first_perfect : (o : Options) (k : ℕ) → verdict (option_tests o []) ≡ refused k
    → struct_of (fresh (plain_options (struct_options perfect_options))) ≡ first_network o
unfolding first_network if_done
first_perfect o k e = rw e (ap (λ (p : Options). struct_of (fresh p)) perfect_plain)

-- ---- a change of options

module _ (h : Head) (w : List ℕ) (o : NetworkOptions) where
  pub choose_ill : formed_in h w ≡ false → answer_in (choose (plain_options o)) h w ≡ refused 23
  choose_ill e = call_ill h w (choose (plain_options o)) e

  module _ (f : formed_in h w ≡ true) where
    -- on a well-formed network the answer is the options'
    pub choose_well : answer_in (choose (plain_options o)) h w ≡ verdict (option_tests (plain_options o) [])
    unfolding tests
    choose_well = call_well h w (choose (plain_options o)) f

    pub chosen_head : Held o
        → ◌≡◌ {A = Head}
        (record {
          options = o;
          pending = h.pending;
          seq = h.seq;
          sent = h.sent;
          delivered = h.delivered;
          lost = h.lost;
          replayed = h.replayed;
          delayed = h.delayed;
        })
        (head_of (set_options (plain_options o) (plain_in h w)))
    chosen_head held = rw (options_back o held, length-recs w 0 h.pending)

    chosen_words : length w ≡ array_size → w ≡ packed (set_options (plain_options o) (plain_in h w)).pending
    chosen_words long = sym (words_are h w f long)

    -- the records stay, whatever is answered
    pub kept_words : length w ≡ array_size → w ≡ records_after (choose (plain_options o)) h w
    unfolding effect
    kept_words long = go (answer_in (choose (plain_options o)) h w) refl
      where
        go : (a : Answer) → answer_in (choose (plain_options o)) h w ≡ a → w ≡ records_after (choose (plain_options o)) h w
        go done e = chosen_words long ∙ records_follow h w (choose (plain_options o)) e
        go (refused k) e = records_stay h w (choose (plain_options o)) k e

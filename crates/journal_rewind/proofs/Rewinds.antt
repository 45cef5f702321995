-- A rewind, test by test: what each refusal leaves, and what the undoing of the last calls leaves. Assumes nothing.
use Prim.Native.Nat.{ℕ, ◌-◌, ◌≤◌, ◌<◌}
use mathlib.Core.Path.{◌≡◌, sym}
use mathlib.Core.List.{List, ◌∷◌}
use mathlib.Core.Bool.{true, false}
use native.Mathlib.Omega.{arith}
use borrow.Author.Tests.{le-leb, lt-leb}
use lib.ListN.{length, drop}
use Rattle.std.specs.Prelude.{Option, Some, None}
use Rattle.nights.specs.Tests.{Answer, done, refused, if_done}
use Rattle.nights.specs.Journal.{Call, rewind, held, used, header, good_header, misfit, undone, undo_all, rewound, do_rewind, step}
use Rattle.network.specs.declared.Network.{Network}
use Rattle.network_form.specs.Forms.{plain_in, formed_in}
use Rattle.network.specs.Forms.{network_of, plain_of, is_formed}
use Rattle.network_queue.specs.Packed.{array_size}
use Rattle.network_options.proofs.OptionForms.{Held}
use Rattle.network.proofs.Structs.{plain_formed, struct_of_plain}
use Rattle.journal_tests.specs.declared.Undone.{Undone}
use Rattle.journal_tests.specs.Undone.{undone_in}
use Rattle.journal_calls.specs.Calls.{step_of, answer_of, network_after}
use Rattle.journal_calls.proofs.Journaled.{Met, met_by, refused_by}

-- a refusal is no acceptance
pub not_done : {A : Type 0} {k : ℕ} → ◌≡◌ {A = Answer} (refused k) done → A
not_done e = let z : ◌≡◌ {A = ℕ} 0 1 = cc in absurd (omega arith)

-- and hands back the network that came
pub stays : (c : Call) (s : Network) (w : List ℕ) (k : ℕ) → answer_of c s w ≡ refused k → s ≡ network_after c s w
unfolding if_done
stays c s w k e = rw e

module _ (k : ℕ) (s : Network) (w : List ℕ) where
  pub ill : is_formed s ≡ false → Met (rewind k) s w s (refused 23) w
  unfolding step_of
  ill f = refused_by (rewind k) s w 23 (rw f)

  module _ (f : is_formed s ≡ true) where
    pub bad_header : good_header w ≡ false → Met (rewind k) s w s (refused 31) w
    unfolding step_of step do_rewind
    bad_header g = refused_by (rewind k) s w 31 (rw (f, plain_formed s f, g))

    module _ (g : good_header w ≡ true) where
      pub too_far : held w < k → Met (rewind k) s w s (refused 33) w
      unfolding step_of step do_rewind
      too_far h = refused_by (rewind k) s w 33 (rw (f, plain_formed s f, g, lt-leb k (held w) h))

      -- the undoing of the last k
      module _ (h : k ≤ held w) (o : Option Undone) (z : List ℕ) (e : undone_in o z ≡ undo_all k (plain_of s) w (used w)) where
        pub no_fit : o ≡ None → Met (rewind k) s w s (refused 31) w
        unfolding step_of step do_rewind rewound undone_in
        no_fit b =
            let m : misfit ≡ undo_all k (plain_of s) w (used w) = rw b at e in
            refused_by (rewind k) s w 31 (rw (f, plain_formed s f, g, le-leb k (held w) h, ← m))

        pub went_back : (u : Undone) → o ≡ Some u → formed_in u.head z ≡ true → Held u.head.options → length z ≡ array_size
            → Met (rewind k) s w (network_of u.head z) done ((held w - k) ∷ u.start ∷ drop 2 w)
        unfolding step_of step do_rewind rewound undone_in if_done
        went_back u b a q l =
            let m : undone (plain_in u.head z) u.start ≡ undo_all k (plain_of s) w (used w) = rw b at e in
            rw (sym (struct_of_plain (network_of u.head z) a q l))
            (met_by (rewind k) s w
            (record {
              state = record { net = plain_in u.head z; words = header (held w - k) u.start w };
              answer = done;
            })
            (rw (f, plain_formed s f, g, le-leb k (held w) h, ← m)))

-- A call's answer on an ill-formed network and on a well-formed one, and the head and the words that each answer leaves. Assumes nothing.
use mathlib.Core.Path.{◌≡◌}
use mathlib.Core.List.{List, []}
use mathlib.Core.Bool.{true, false}
use Prim.Native.Nat.{ℕ}
use Rattle.nights.specs.Net.{Change, effect}
use Rattle.nights.specs.Draws.{fate_of}
use Rattle.nights.specs.Tests.{done, refused, if_done, verdict, tests}
use Rattle.network_queue.specs.Packed.{packed}
use Rattle.network_form.specs.declared.Head.{Head}
use Rattle.network_form.specs.Forms.{plain_in, head_of, formed_in}
use Rattle.network_form.specs.Calls.{answer_in, head_after, records_after, form_answer}

-- counting
pub form_ill : (h : Head) (w : List ℕ) → formed_in h w ≡ false → form_answer h w ≡ refused 23
unfolding form_answer verdict
form_ill h w e = rw e

pub form_well : (h : Head) (w : List ℕ) → formed_in h w ≡ true → form_answer h w ≡ done
unfolding form_answer verdict
form_well h w e = rw e

-- a send, a take or a change of options
module _ (h : Head) (w : List ℕ) (c : Change) where
  pub call_ill : formed_in h w ≡ false → answer_in c h w ≡ refused 23
  unfolding answer_in verdict
  call_ill e = rw e

  pub call_well : formed_in h w ≡ true → answer_in c h w ≡ verdict (tests fate_of c (plain_in h w) [])
  unfolding answer_in verdict
  call_well e = rw e

  -- a refusal hands back the very head and words
  pub head_stays : (k : ℕ) → answer_in c h w ≡ refused k → h ≡ head_after c h w
  unfolding head_after if_done
  head_stays k e = rw e

  pub records_stay : (k : ℕ) → answer_in c h w ≡ refused k → w ≡ records_after c h w
  unfolding records_after if_done
  records_stay k e = rw e

  -- and an accepted call leaves those of what follows
  pub head_follows : answer_in c h w ≡ done → head_of (effect fate_of c (plain_in h w)) ≡ head_after c h w
  unfolding head_after if_done
  head_follows e = rw e

  pub records_follow : answer_in c h w ≡ done → packed (effect fate_of c (plain_in h w)).pending ≡ records_after c h w
  unfolding records_after if_done
  records_follow e = rw e

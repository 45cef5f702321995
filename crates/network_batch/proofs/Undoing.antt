-- Sends undone: of the records that they leave, those numbered up to the old number are the old ones, so that without the newer ones the
-- words are the old words. Assumes nothing.
use mathlib.Core.Path.{◌≡◌, ap, ◌∙◌}
use mathlib.Core.List.{List}
use mathlib.Core.Bool.{true}
use Prim.Native.Nat.{ℕ, ◌≤◌, ◌<◌}
use native.Mathlib.Omega.{arith}
use borrow.Author.Tests.{le-leb, lt-leb}
use lib.ListN.{length}
use Rattle.nights.specs.Record.{Record, recs}
use Rattle.nights.specs.Net.{dues, copies, Letter, keep, send, effect}
use Rattle.nights.specs.Draws.{fate_of}
use Rattle.nights.specs.Tests.{done}
use Rattle.nights.proofs.Order.{keep_all, all_map, unseen_all}
use Rattle.nights.proofs.Good.{copies_above}
use Rattle.nights.proofs.Kept.{good}
use Rattle.network_queue.specs.Packed.{array_size, packed}
use Rattle.network_drop.specs.Numbered.{up_to}
use Rattle.network_options.specs.Options.{plain_options}
use Rattle.network_form.specs.declared.Head.{Head}
use Rattle.network_form.specs.Forms.{plain_in, formed_in}
use Rattle.network_form.specs.Calls.{answer_in, head_after, records_after}
use Rattle.network_form.proofs.Maps.{plain_formed, words_are}
use Rattle.network_form.proofs.Calling.{head_follows}
use Rattle.network_form.proofs.Laws.{send_adds}

-- a network t, v that sends on h, w have left
pub record Older (h : Head) (w : List ℕ) (t : Head) (v : List ℕ) : Type 0 where
  pub risen : h.seq ≤ t.seq
  pub olds : keep (up_to h.seq) (recs v 0 t.pending) ≡ recs w 0 h.pending

pub older_again : (h : Head) (w : List ℕ) (t s : Head) (v u : List ℕ) → s ≡ t → u ≡ v → Older h w t v → Older h w s u
older_again h w t s v u p q o = rw (p, q) o

pub none_yet : (h : Head) (w : List ℕ) → formed_in h w ≡ true → Older h w h w
none_yet h w f =
    record {
      risen = omega arith;
      olds =
          keep_all (up_to h.seq) (recs w 0 h.pending)
          (all_map (λ (x : Record) (q : x.seq ≤ h.seq). le-leb x.seq h.seq q) (recs w 0 h.pending) (good (plain_in h w) (plain_formed h w f)).numbered);
    }

module _ (h : Head) (w : List ℕ) (t : Head) (v : List ℕ) (o : Older h w t v) where
  -- one more send
  module _ (m : Letter) (draws extras : List ℕ) (e : answer_in (send m draws extras) t v ≡ done) where
    abbrev new : List Record
    new = copies m t.seq (dues (fate_of (plain_options t.options) m.now m.kind draws extras))

    rises : h.seq ≤ (head_after (send m draws extras) t v).seq
    unfolding effect
    rises = omega (arith, o.risen, ap (λ (x : Head). x.seq) (head_follows t v (send m draws extras) e))

    pub one_more : Older h w (head_after (send m draws extras) t v) (records_after (send m draws extras) t v)
    one_more =
        record {
          risen = rises;
          olds =
              ap (keep (up_to h.seq)) (send_adds m draws extras t v e)
              ∙ (unseen_all (up_to h.seq) new (plain_in t v).pending
              (all_map (λ (x : Record) (q : h.seq < x.seq). lt-leb x.seq h.seq q) new (copies_above m t.seq h.seq _ o.risen))
              ∙ o.olds);
        }

-- without the newer ones
pub undone : (h : Head) (w : List ℕ) (t : Head) (v : List ℕ) → formed_in h w ≡ true → length w ≡ array_size
    → keep (up_to h.seq) (recs v 0 t.pending) ≡ recs w 0 h.pending
    → (z : List ℕ) → z ≡ packed (keep (up_to h.seq) (recs v 0 t.pending)) → z ≡ w
undone h w t v f long o z e = e ∙ (ap packed o ∙ words_are h w f long)

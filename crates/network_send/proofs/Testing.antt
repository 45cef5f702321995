-- A send's answer test by test, and what a refused one tells and hands back. Assumes nothing.
use mathlib.Core.Path.{◌≡◌, refl, ap, ◌∙◌}
use mathlib.Core.List.{List, [], ◌∷◌}
use mathlib.Core.Bool.{true}
use Prim.Native.Nat.{ℕ, ◌+◌, ◌≤◌, ◌<◌}
use native.Mathlib.Omega.{arith}
use borrow.Author.Tests.{le-leb, lt-leb, lt-ltb, le-ltb}
use lib.Dec.{leb}
use lib.ListN.{length}
use Rattle.basis.proofs.Laws.{bit_le}
use Rattle.nights.specs.Record.{recs}
use Rattle.nights.specs.Net.{capacity, sent_limit, last_kind, last_sort, Fate, refuse, lose, once, twice, dues, lost_by, replayed_by, delayed_by, Letter, send}
use Rattle.nights.specs.Draws.{Decided, decided, fate_of}
use Rattle.nights.specs.Tests.{Answer, done, refused, verdict, tests}
use Rattle.nights.proofs.Failing.{first, second}
use Rattle.network_queue.proofs.Inserting.{length-recs}
use Rattle.network_options.specs.Options.{plain_options}
use Rattle.network_fates.specs.declared.Decision.{Decision}
use Rattle.network_fates.specs.declared.Decision.TheVariants.{Lost, Once, Twice}
use Rattle.network_fates.specs.Answers.{decided_by}
use Rattle.network_form.specs.declared.Head.{Head}
use Rattle.network_form.specs.Forms.{formed_in}
use Rattle.network_form.specs.Calls.{answer_in, head_after, records_after}
use Rattle.network_form.proofs.Calling.{call_well, head_stays, records_stay}
use Rattle.network_send.specs.declared.Letter.{Letter as Told}
use Rattle.network_send.specs.Sends.{plain_letter, sending, send_tells, fate_answer}

module _ (h : Head) (w : List ℕ) (m : Letter) (draws extras : List ℕ) where
  -- what a refused send tells, and hands back
  pub unsent : (k : ℕ) → answer_in (send m draws extras) h w ≡ refused k
      → (h ≡ head_after (send m draws extras) h w)
      × ((w ≡ records_after (send m draws extras) h w)
      × (record { answer = refused k; lost = 0; replayed = 0; draws = 0; extras = 0 } ≡ send_tells m draws extras h w))
  unfolding sending
  unsent k e = (head_stays h w (send m draws extras) k e, (records_stay h w (send m draws extras) k e, rw e))

  module _ (f : formed_in h w ≡ true) where
    abbrev fate_here : Fate
    fate_here = fate_of (plain_options h.options) m.now m.kind draws extras

    many : length (recs w 0 h.pending) ≡ h.pending
    many = length-recs w 0 h.pending

    pub bad_kind : last_kind < m.kind → answer_in (send m draws extras) h w ≡ refused 24
    unfolding tests verdict
    bad_kind q =
        call_well h w (send m draws extras) f
        ∙ rw (first (leb m.kind last_kind) (leb m.sort last_sort) (lt-leb m.kind last_kind q))

    pub bad_sort : last_sort < m.sort → answer_in (send m draws extras) h w ≡ refused 24
    unfolding tests verdict
    bad_sort q =
        call_well h w (send m draws extras) f
        ∙ rw (second (leb m.kind last_kind) (leb m.sort last_sort) (lt-leb m.sort last_sort q))

    module _ (k : m.kind ≤ last_kind) (o : m.sort ≤ last_sort) where
      pub limit_met : sent_limit ≤ h.sent → answer_in (send m draws extras) h w ≡ refused 25
      unfolding tests verdict
      limit_met q =
          call_well h w (send m draws extras) f
          ∙ rw (le-leb m.kind last_kind k, le-leb m.sort last_sort o, le-ltb h.sent sent_limit q)

      pub limit_head : sent_limit ≤ h.sent → h ≡ head_after (send m draws extras) h w
      limit_head q = (unsent 25 (limit_met q)).0

      pub limit_records : sent_limit ≤ h.sent → w ≡ records_after (send m draws extras) h w
      limit_records q = (unsent 25 (limit_met q)).1.0

      module _ (q : h.sent < sent_limit) where
        pub fate_refuses : (n : ℕ) → fate_here ≡ refuse n → answer_in (send m draws extras) h w ≡ refused n
        unfolding tests verdict
        fate_refuses n e =
            call_well h w (send m draws extras) f
            ∙ rw (le-leb m.kind last_kind k, le-leb m.sort last_sort o, lt-ltb h.sent sent_limit q, e)

        passes_on : (g : Fate) → fate_here ≡ g → fate_answer g ≡ done
            → answer_in (send m draws extras) h w
            ≡ verdict (record { passes = leb (length (recs w 0 h.pending) + length (dues g)) capacity; number = 29 } ∷ [])
        unfolding tests verdict fate_answer
        passes_on (refuse n) e a = let z : ◌≡◌ {A = ℕ} 0 1 = cc in absurd (omega arith)
        passes_on lose e a =
            call_well h w (send m draws extras) f
            ∙ rw (le-leb m.kind last_kind k, le-leb m.sort last_sort o, lt-ltb h.sent sent_limit q, e)
        passes_on (once d x) e a =
            call_well h w (send m draws extras) f
            ∙ rw (le-leb m.kind last_kind k, le-leb m.sort last_sort o, lt-ltb h.sent sent_limit q, e)
        passes_on (twice c d x y) e a =
            call_well h w (send m draws extras) f
            ∙ rw (le-leb m.kind last_kind k, le-leb m.sort last_sort o, lt-ltb h.sent sent_limit q, e)

        module _ (g : Fate) (e : fate_here ≡ g) (a : fate_answer g ≡ done) where
          pub queue_full : capacity < h.pending + length (dues g) → answer_in (send m draws extras) h w ≡ refused 29
          unfolding verdict
          queue_full r =
              passes_on g e a ∙ rw (lt-leb (length (recs w 0 h.pending) + length (dues g)) capacity (omega (arith, many)))

          pub send_well : h.pending + length (dues g) ≤ capacity → answer_in (send m draws extras) h w ≡ done
          unfolding verdict
          send_well r =
              passes_on g e a ∙ rw (le-leb (length (recs w 0 h.pending) + length (dues g)) capacity (omega (arith, many)))

-- the same of a letter of the code, for any words
pub limit_decides : (h : Head) (m : Told) (draws extras : List ℕ) → m.kind ≤ last_kind → m.sort ≤ last_sort → sent_limit ≤ h.sent
    → (w : List ℕ) → formed_in h w ≡ true → answer_in (send (plain_letter m) draws extras) h w ≡ refused 25
limit_decides h m draws extras k o q w f = limit_met h w (plain_letter m) draws extras f k o q

-- ---- what a decided send tells

pub answer_of : (a : Answer) (d : Decided) → (sending a d).answer ≡ a
unfolding sending
answer_of done d = refl
answer_of (refused k) d = refl

-- of a send that is not refused, field by field
pub accepted_tells : (h : Head) (w : List ℕ) (m : Letter) (draws extras : List ℕ) (d : Decided) (l r n x : ℕ)
    → answer_in (send m draws extras) h w ≡ done → d ≡ decided (plain_options h.options) m.now m.kind draws extras
    → l ≡ lost_by d.fate → r ≡ replayed_by d.fate → n ≡ d.draws → x ≡ d.extras
    → record { answer = done; lost = l; replayed = r; draws = n; extras = x } ≡ send_tells m draws extras h w
unfolding sending
accepted_tells h w m draws extras d l r n x e t a b p q = rw (e, a, b, p, q) (ap (λ (y : Decided). sending done y) t)

-- what is decided is no refusal
pub accepts : (d : Decision) → fate_answer (decided_by d).fate ≡ done
unfolding fate_answer
accepts (Lost d) = refl
accepts (Once t l d x) = refl
accepts (Twice c t k l d x) = refl

-- a send raises no counter by more than two
pub record Few (f : Fate) : Type 0 where
  pub queued : length (dues f) ≤ 2
  pub lost : lost_by f ≤ 1
  pub replayed : replayed_by f ≤ 1
  pub delayed : delayed_by f ≤ 2

pub few : (f : Fate) → Few f
unfolding dues lost_by replayed_by delayed_by
few (refuse k) = record { queued = omega arith; lost = omega arith; replayed = omega arith; delayed = omega arith }
few lose = record { queued = omega arith; lost = omega arith; replayed = omega arith; delayed = omega arith }
few (once d x) = record { queued = omega arith; lost = omega arith; replayed = omega arith; delayed = omega (arith, bit_le x) }
few (twice c d x y) =
    record { queued = omega arith; lost = omega arith; replayed = omega arith; delayed = omega (arith, bit_le x, bit_le y) }

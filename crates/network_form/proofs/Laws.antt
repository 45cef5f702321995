-- What a reader expects of the calls, beside their equations: an accepted call on a well-formed network leaves a well-formed one, whose
-- counters balance; a take removes exactly what is due, in order; a send adds exactly the copies of its fate and changes no other
-- record; and a change of options changes the options alone. Assumes nothing.
use mathlib.Core.Path.{◌≡◌, refl, sym, ap, ◌∙◌}
use mathlib.Core.List.{List, Memᴰ as Member}
use mathlib.Core.Bool.{Bool, true, false}
use Prim.Native.Nat.{ℕ, ◌+◌, ◌≤◌, ◌<◌}
use native.Mathlib.Omega.{arith}
use borrow.Author.Tests.{le-leb, lt-leb}
use lib.Dec.{leb}
use lib.ListN.{length}
use Rattle.nights.specs.Record.{Record}
use Rattle.nights.specs.Net.{Options, Plain, dues, Letter, copies, Change, send, collect, choose, keep, is_due, is_later, insert_all, set_options, good_options, effect, well_formed}
use Rattle.nights.specs.Draws.{fate_of}
use Rattle.nights.specs.Tests.{Answer, done, refused}
use Rattle.nights.proofs.Order.{All, Ordered, all_map, keep_all, ordered_keep, unseen_all}
use Rattle.nights.proofs.Good.{copies_above}
use Rattle.nights.proofs.Exact.{in_keep, of_keep}
use Rattle.nights.proofs.Kept.{good, counted, call_keeps}
use Rattle.network_queue.specs.Packed.{array_size}
use Rattle.network_queue.proofs.Packing.{length-packed}
use Rattle.network_options.specs.Options.{plain_options}
use Rattle.network_form.specs.declared.Head.{Head}
use Rattle.network_form.specs.Forms.{plain_in, formed_in}
use Rattle.network_form.specs.Calls.{answer_in, head_after, records_after}
use Rattle.network_form.proofs.Maps.{plain_formed, good_in, in_order, counts, plain_back, formed_back}
use Rattle.network_form.proofs.Calling.{call_ill, call_well, head_follows, records_follow}

-- ---- an accepted call

module _ (c : Change) (h : Head) (w : List ℕ) (e : answer_in c h w ≡ done) where
  -- was made on a well-formed network
  pub was_formed : formed_in h w ≡ true
  was_formed = go (formed_in h w) refl
    where
      go : (b : Bool) → formed_in h w ≡ b → formed_in h w ≡ true
      go true p = p
      go false p = let q : ◌≡◌ {A = Answer} (refused 23) done = sym (call_ill h w c p) ∙ e in let z : ◌≡◌ {A = ℕ} 0 1 = cc in absurd (omega arith)

  plain_kept : well_formed (effect fate_of c (plain_in h w)) ≡ true
  plain_kept = call_keeps fate_of c (plain_in h w) (plain_formed h w was_formed) (sym (call_well h w c was_formed) ∙ e)

  -- and leaves one, whose plain form is the effect on the plain form, and whose options are good
  pub stays_formed : formed_in (head_after c h w) (records_after c h w) ≡ true
  stays_formed = rw (sym (head_follows h w c e), sym (records_follow h w c e)) (formed_back (effect fate_of c (plain_in h w)) plain_kept)

  pub plain_effect : plain_in (head_after c h w) (records_after c h w) ≡ effect fate_of c (plain_in h w)
  plain_effect = rw (sym (head_follows h w c e), sym (records_follow h w c e)) (plain_back (effect fate_of c (plain_in h w)) plain_kept)

  pub stays_good : good_options (plain_options (head_after c h w).options) ≡ true
  stays_good = good_in (head_after c h w) (records_after c h w) stays_formed

  pub stays_long : length (records_after c h w) ≡ array_size
  stays_long =
      ap length (sym (records_follow h w c e))
      ∙ length-packed (effect fate_of c (plain_in h w)).pending (counted (effect fate_of c (plain_in h w)) plain_kept).small

  -- sent + replayed = delivered + lost + pending
  pub balances : (head_after c h w).sent + (head_after c h w).replayed
      ≡ (head_after c h w).delivered + (head_after c h w).lost + (head_after c h w).pending
  balances = (counts (head_after c h w) (records_after c h w) stays_formed).even

-- ---- a take

module _ (now room : ℕ) (h : Head) (w : List ℕ) (e : answer_in (collect now room) h w ≡ done) where
  -- keeps those due later
  pub take_keeps : (plain_in (head_after (collect now room) h w) (records_after (collect now room) h w)).pending
      ≡ keep (is_later now) (plain_in h w).pending
  unfolding effect
  take_keeps = ap (λ (n : Plain). n.pending) (plain_effect (collect now room) h w e)

  -- gives the others in order: exactly the pending records with due ≤ now
  pub taken_in_order : Ordered (keep (is_due now) (plain_in h w).pending)
  taken_in_order = ordered_keep (is_due now) (plain_in h w).pending (in_order h w (was_formed (collect now room) h w e))

pub taken_all : (now : ℕ) (l : List Record) (r : Record) → Member r l → is_due now r ≡ true → Member r (keep (is_due now) l)
taken_all now l r m d = in_keep (is_due now) r l d m

pub taken_only : (now : ℕ) (l : List Record) (r : Record) → Member r (keep (is_due now) l) → (is_due now r ≡ true) × Member r l
taken_only now l r m = of_keep (is_due now) r l m

-- ---- a send

module _ (m : Letter) (draws extras : List ℕ) (h : Head) (w : List ℕ) (e : answer_in (send m draws extras) h w ≡ done) where
  abbrev dues_here : List ℕ
  dues_here = dues (fate_of (plain_options h.options) m.now m.kind draws extras)

  abbrev copies_of : List Record
  copies_of = copies m h.seq dues_here

  abbrev left : List Record
  left = (plain_in (head_after (send m draws extras) h w) (records_after (send m draws extras) h w)).pending

  -- puts the copies of its fate in their places
  pub send_adds : left ≡ insert_all copies_of (plain_in h w).pending
  unfolding effect
  send_adds = ap (λ (n : Plain). n.pending) (plain_effect (send m draws extras) h w e)

  -- and no other record changes: those numbered up to the old number are the old ones
  pub send_keeps : keep (λ (x : Record). leb x.seq h.seq) left ≡ (plain_in h w).pending
  send_keeps =
      let old : Record → Bool = λ (x : Record). leb x.seq h.seq in
      let g = good (plain_in h w) (plain_formed h w (was_formed (send m draws extras) h w e)) in
      let a : All (λ (x : Record). old x ≡ false) copies_of =
      all_map (λ (x : Record) (q : h.seq < x.seq). lt-leb x.seq h.seq q) copies_of (copies_above m h.seq h.seq dues_here (omega arith)) in
      let b : All (λ (x : Record). old x ≡ true) (plain_in h w).pending =
      all_map (λ (x : Record) (q : x.seq ≤ h.seq). le-leb x.seq h.seq q) (plain_in h w).pending g.numbered in
      ap (λ (l : List Record). keep old l) send_adds
      ∙ (unseen_all old copies_of (plain_in h w).pending a ∙ keep_all old (plain_in h w).pending b)

-- ---- a change of options

pub options_alone : (o : Options) (h : Head) (w : List ℕ) → answer_in (choose o) h w ≡ done
    → plain_in (head_after (choose o) h w) (records_after (choose o) h w) ≡ set_options o (plain_in h w)
unfolding effect
options_alone o h w e = plain_effect (choose o) h w e

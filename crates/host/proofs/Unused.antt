-- What stands behind the draws and the extras that a send used plays no part: other words there give the same fate, and the same rows. And
-- no more are used than were lent. Assumes nothing.
use Prim.Native.Nat.{ℕ, ◌+◌, ◌≤◌, ◌<◌}
use mathlib.Core.Path.{◌≡◌, refl, sym, ap, ◌∙◌}
use mathlib.Core.Bool.{Bool, true, false, cond}
use mathlib.Core.List.{List, [], ◌∷◌}
use native.Mathlib.Omega.{arith}
use borrow.Author.Tests.{lt-ltb, le-leb}
use lib.Dec.{ltb, eqb}
use lib.Ieee.{Float, binary64, of_bits, to_bits}
use lib.ListN.{length, take, get_or, length-take}
use lib.Seq.{get_or-take}
use Rattle.chance.specs.Probability.{is_one, is_zero, threshold_of}
use Rattle.std.specs.Prelude.{Option, Some, None}
use Rattle.chance.specs.Draw.{drawn as found, by_word, gen_bool, gen_bool_in_send}
use Rattle.chance.specs.declared.Draw.{Draw}
use Rattle.nights.specs.Net.{Options, lose, once, Letter, send, send_one, effect}
use Rattle.nights.specs.Draws.{Decided, is_faulted, extras_for, extra_at, due_at, is_late, alone, both, after_replay, after_loss, decided, fate_of}
use Rattle.nights.specs.Tests.{done, allowed, verdict, send_tests, tests}
use Rattle.nights.proofs.Run.{passed_tests}
use Rattle.network_form.specs.Forms.{plain_in}
use Rattle.network_form.specs.Calls.{form_test, answer_in, head_after, records_after}
use Rattle.network_form.proofs.Calling.{call_well}
use Rattle.network_form.proofs.Laws.{was_formed}
use Rattle.network_layout.specs.Layout.{head_in}
use Rattle.network_words.specs.Calls.{Rows, send_rows, send_told}
use Rattle.network_batch.proofs.Using.{modest}
use Rattle.host.specs.Calls.{sending, rows_of, draws_told, extras_told}
use Rattle.host.proofs.Deciding.{alone_by, both_by}
use Rattle.host.proofs.Refusing.{wrote_by, zero_is_done, head_done}

-- ---- two lists with the same first words

record Shared (d : ℕ) (l k : List ℕ) : Type 0 where
  first : d ≤ length l
  second : d ≤ length k
  same : (i : ℕ) → i < d → get_or k i 0 ≡ get_or l i 0

shared : (d : ℕ) (l k : List ℕ) → d ≤ length l → take d k ≡ take d l → Shared d l k
shared d l k h e =
    record {
      first = h;
      second = omega (arith, length-take d l, length-take d k, ap length e);
      same = λ i p. sym (get_or-take d k i 0 p) ∙ (ap (λ (z : List ℕ). get_or z i 0) e ∙ get_or-take d l i 0 p);
    }

-- ---- a draw that finds its word among them

abbrev Within : ℕ → Option Draw → Type 0
Within d (Some r) = r.next ≤ d
Within d None = ⊥

abbrev Onward : ℕ → Option Draw → Type 0
Onward from (Some r) = from ≤ r.next
Onward from None = Unit {0}

module _ (p : Float) (draws others : List ℕ) (place : ℕ) where
  onward : Onward place (gen_bool_in_send p draws place)
  unfolding by_word gen_bool gen_bool_in_send
  onward = go (is_zero p) (is_one p) (ltb place (length draws)) (ltb (get_or draws place 0) (threshold_of (to_bits binary64 p)))
    where
      go : (z o b c : Bool) → Onward place (cond z (found false place) (cond o (found true place) (cond b (found c (place + 1)) None)))
      go true o b c = omega arith
      go false true b c = omega arith
      go false false true c = omega arith
      go false false false c = tt

  module _ (d : ℕ) (s : Shared d draws others) where
    word_same : Within d (by_word p draws place) → by_word p others place ≡ by_word p draws place
    unfolding by_word
    word_same w = go (ltb place (length draws)) (ltb (get_or draws place 0) (threshold_of (to_bits binary64 p))) refl w
      where
        to : Bool → Option Draw
        to b = found b (place + 1)

        here : place < d → by_word p others place ≡ to (ltb (get_or draws place 0) (threshold_of (to_bits binary64 p)))
        here h = rw (lt-ltb place (length others) (omega (arith, s.second)), s.same place h)

        go : (b c : Bool) → ltb (get_or draws place 0) (threshold_of (to_bits binary64 p)) ≡ c → Within d (cond b (to c) None)
            → by_word p others place ≡ cond b (to c) None
        go true c q h = here (omega arith) ∙ ap to q
        go false c q h = absurd h

    draw_same : Within d (gen_bool_in_send p draws place) → gen_bool_in_send p others place ≡ gen_bool_in_send p draws place
    unfolding gen_bool gen_bool_in_send
    draw_same w = go (is_zero p) (is_one p) w
      where
        go : (z o : Bool) → Within d (cond z (found false place) (cond o (found true place) (by_word p draws place)))
            → cond z (found false place) (cond o (found true place) (by_word p others place)) ≡ cond z (found false place) (cond o (found true place) (by_word p draws place))
        go true o h = refl
        go false true h = refl
        go false false h = word_same h

-- ---- the copies, by their extras

-- what a decided send that is not refused used
record Uses (r : Decided) (d x : ℕ) : Type 0 where
  draws : r.draws ≡ d
  extras : r.extras ≡ x

refused_uses : {A : Type 0} → false ≡ true → A
refused_uses e = let z : ◌≡◌ {A = ℕ} 0 1 = cc in absurd (omega arith)

module _ (o : Options) (now : ℕ) (extras others : List ℕ) where
  abbrev Used : (d x : ℕ) → Decided → Type 0
  Used d x r = allowed r.fate ≡ true → Uses r d x

  alone_uses : (drawn : ℕ) → Used drawn (extras_for o 1) (alone o now extras drawn)
  alone_uses drawn = alone_by (Used drawn (extras_for o 1)) o now extras drawn refused_uses refused_uses (λ e. record { draws = refl; extras = refl })

  both_uses : (drawn : ℕ) → Used drawn (extras_for o 2) (both o now extras drawn)
  both_uses drawn = both_by (Used drawn (extras_for o 2)) o now extras drawn refused_uses refused_uses (λ e. record { draws = refl; extras = refl })

  module _ (x : ℕ) (s : Shared x extras others) where
    extra_same : (k i : ℕ) → i < k → extras_for o k ≤ x → extra_at o others i ≡ extra_at o extras i
    unfolding extra_at extras_for
    extra_same k i h u = go (eqb o.mean o.least) u
      where
        go : (b : Bool) → cond b 0 k ≤ x → cond b 0 (get_or others i 0) ≡ cond b 0 (get_or extras i 0)
        go true v = refl
        go false v = s.same i (omega arith)

    alone_same : (drawn : ℕ) → extras_for o 1 ≤ x → alone o now others drawn ≡ alone o now extras drawn
    unfolding alone due_at is_late
    alone_same drawn u =
        rw (
          le-leb (extras_for o 1) (length others) (omega (arith, s.second)),
          le-leb (extras_for o 1) (length extras) (omega (arith, s.first)),
          extra_same 1 0 (omega arith) u,
        )

    both_same : (drawn : ℕ) → extras_for o 2 ≤ x → both o now others drawn ≡ both o now extras drawn
    unfolding both due_at is_late
    both_same drawn u =
        rw (
          le-leb (extras_for o 2) (length others) (omega (arith, s.second)),
          le-leb (extras_for o 2) (length extras) (omega (arith, s.first)),
          extra_same 2 0 (omega arith) u,
          extra_same 2 1 (omega arith) u,
        )

-- ---- the whole

module _ (o : Options) (now d x : ℕ) (draws other_draws extras other_extras : List ℕ) (sd : Shared d draws other_draws)
    (sx : Shared x extras other_extras) where
  replay_same : (r : Option Draw) → let t = after_replay o now extras r in
      allowed t.fate ≡ true → t.draws ≤ d → t.extras ≤ x → Within d r × (after_replay o now other_extras r ≡ t)
  unfolding after_replay
  replay_same (Some r) = go r.yes
    where
      go : (b : Bool) → let t = cond b (both o now extras r.next) (alone o now extras r.next) in
          allowed t.fate ≡ true → t.draws ≤ d → t.extras ≤ x
          → (r.next ≤ d) × (cond b (both o now other_extras r.next) (alone o now other_extras r.next) ≡ t)
      go true e h k =
          let u = both_uses o now extras other_extras r.next e in
          (omega (arith, u.draws), both_same o now extras other_extras x sx r.next (omega (arith, u.extras)))
      go false e h k =
          let u = alone_uses o now extras other_extras r.next e in
          (omega (arith, u.draws), alone_same o now extras other_extras x sx r.next (omega (arith, u.extras)))
  replay_same None = λ e h k. let z : ◌≡◌ {A = ℕ} 0 1 = cc in absurd (omega arith)

  between : (place : ℕ) (r : Option Draw) → Onward place r → Within d r → place ≤ d
  between place (Some k) a b = omega arith
  between place None a b = absurd b

  loss_same : (r : Option Draw) → let t = after_loss o now draws extras r in
      allowed t.fate ≡ true → t.draws ≤ d → t.extras ≤ x → Within d r × (after_loss o now other_draws other_extras r ≡ t)
  unfolding after_loss
  loss_same (Some r) = go r.yes
    where
      p : Float
      p = of_bits binary64 o.replay

      to : Bool → (draws extras : List ℕ) → Decided
      to b l m = cond b (record { fate = lose; draws = r.next; extras = 0 }) (after_replay o now m (gen_bool_in_send (of_bits binary64 o.replay) l r.next))

      go : (b : Bool) → let t = to b draws extras in
          allowed t.fate ≡ true → t.draws ≤ d → t.extras ≤ x → (r.next ≤ d) × (to b other_draws other_extras ≡ t)
      go true e h k = (h, refl)
      go false e h k =
          let q = replay_same (gen_bool_in_send p draws r.next) e h k in (
            between r.next (gen_bool_in_send p draws r.next) (onward p draws other_draws r.next) q.0,
            ap (λ (z : Option Draw). after_replay o now other_extras z) (draw_same p draws other_draws r.next d sd q.0) ∙ q.1,
          )
  loss_same None = λ e h k. let z : ◌≡◌ {A = ℕ} 0 1 = cc in absurd (omega arith)

  decided_same : (kind : ℕ) → let t = decided o now kind draws extras in
      allowed t.fate ≡ true → t.draws ≤ d → t.extras ≤ x → decided o now kind other_draws other_extras ≡ t
  unfolding decided
  decided_same kind e h k = go (is_faulted o kind) e h k
    where
      to : Bool → (draws extras : List ℕ) → Decided
      to b l m =
          cond b (after_loss o now l m (gen_bool_in_send (of_bits binary64 o.loss) l 0)) (record { fate = once now false; draws = 0; extras = 0 })

      go : (b : Bool) → let t = to b draws extras in
          allowed t.fate ≡ true → t.draws ≤ d → t.extras ≤ x → to b other_draws other_extras ≡ t
      go true e h k =
          let p : Float = of_bits binary64 o.loss in
          let r = loss_same (gen_bool_in_send p draws 0) e h k in
          ap (λ (z : Option Draw). after_loss o now other_draws other_extras z) (draw_same p draws other_draws 0 d sd r.0) ∙ r.1
      go false e h k = refl

-- other words behind those that a fate used, where it is no refusal, give the same fate and use as many
pub unused_draws : (o : Options) (now kind : ℕ) (draws draws' extras extras' : List ℕ) → let t = decided o now kind draws extras in
    allowed t.fate ≡ true → take t.draws draws' ≡ take t.draws draws → take t.extras extras' ≡ take t.extras extras
    → decided o now kind draws' extras' ≡ t
unused_draws o now kind draws draws' extras extras' e p q =
    let t = decided o now kind draws extras in
    let m = modest o now draws extras kind in
    let sd = shared t.draws draws draws' m.draws_within p in
    let sx = shared t.extras extras extras' m.extras_within q in
    decided_same o now t.draws t.extras draws draws' extras extras' sd sx kind e (omega arith) (omega arith)

-- ---- over words

module _ (h r : List ℕ) (m : Letter) where
  abbrev sent : (draws extras told : List ℕ) → Rows
  sent draws extras told = send_rows h r m draws extras told

  abbrev drawn : (draws extras : List ℕ) → Decided
  drawn draws extras = decided (plain_in (head_in h) r).options m.now m.kind draws extras

  module _ (draws extras told : List ℕ) (e : (sent draws extras told).number ≡ 0) where
    is_done : answer_in (send m draws extras) (head_in h) r ≡ done
    is_done = head_done h _ (zero_is_done (rows_of h r) (sending m draws extras told) e)

    tells : (sent draws extras told).told ≡ send_told (drawn draws extras)
    tells =
        ap (λ (t : Rows). t.told)
        (wrote_by _ _ _ (zero_is_done (rows_of h r) (sending m draws extras told) e))

    -- an accepted send used no more draws and extras than were lent
    pub used_are_lent : (draws_told (sent draws extras told) ≤ length draws) × (extras_told (sent draws extras told) ≤ length extras)
    used_are_lent =
        let u = modest (plain_in (head_in h) r).options m.now draws extras m.kind in (
          omega (arith, ap (λ (l : List ℕ). get_or l 2 0) tells, u.draws_within),
          omega (arith, ap (λ (l : List ℕ). get_or l 3 0) tells, u.extras_within),
        )

    fate_allowed : allowed (drawn draws extras).fate ≡ true
    fate_allowed =
        let c = send m draws extras in
        (passed_tests fate_of c (plain_in (head_in h) r) [] (sym (call_well (head_in h) r c (was_formed c (head_in h) r is_done)) ∙ is_done)).0.fated

  -- two sends of one fate leave the same rows
  module _ (draws draws' extras extras' told : List ℕ) (e : drawn draws' extras' ≡ drawn draws extras) where
    answer_same : answer_in (send m draws' extras') (head_in h) r ≡ answer_in (send m draws extras) (head_in h) r
    unfolding answer_in tests
    answer_same = ap (λ (d : Decided). verdict (form_test (head_in h) r ∷ send_tests m d.fate (plain_in (head_in h) r) [])) e

    effect_same : effect fate_of (send m draws' extras') (plain_in (head_in h) r) ≡ effect fate_of (send m draws extras) (plain_in (head_in h) r)
    unfolding effect
    effect_same = ap (λ (d : Decided). send_one m d.fate (plain_in (head_in h) r)) e

    head_same : head_after (send m draws' extras') (head_in h) r ≡ head_after (send m draws extras) (head_in h) r
    unfolding head_after
    head_same = rw (answer_same, effect_same)

    records_same : records_after (send m draws' extras') (head_in h) r ≡ records_after (send m draws extras) (head_in h) r
    unfolding records_after
    records_same = rw (answer_same, effect_same)

    rows_same : sent draws' extras' told ≡ sent draws extras told
    rows_same = rw (answer_same, head_same, records_same, e)

  -- so an accepted send's rows are the same, whatever stands behind the draws and the extras that it tells of
  pub unused_rows : (draws draws' extras extras' told : List ℕ) → let t = sent draws extras told in
      t.number ≡ 0 → take (draws_told t) draws' ≡ take (draws_told t) draws → take (extras_told t) extras' ≡ take (extras_told t) extras
      → sent draws' extras' told ≡ t
  unused_rows draws draws' extras extras' told e p q =
      let d : draws_told (sent draws extras told) ≡ (drawn draws extras).draws = ap (λ (l : List ℕ). get_or l 2 0) (tells draws extras told e) in
      let x : extras_told (sent draws extras told) ≡ (drawn draws extras).extras = ap (λ (l : List ℕ). get_or l 3 0) (tells draws extras told e) in
      rows_same draws draws' extras extras' told
      (unused_draws (plain_in (head_in h) r).options m.now m.kind draws draws' extras extras' (fate_allowed draws extras told e) (rw d at p) (rw x at q))

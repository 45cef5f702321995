-- The words that one exported call leaves are in form for the next: an answer of 0 leaves a well-formed network, whose plain form is the
-- call's effect on the plain form before, and any other answer leaves every row. So from a fresh network on, the plain form is the effect
-- of the accepted calls, one after the other, and no call answers 23. Assumes nothing.
use Prim.Native.Nat.{ℕ, ◌*◌}
use mathlib.Core.Path.{◌≡◌, refl, sym, ap, ◌∙◌, subst}
use mathlib.Core.Bool.{Bool, true, false, cond}
use mathlib.Core.List.{List, [], ◌∷◌}
use native.Mathlib.Omega.{arith}
use borrow.Author.Tests.{eqb-true, eqb-false}
use lib.Dec.{leb, eqb}
use lib.ListN.{length}
use Rattle.nights.specs.Record.{record_size}
use Rattle.nights.specs.Net.{Options, Plain, fresh, Letter, Change, send, collect, choose, effect, good_options, well_formed}
use Rattle.nights.specs.Draws.{fate_of}
use Rattle.nights.specs.Tests.{Answer, done, refused, verdict, tests}
use Rattle.nights.proofs.Kept.{options_good, counted, fresh_formed}
use Rattle.network_queue.specs.Packed.{array_size, packed}
use Rattle.network_queue.proofs.Packing.{length-packed}
use Rattle.network_options.specs.Options.{plain_options}
use Rattle.network_form.specs.declared.Head.{Head}
use Rattle.network_form.specs.Forms.{plain_in, head_of, formed_in}
use Rattle.network_form.specs.Calls.{answer_in, head_after, records_after, form_answer, list_answer}
use Rattle.network_form.proofs.Maps.{plain_formed, plain_back, formed_back, words_are}
use Rattle.network_form.proofs.Calling.{form_well, call_well, head_follows, records_follow}
use Rattle.network_form.proofs.Laws.{was_formed, stays_formed, plain_effect}
use Rattle.network_layout.specs.Layout.{head_in, head_words, if_head}
use Rattle.network_words.specs.Calls.{Rows, new_rows, option_rows, send_rows, take_rows, count_rows, list_rows}
use Rattle.network_layout.proofs.Heads.{a_head}
use Rattle.network_words.proofs.InPlace.{plain_back as options-plain}
use Rattle.host.specs.Calls.{Exported, sending, taking, choosing, change_of, rows_of, on_rows, answer_on, after_calls, accepted_of, effects, InForm}
use Rattle.network_layout.proofs.ReadBack.{read_back, fits_back, of_words}
use Rattle.network_words.proofs.Fresh.{new_is_fresh}
use Rattle.host.proofs.Numbers.{tests_behind}
use Rattle.host.proofs.Refusing.{wrote_by, number_by, done-zero, zero_is_done, done_is_zero, refused_leaves, refused_number, head_done}

-- ---- words in form

-- the words of a well-formed plain form
module _ (n : Plain) (f : well_formed n ≡ true) where
  options_back : good_options (plain_options (head_of n).options) ≡ true
  options_back = rw (options-plain n.options (options_good n f)) (options_good n f)

  head_back : head_in (head_words (head_of n)) ≡ head_of n
  head_back = read_back (head_of n) (of_words n.options)

  words_in_form : InForm (head_words (head_of n)) (packed n.pending) n
  words_in_form =
      record {
        head = refl;
        records = length-packed n.pending (counted n f).small;
        fits = fits_back (head_of n) options_back;
        formed = ap (λ (h : Head). formed_in h (packed n.pending)) head_back ∙ formed_back n f;
        plain = ap (λ (h : Head). plain_in h (packed n.pending)) head_back ∙ plain_back n f;
        well = f;
      }

-- those that an accepted call leaves
module _ (c : Change) (h : Head) (w : List ℕ) (e : answer_in c h w ≡ done) where
  effect_well : well_formed (effect fate_of c (plain_in h w)) ≡ true
  effect_well = rw (← plain_effect c h w e) (plain_formed (head_after c h w) (records_after c h w) (stays_formed c h w e))

  pub after_in_form : InForm (head_words (head_after c h w)) (records_after c h w) (effect fate_of c (plain_in h w))
  after_in_form = rw (← head_follows h w c e, ← records_follow h w c e) (words_in_form (effect fate_of c (plain_in h w)) effect_well)

  -- its head is read back
  pub head_again : head_in (head_words (head_after c h w)) ≡ head_after c h w
  head_again = subst (λ (x : Head). head_in (head_words x) ≡ x) (head_follows h w c e) (head_back (effect fate_of c (plain_in h w)) effect_well)

-- a change of options leaves the very records
same_records : (o : Options) (h : Head) (w : List ℕ) → length w ≡ array_size → answer_in (choose o) h w ≡ done → records_after (choose o) h w ≡ w
unfolding effect
same_records o h w l e = sym (records_follow h w (choose o) e) ∙ words_are h w (was_formed (choose o) h w e) l

-- an answer of 0 leaves words in form, of the effect on the plain form before
module _ (h r : List ℕ) where
  pub sent_in_form : (m : Letter) (draws extras told : List ℕ) → let t = send_rows h r m draws extras told in
      t.number ≡ 0 → InForm t.head t.records (effect fate_of (send m draws extras) (plain_in (head_in h) r))
  sent_in_form m draws extras told e =
      let d = zero_is_done (rows_of h r) (sending m draws extras told) e in
      rw (wrote_by _ _ _ d) (after_in_form (send m draws extras) (head_in h) r (head_done h _ d))

  pub taken_in_form : (tick : ℕ) (out told : List ℕ) → let t = take_rows h r tick out told in
      t.number ≡ 0 → InForm t.head t.records (effect fate_of (collect tick (length out)) (plain_in (head_in h) r))
  taken_in_form tick out told e =
      let d = zero_is_done (rows_of h r) (taking tick out told) e in
      rw (wrote_by _ _ _ d) (after_in_form (collect tick (length out)) (head_in h) r (head_done h _ d))

  pub chosen_in_form : length r ≡ array_size → (o : Options) → let t = option_rows h r o in
      t.number ≡ 0 → InForm t.head t.records (effect fate_of (choose o) (plain_in (head_in h) r))
  chosen_in_form l o e =
      let d = zero_is_done (rows_of h r) (choosing o) e in
      let a = head_done h (answer_in (choose o) (head_in h) r) d in
      rw (wrote_by _ _ _ d)
      (subst (λ (w : List ℕ). InForm (head_words (head_after (choose o) (head_in h) r)) w (effect fate_of (choose o) (plain_in (head_in h) r)))
      (same_records o (head_in h) r l a) (after_in_form (choose o) (head_in h) r a))

pub answered_in_form : (t : Rows) → length t.records ≡ array_size → (c : Exported) → (on_rows t c).number ≡ 0
    → InForm (on_rows t c).head (on_rows t c).records (effect fate_of (change_of c) (plain_in (head_in t.head) t.records))
answered_in_form t l (sending m draws extras told) e = sent_in_form t.head t.records m draws extras told e
answered_in_form t l (taking tick out told) e = taken_in_form t.head t.records tick out told e
answered_in_form t l (choosing o) e = chosen_in_form t.head t.records l o e

-- ---- no call on words in form answers 23

module _ (h r : List ℕ) (n : Plain) (f : InForm h r n) where
  formed_answer : (c : Exported) → answer_on (rows_of h r) c ≡ verdict (tests fate_of (change_of c) (plain_in (head_in h) r) [])
  formed_answer c = a_head h (answer_in (change_of c) (head_in h) r) f.fits ∙ call_well (head_in h) r (change_of c) f.formed

  pub never_23 : (c : Exported) → (on_rows (rows_of h r) c).number ≡ 23 → ⊥
  never_23 c e = go (answer_on (rows_of h r) c) refl
    where
      go : (a : Answer) → answer_on (rows_of h r) c ≡ a → ⊥
      go done p = let z = done_is_zero (rows_of h r) c p in omega arith
      go (refused k) p =
          (tests_behind (plain_in (head_in h) r) (change_of c) k (sym (formed_answer c) ∙ p)).formed (sym (refused_number (rows_of h r) c k p) ∙ e)

  pub always_counted : (told : List ℕ) → (count_rows h r told).number ≡ 0
  always_counted told = done-zero _ _ _ refl (a_head h (form_answer (head_in h) r) f.fits ∙ form_well (head_in h) r f.formed)

  pub never_23_listed : (out told : List ℕ) → (list_rows h r out told).number ≡ 23 → ⊥
  unfolding list_answer verdict
  never_23_listed out told e = go (leb (record_size * length (plain_in (head_in h) r).pending) (length out)) refl
    where
      listed : (b : Bool) → leb (record_size * length (plain_in (head_in h) r).pending) (length out) ≡ b
          → if_head h (list_answer (head_in h) r (length out)) ≡ cond b done (refused 30)
      listed b p = a_head h (list_answer (head_in h) r (length out)) f.fits ∙ rw (f.formed, p)

      go : (b : Bool) → leb (record_size * length (plain_in (head_in h) r).pending) (length out) ≡ b → ⊥
      go true p = let z : (list_rows h r out told).number ≡ 0 = done-zero _ _ _ refl (listed true p) in omega arith
      go false p = let z : (list_rows h r out told).number ≡ 30 = number_by _ _ _ 30 (listed false p) in omega arith

-- ---- a fresh network, and calls from there on

pub new_in_form : (h r : List ℕ) (o : Options) → good_options o ≡ true → InForm (new_rows h r o).head (new_rows h r o).records (fresh o)
new_in_form h r o g = rw (new_is_fresh h r o g) (words_in_form (fresh o) (fresh_formed o g))

next_in_form : (t : Rows) (n : Plain) (c : Exported) → InForm t.head t.records n → (b : Bool) → eqb (on_rows t c).number 0 ≡ b
    → (later : List Change) (left : Plain → Type 0)
    → ((m : Plain) → InForm (on_rows t c).head (on_rows t c).records m → left (effects m later))
    → left (effects n (cond b (change_of c ∷ later) later))
unfolding effects
next_in_form t n c f true p later left more =
    more (effect fate_of (change_of c) n)
    (subst (λ (m : Plain). InForm (on_rows t c).head (on_rows t c).records (effect fate_of (change_of c) m)) f.plain
    (answered_in_form t f.records c (eqb-true (on_rows t c).number 0 p)))
next_in_form t n c f false p later left more =
    let u = refused_leaves t c (eqb-false (on_rows t c).number 0 p) in
    more n (rw (u.head, u.records) f)

run_in_form : (t : Rows) (n : Plain) → InForm t.head t.records n → (cs : List Exported)
    → InForm (after_calls t cs).head (after_calls t cs).records (effects n (accepted_of t cs))
unfolding after_calls accepted_of effects
run_in_form t n f [] = f
run_in_form t n f (c ∷ cs) =
    next_in_form t n c f (eqb (on_rows t c).number 0) refl (accepted_of (on_rows t c) cs)
    (λ (m : Plain). InForm (after_calls (on_rows t c) cs).head (after_calls (on_rows t c) cs).records m)
    (λ (m : Plain) (g : InForm (on_rows t c).head (on_rows t c).records m). run_in_form (on_rows t c) m g cs)

-- from a fresh network of good options, over any words, the words are in form after any calls, and their plain form is the effect of the
-- accepted ones, one after the other
pub run_of_calls : (h r : List ℕ) (o : Options) → good_options o ≡ true → (cs : List Exported)
    → InForm (after_calls (new_rows h r o) cs).head (after_calls (new_rows h r o) cs).records (effects (fresh o) (accepted_of (new_rows h r o) cs))
run_of_calls h r o g cs = run_in_form (new_rows h r o) (fresh o) (new_in_form h r o g) cs

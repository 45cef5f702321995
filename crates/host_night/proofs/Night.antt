-- Demand 3 of lent words. At each time the host holds the words of a state of the plain form's run, since words that were written are
-- read as what they were written from; so the claim of that run holds of the words. Assumes nothing.
use Prim.Native.Nat.{ℕ, zero, suc, ◌≤◌, ◌<◌}
use mathlib.Core.Path.{◌≡◌, refl, sym, ap, ap₂, ◌∙◌, subst}
use mathlib.Core.Bool.{Bool, true, false, cond}
use mathlib.Core.List.{List, [], ◌∷◌, ◌++◌, map-append}
use native.Mathlib.Omega.{arith}
use borrow.Author.Tests.{leb-true}
use lib.Dec.{leb}
use lib.ListN.{length, drop, length-drop}
use Rattle.nights.specs.Net.{Options, Plain, Change, send, collect, choose, fresh, effect, good_options, well_formed}
use Rattle.nights.specs.Draws.{fate_of}
use Rattle.nights.specs.Tests.{Answer, done, refused, verdict, option_tests, if_done}
use Rattle.nights.specs.Journal.{Call, change, rewind, mark, State, Step, header, change_answer, journaled, do_change, do_mark, step}
use Rattle.nights.specs.Standing.{Entry, struck, standing, reached}
use Rattle.nights.specs.Rule.{Told}
use Rattle.nights.specs.Claim.{start, run, log, ran, log_of, Claim}
use Rattle.nights.proofs.Kept.{fresh_formed}
use Rattle.nights.proofs.Steps.{refused_stays, step_keeps}
use Rattle.nights.proofs.Claim.{claim_of_the_rules}
use Rattle.network_queue.specs.Packed.{packed}
use Rattle.network_options.specs.Options.{perfect_options}
use Rattle.network_options.proofs.OptionForms.{good_done}
use Rattle.network_form.specs.declared.Head.{Head}
use Rattle.network_form.specs.Forms.{plain_in, head_of}
use Rattle.network_form.proofs.Maps.{good_in, plain_back, formed_back}
use Rattle.network.specs.declared.Network.{Network}
use Rattle.journal_calls.specs.Calls.{answer_of, network_after, words_after, mark_answer, mark_words}
use Rattle.journal.specs.Night.{Held}
use Rattle.journal.proofs.Night.{Same, settled_same, marked_same}
use Rattle.journal.proofs.NeverZero.{never_zero}
use Rattle.network_layout.specs.Layout.{head_fits, head_in, head_words, answer_code}
use Rattle.network_words.specs.Calls.{Rows, by_answer, new_rows}
use Rattle.network_layout.proofs.Heads.{a_head}
use Rattle.network_words.proofs.InPlace.{number_done}
use Rattle.network_layout.proofs.ReadBack.{read_back, fits_back, of_words}
use Rattle.network_words.proofs.Fresh.{new_is_fresh}
use Rattle.network.specs.Forms.{network_of}
use Rattle.journal_words.specs.Calls.{network_in, journal_answer, journal_records}
use Rattle.host_night.specs.Night.{Lent, Turn, Written, Chosen, Marked, Called, Night, end_of, calls_of, answered, entries_of, plain_lent, evening, Demand3}

-- what the host holds is the words of a state of the plain form
record Lies (l : Lent) (s : State) : Type 0 where
  head : l.head ≡ head_words (head_of s.net)
  records : l.records ≡ packed s.net.pending
  journal : l.journal ≡ s.words
  formed : well_formed s.net ≡ true

-- ---- reading

-- the network that is read from the words, and the journal: what the theorem of the code speaks of
abbrev held_of : Lent → Held
held_of l = record { network = network_in l.head l.records; words = l.journal }

module _ (l : Lent) (s : State) (e : Lies l s) where
  head_read : head_in l.head ≡ head_of s.net
  head_read = ap head_in e.head ∙ read_back (head_of s.net) (of_words s.net.options)

  same : Same (held_of l) s
  same =
      record {
        network = ap₂ (λ (h : Head) (r : List ℕ). network_of h r) head_read e.records;
        words = e.journal;
        formed = e.formed;
      }

  plain_read : plain_lent l ≡ s.net
  plain_read = ap₂ (λ (h : Head) (r : List ℕ). plain_in h r) head_read e.records ∙ plain_back s.net e.formed

  fitting : head_fits l.head ≡ true
  fitting =
      ap head_fits e.head
      ∙ fits_back (head_of s.net) (good_in (head_of s.net) (packed s.net.pending) (formed_back s.net e.formed))

  -- ---- one call

  -- what the call inside leaves, by its own contract
  module _ (c : Call) where
    abbrev inside : Held
    inside =
        record {
          network = network_after c (network_in l.head l.records) l.journal;
          words = words_after c (network_in l.head l.records) l.journal;
        }

    stepped : (answer_of c (network_in l.head l.records) l.journal ≡ (step fate_of s c).answer)
        × Same inside (step fate_of s c).state
    stepped = settled_same (held_of l) s same c _ inside (record { answers = refl; network = refl; words = refl })

    answer_is : journal_answer c l.head l.records l.journal ≡ (step fate_of s c).answer
    answer_is = a_head l.head _ fitting ∙ stepped.0

    -- each lent row after a step that is done or refused
    rows : (a : Answer) → (step fate_of s c).answer ≡ a → (after : Lent)
        → after.head ≡ if_done a (head_words (head_of (step fate_of s c).state.net)) l.head
        → after.records ≡ if_done a (packed (step fate_of s c).state.net.pending) l.records
        → after.journal ≡ if_done a (step fate_of s c).state.words l.journal
        → Lies after (step fate_of s c).state
    unfolding if_done
    rows done p after x y z = record { head = x; records = y; journal = z; formed = step_keeps fate_of s e.formed c }
    rows (refused k) p after x y z =
        rw (refused_stays fate_of s c k p)
        (record { head = x ∙ e.head; records = y ∙ e.records; journal = z ∙ e.journal; formed = e.formed })

    written_lies : (number : ℕ) (after : Lent) → Written l c number after
        → (number ≡ answer_code (step fate_of s c).answer) × Lies after (step fate_of s c).state
    written_lies number after m = (
      m.answers ∙ ap answer_code answer_is,
      rows (step fate_of s c).answer refl after
          (m.head ∙ ap₂ (λ (a : Answer) (x : Network). if_done a (head_words x.head) l.head) answer_is stepped.1.network)
          (m.records ∙ ap₂ (λ (a : Answer) (x : Network). if_done a x.words l.records) answer_is stepped.1.network)
          (m.journal ∙ ap₂ (λ (a : Answer) (w : List ℕ). if_done a w l.journal) answer_is stepped.1.words),
    )

  -- a change of options leaves what is pending, and so the records
  same_pending : (o : Options) → (step fate_of s (change (choose o))).state.net.pending ≡ s.net.pending
  unfolding step do_change if_done effect
  same_pending o = go (change_answer fate_of (choose o) s)
    where
      go : (a : Answer) → (if_done a (journaled fate_of (choose o) s) s).net.pending ≡ s.net.pending
      go done = refl
      go (refused k) = refl

  chosen_lies : (o : Options) (number : ℕ) (after : Lent) → Chosen l (change (choose o)) number after
      → (number ≡ answer_code (step fate_of s (change (choose o))).answer)
      × Lies after (step fate_of s (change (choose o))).state
  chosen_lies o number after m =
      let c : Call = change (choose o) in
      let written : Lent =
      record { head = after.head; records = journal_records c l.head l.records l.journal; journal = after.journal } in
      let r = written_lies c number written (record { answers = m.answers; head = m.head; records = refl; journal = m.journal }) in (
        r.0,
        record {
          head = r.1.head;
          records = m.records ∙ (e.records ∙ ap packed (sym (same_pending o)));
          journal = r.1.journal;
          formed = r.1.formed;
        },
      )

  marked_lies : (number : ℕ) (after : Lent) → Marked l number after
      → (number ≡ answer_code (step fate_of s mark).answer) × Lies after (step fate_of s mark).state
  marked_lies number after m =
      let r =
      marked_same (held_of l) s same _ (record { network = (held_of l).network; words = mark_words l.journal })
      (record { answers = refl; network = refl; words = refl }) in (
        m.answers ∙ ap answer_code r.0,
        record {
          head = m.head ∙ (e.head ∙ ap head_words (sym head_read ∙ ap (λ (x : Network). x.head) r.1.network));
          records = m.records ∙ ap (λ (x : Network). x.words) r.1.network;
          journal = m.journal ∙ r.1.words;
          formed = r.1.formed;
        },
      )

called_lies : (l : Lent) (s : State) → Lies l s → (c : Call) (number : ℕ) (after : Lent) → Called l c number after
    → (number ≡ answer_code (step fate_of s c).answer) × Lies after (step fate_of s c).state
unfolding Called
called_lies l s e (change (send m draws extras)) number after h = written_lies l s e (change (send m draws extras)) number after h
called_lies l s e (change (collect now room)) number after h = written_lies l s e (change (collect now room)) number after h
called_lies l s e (change (choose o)) number after h = chosen_lies l s e o number after h
called_lies l s e (rewind k) number after h = written_lies l s e (rewind k) number after h
called_lies l s e mark number after h = marked_lies l s e number after h

-- the words of one state are one
one_lent : (l m : Lent) (s : State) → Lies l s → Lies m s → l ≡ m
one_lent l m s x y =
    λ i. record {
      head = (x.head ∙ sym y.head) i;
      records = (x.records ∙ sym y.records) i;
      journal = (x.journal ∙ sym y.journal) i;
    }

-- the number that a call returns tells its answer, for none is refused with 0
tells : (a : Answer) → (a ≡ refused 0 → ⊥) → answered (answer_code a) ≡ a
unfolding answered
tells done h = refl
tells (refused zero) h = absurd (h refl)
tells (refused (suc k)) h = refl

-- ---- the whole night

night_lies : (l : Lent) (s : State) (ts : List Turn) → Lies l s → Night l ts
    → Lies (end_of l ts) (run fate_of s (calls_of ts)) × (entries_of ts ≡ log fate_of s (calls_of ts))
unfolding Night end_of run log
night_lies l s [] e n = (e, refl)
night_lies l s (t ∷ ts) e n =
    let m = called_lies l s e t.call t.number t.after n.0 in
    let a : answered t.number ≡ (step fate_of s t.call).answer = ap answered m.0 ∙ tells _ (never_zero s t.call) in
    let r = night_lies t.after (step fate_of s t.call).state ts m.1 n.1 in
    (r.0, ap₂ (λ (p : Answer) (es : List Entry). record { call = t.call; answer = p } ∷ es) a r.1)

-- a part of it from its start on is a night
first_part : (l : Lent) (before later : List Turn) → Night l (before ++ later) → Night l before
unfolding Night
first_part l [] later n = tt
first_part l (t ∷ before) later n = (n.0, first_part t.after before later n.1)

-- where its calls are cut in two, so is it
record Cut (ts : List Turn) (calls : List Call) : Type 0 where
  before : List Turn
  later : List Turn
  whole : ts ≡ before ++ later
  made : calls_of before ≡ calls

cut : (ts : List Turn) (a b : List Call) → calls_of ts ≡ a ++ b → Cut ts a
cut ts [] b e = record { before = []; later = ts; whole = refl; made = refl }
cut [] (c ∷ a) b e = let z : ◌≡◌ {A = ℕ} 0 1 = cc in absurd (omega arith)
cut (t ∷ ts) (c ∷ a) b e =
    let x : t.call ≡ c = cc in
    let y : calls_of ts ≡ a ++ b = cc in
    let r = cut ts a b y in
    record {
      before = t ∷ r.before;
      later = r.later;
      whole = ap (λ (l : List Turn). t ∷ l) r.whole;
      made = ap₂ (λ (d : Call) (l : List Call). d ∷ l) x r.made;
    }

-- ---- the evening

new_number : (a : Answer) (wrote came : Rows) → wrote.number ≡ 0 → (by_answer a wrote came).number ≡ answer_code a
unfolding by_answer
new_number done wrote came e = e
new_number (refused k) wrote came e = refl

-- a call that is done had good options
new_good : (h r : List ℕ) (o : Options) → (new_rows h r o).number ≡ 0 → good_options o ≡ true
new_good h r o e = good_done o (number_done o (sym (new_number (verdict (option_tests o [])) _ _ refl) ∙ e))

-- a mark that is done found two words, and wrote 0 and 2 there
mark-done : (j : List ℕ) → answer_code (mark_answer j) ≡ 0 → (mark_words j ≡ 0 ∷ 2 ∷ drop 2 j) × (2 ≤ length j)
unfolding step do_mark
mark-done j = go (leb 2 (length j)) refl
  where
    to : Bool → Step
    to b =
        cond b (record { state = record { net = fresh perfect_options; words = header 0 2 j }; answer = done })
        (record { state = record { net = fresh perfect_options; words = j }; answer = refused 32 })

    go : (b : Bool) → leb 2 (length j) ≡ b → answer_code (to b).answer ≡ 0
        → ((to b).state.words ≡ 0 ∷ 2 ∷ drop 2 j) × (2 ≤ length j)
    go true p e = (refl, leb-true 2 (length j) p)
    go false p e = absurd (omega arith)

module _ (h r j : List ℕ) (o : Options) (new : (new_rows h r o).number ≡ 0) (marked : answer_code (mark_answer j) ≡ 0) where
  abbrev first : Lent
  first = evening h r j o

  -- the words of the journal behind its header
  abbrev rest : List ℕ
  rest = drop 2 j

  first_lies : Lies first (start o rest)
  first_lies =
      record {
        head = ap (λ (x : Rows). x.head) (new_is_fresh h r o (new_good h r o new));
        records = ap (λ (x : Rows). x.records) (new_is_fresh h r o (new_good h r o new));
        journal = (mark-done j marked).0;
        formed = fresh_formed o (new_good h r o new);
      }

  -- ---- the theorem

  module _ (ts : List Turn) (night : Night first ts) where
    abbrev last : Lent
    last = end_of first ts

    abbrev end : State
    end = ran fate_of o rest (calls_of ts)

    lies : Lies last end
    lies = (night_lies first (start o rest) ts first_lies night).0

    logs : entries_of ts ≡ log_of fate_of o rest (calls_of ts)
    logs = (night_lies first (start o rest) ts first_lies night).1

    claim : Claim fate_of o rest (calls_of ts)
    claim = claim_of_the_rules o (new_good h r o new) rest (calls_of ts)

    plain_is : plain_lent last ≡ end.net
    plain_is = plain_read last end lies

    -- a time of the night
    module _ (before later : List Turn) (e : ts ≡ before ++ later) where
      night_then : Night first before
      night_then = first_part first before later (subst (λ (l : List Turn). Night first l) e night)

      lies_then : Lies (end_of first before) (ran fate_of o rest (calls_of before))
      lies_then = (night_lies first (start o rest) before first_lies night_then).0

      logs_then : entries_of before ≡ log_of fate_of o rest (calls_of before)
      logs_then = (night_lies first (start o rest) before first_lies night_then).1

    -- a rewind as far as the last mark goes back to the time that the claim names
    went_back : (k : ℕ) → k ≤ reached 0 (entries_of ts)
        → (before : List Turn) × (later : List Turn) × (ts ≡ before ++ later)
        × (struck [] (entries_of before) ≡ drop k (struck [] (entries_of ts)))
        × ((number : ℕ) (after : Lent) → Called last (rewind k) number after
        → (number ≡ 0) × (after.head ≡ (end_of first before).head) × (after.records ≡ (end_of first before).records))
    went_back k far =
        let g = claim.goes_back k (subst (λ (es : List Entry). k ≤ reached 0 es) logs far) in
        let x : Cut ts g.0.before = cut ts g.0.before g.0.later g.0.whole in
        let b : Lies (end_of first x.before) (ran fate_of o rest (calls_of x.before)) =
        lies_then x.before x.later x.whole in
        let n : (step fate_of end (rewind k)).state.net ≡ (ran fate_of o rest (calls_of x.before)).net =
        g.2 ∙ ap (λ (cs : List Call). (ran fate_of o rest cs).net) (sym x.made) in (
          x.before,
          x.later,
          x.whole,
          ap (λ (es : List Entry). struck [] es) (logs_then x.before x.later x.whole)
              ∙ (ap (λ (cs : List Call). struck [] (log_of fate_of o rest cs)) x.made
              ∙ (g.0.there ∙ ap (λ (es : List Entry). drop k (struck [] es)) (sym logs))),
          λ (number : ℕ) (after : Lent) (c : Called last (rewind k) number after).
              let m = called_lies last end lies (rewind k) number after c in (
                m.0 ∙ ap answer_code g.1,
                m.1.head ∙ (ap (λ (y : Plain). head_words (head_of y)) n ∙ sym b.head),
                m.1.records ∙ (ap (λ (y : Plain). packed y.pending) n ∙ sym b.records),
              ),
        )

    -- and one past it is refused
    stopped : (k : ℕ) → reached 0 (entries_of ts) < k → (number : ℕ) (after : Lent) → Called last (rewind k) number after
        → (number ≡ 33) × (after ≡ last)
    stopped k far number after c =
        let x = claim.stops k (subst (λ (es : List Entry). reached 0 es < k) logs far) in
        let m = called_lies last end lies (rewind k) number after c in (
          m.0 ∙ ap (λ (p : Step). answer_code p.answer) x,
          one_lent after last end (subst (λ (p : Step). Lies after p.state) x m.1) lies,
        )

    -- what stood at a mark stands; a mark is always done here, for the journal has two words
    stands_on : (before later : List Turn) (t : Turn) → ts ≡ before ++ (t ∷ later) → t.call ≡ mark
        → (more : List Change) × (standing (entries_of ts) ≡ standing (entries_of before) ++ more)
    stands_on before later t e called =
        let cs : calls_of ts ≡ calls_of before ++ (mark ∷ calls_of later) =
        ap calls_of e
        ∙ (map-append (λ (x : Turn). x.call) before (t ∷ later)
        ∙ ap (λ (c : Call). calls_of before ++ (c ∷ calls_of later)) called) in
        let x = claim.marks (calls_of before) (calls_of later) cs in
        (x.0, ap standing logs ∙ (x.1 ∙ ap (λ (es : List Entry). standing es ++ x.0) (sym (logs_then before (t ∷ later) e))))

pub host_demand_3 : (h r j : List ℕ) (o : Options) → (new_rows h r o).number ≡ 0 → answer_code (mark_answer j) ≡ 0
    → (ts : List Turn) → Night (evening h r j o) ts → Demand3 h r j o ts
host_demand_3 h r j o new marked ts night =
    let l = lies h r j o new marked ts night in
    let c = claim h r j o new marked ts night in
    let e = logs h r j o new marked ts night in
    let p = plain_is h r j o new marked ts night in
    record {
      told =
          subst (λ (n : Plain). Told fate_of o (standing (entries_of ts)) n) (sym p)
          (subst (λ (es : List Entry). Told fate_of o (standing es) (ran fate_of o (drop 2 j) (calls_of ts)).net) (sym e) c.told);
      whole = (
        l.head ∙ ap (λ (n : Plain). head_words (head_of n)) (sym p),
        l.records ∙ ap (λ (n : Plain). packed n.pending) (sym p),
        ap length l.journal ∙ (c.size ∙ omega (arith, length-drop 2 j, (mark-done j marked).1)),
      );
      rewinds = went_back h r j o new marked ts night;
      stops = stopped h r j o new marked ts night;
      marks =
          λ (before later : List Turn) (t : Turn) (q : ts ≡ before ++ (t ∷ later)) (called : t.call ≡ mark) (zeroed : t.number ≡ 0).
          stands_on h r j o new marked ts night before later t q called;
    }

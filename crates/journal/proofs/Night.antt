-- Demand 3: a night of the code is the plain form's run, call by call, and so its network is what the standing list says. Assumes
-- nothing.
use Prim.Native.Nat.{ℕ}
use mathlib.Core.Path.{◌≡◌, refl, sym, ap, ap₂, ◌∙◌, subst}
use mathlib.Core.Bool.{Bool, true, false, cond}
use mathlib.Core.List.{List, [], ◌∷◌}
use lib.Dec.{leb}
use lib.ListN.{length}
use Rattle.nights.specs.Net.{Options, Plain, fresh, good_options, well_formed}
use Rattle.nights.specs.Draws.{fate_of}
use Rattle.nights.specs.Tests.{Answer, done, refused, if_done}
use Rattle.nights.specs.Journal.{Call, change, rewind, mark, State, Step, header, do_mark, step}
use Rattle.nights.specs.Standing.{Entry, standing}
use Rattle.nights.specs.Rule.{Told}
use Rattle.nights.specs.Claim.{start, run, log, ran, Claim}
use Rattle.nights.proofs.Kept.{fresh_formed}
use Rattle.nights.proofs.Steps.{refused_stays, step_keeps}
use Rattle.nights.proofs.Claim.{claim_of_the_rules}
use Rattle.network.specs.declared.Network.{Network}
use Rattle.network_options.specs.Options.{perfect_options}
use Rattle.network.specs.Forms.{plain_of, struct_of, is_formed}
use Rattle.network.specs.Calls.{first_network}
use Rattle.network.proofs.Structs.{plain_of_struct, struct_formed}
use Rattle.network_options.proofs.OptionForms.{tests_pass}
use Rattle.journal_calls.specs.Calls.{state_of, step_of, network_after}
use Rattle.journal.specs.Night.{Held, Turn, Settled, Marked, Happened, Night, end_of, calls_of, entries_of, evening, Demand3}

-- what the host holds is a state of the plain form: its network is the struct of a well-formed one
pub record Same (h : Held) (s : State) : Type 0 where
  pub network : h.network ≡ struct_of s.net
  pub words : h.words ≡ s.words
  pub formed : well_formed s.net ≡ true

-- ---- one call

-- a mark's step is the same on any network
mark_any : (n m : Plain) (w : List ℕ)
    → ((step fate_of (record { net = n; words = w }) mark).answer ≡ (step fate_of (record { net = m; words = w }) mark).answer)
    × ((step fate_of (record { net = n; words = w }) mark).state.words ≡ (step fate_of (record { net = m; words = w }) mark).state.words)
    × ((step fate_of (record { net = n; words = w }) mark).state.net ≡ n)
unfolding step do_mark
mark_any n m w = go (leb 2 (length w))
  where
    to : Bool → Plain → Step
    to b x =
        cond b (record { state = record { net = x; words = header 0 2 w }; answer = done })
        (record { state = record { net = x; words = w }; answer = refused 32 })

    go : (b : Bool) → ((to b n).answer ≡ (to b m).answer) × ((to b n).state.words ≡ (to b m).state.words) × ((to b n).state.net ≡ n)
    go true = (refl, refl, refl)
    go false = (refl, refl, refl)

module _ (h : Held) (s : State) (e : Same h s) where
  -- the code's step is the plain form's, since the network is well formed
  on_struct : (c : Call) → step_of c (struct_of s.net) s.words ≡ step fate_of (state_of (struct_of s.net) s.words) c
  unfolding step_of
  on_struct c = rw (struct_formed s.net e.formed)

  is_step : (c : Call) → step_of c h.network h.words ≡ step fate_of s c
  is_step c =
      ap₂ (λ (n : Network) (w : List ℕ). step_of c n w) e.network e.words
      ∙ (on_struct c
      ∙ ap (λ (n : Plain). step fate_of (record { net = n; words = s.words }) c) (plain_of_struct s.net e.formed))

  -- the struct that a done or a refused step leaves
  left : (c : Call) (a : Answer) → (step fate_of s c).answer ≡ a
      → if_done a (struct_of (step fate_of s c).state.net) (struct_of s.net) ≡ struct_of (step fate_of s c).state.net
  unfolding if_done
  left c done q = refl
  left c (refused k) q = ap (λ (x : State). struct_of x.net) (sym (refused_stays fate_of s c k q))

  pub settled_same : (c : Call) (a : Answer) (after : Held) → Settled h c a after
      → (a ≡ (step fate_of s c).answer) × Same after (step fate_of s c).state
  settled_same c a after m =
      let n : network_after c h.network h.words
      ≡ if_done (step fate_of s c).answer (struct_of (step fate_of s c).state.net) (struct_of s.net) =
      ap₂ (λ (p : Step) (x : Network). if_done p.answer (struct_of p.state.net) x) (is_step c) e.network in (
        m.answers ∙ ap (λ (p : Step). p.answer) (is_step c),
        record {
          network = m.network ∙ (n ∙ left c (step fate_of s c).answer refl);
          words = m.words ∙ ap (λ (p : Step). p.state.words) (is_step c);
          formed = step_keeps fate_of s e.formed c;
        },
      )

  pub marked_same : (a : Answer) (after : Held) → Marked h a after
      → (a ≡ (step fate_of s mark).answer) × Same after (step fate_of s mark).state
  marked_same a after m =
      let x = mark_any s.net (fresh perfect_options) h.words in
      let j : record { net = s.net; words = h.words } ≡ s = ap (λ (w : List ℕ). record { net = s.net; words = w }) e.words in
      let n : (step fate_of s mark).state.net ≡ s.net = ap (λ (y : State). (step fate_of y mark).state.net) (sym j) ∙ x.2 in (
        m.answers ∙ (sym x.0 ∙ ap (λ (y : State). (step fate_of y mark).answer) j),
        record {
          network = m.network ∙ (e.network ∙ ap struct_of (sym n));
          words = m.words ∙ (sym x.1 ∙ ap (λ (y : State). (step fate_of y mark).state.words) j);
          formed = step_keeps fate_of s e.formed mark;
        },
      )

  happened_same : (c : Call) (a : Answer) (after : Held) → Happened h c a after
      → (a ≡ (step fate_of s c).answer) × Same after (step fate_of s c).state
  unfolding Happened
  happened_same (change c) a after m = settled_same (change c) a after m
  happened_same (rewind k) a after m = settled_same (rewind k) a after m
  happened_same mark a after m = marked_same a after m

-- ---- the whole night

night_same : (h : Held) (s : State) (ts : List Turn) → Same h s → Night h ts
    → Same (end_of h ts) (run fate_of s (calls_of ts)) × (entries_of ts ≡ log fate_of s (calls_of ts))
unfolding Night end_of run log
night_same h s [] e n = (e, refl)
night_same h s (t ∷ ts) e n =
    let m = happened_same h s e t.call t.answer t.after n.0 in
    let r = night_same t.after (step fate_of s t.call).state ts m.1 n.1 in
    (r.0, ap₂ (λ (p : Answer) (es : List Entry). record { call = t.call; answer = p } ∷ es) m.0 r.1)

-- a fresh network of good options is the plain form's fresh network
first_is : (o : Options) → good_options o ≡ true → first_network o ≡ struct_of (fresh o)
unfolding first_network if_done
first_is o good = rw (tests_pass o good)

evening_same : (o : Options) (rest : List ℕ) → good_options o ≡ true → Same (evening o rest) (start o rest)
evening_same o rest good = record { network = first_is o good; words = refl; formed = fresh_formed o good }

pub demand_3 : (o : Options) → good_options o ≡ true → (rest : List ℕ) (ts : List Turn) → Night (evening o rest) ts
    → Demand3 o rest ts
demand_3 o good rest ts night =
    let r = night_same (evening o rest) (start o rest) ts (evening_same o rest good) night in
    let s : State = ran fate_of o rest (calls_of ts) in
    let p : plain_of (end_of (evening o rest) ts).network ≡ s.net =
    ap plain_of r.0.network ∙ plain_of_struct s.net r.0.formed in
    let c : Claim fate_of o rest (calls_of ts) = claim_of_the_rules o good rest (calls_of ts) in
    record {
      told =
          subst (λ (n : Plain). Told fate_of o (standing (entries_of ts)) n) (sym p)
          (subst (λ (es : List Entry). Told fate_of o (standing es) s.net) (sym r.1) c.told);
      whole = r.0.network ∙ ap struct_of (sym p);
      formed = ap is_formed r.0.network ∙ struct_formed s.net r.0.formed;
      answers = r.1;
      same = ap₂ (λ (n : Plain) (w : List ℕ). record { net = n; words = w }) p r.0.words;
      claim = c;
    }

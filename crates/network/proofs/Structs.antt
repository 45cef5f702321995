-- The laws of a head and its words, said of the struct that holds both. Assumes nothing.
use mathlib.Core.Path.{◌≡◌}
use mathlib.Core.List.{[]}
use mathlib.Core.Bool.{true, false}
use Prim.Native.Nat.{ℕ, ◌*◌, ◌≤◌, ◌<◌}
use lib.ListN.{length}
use Rattle.nights.specs.Record.{record_size}
use Rattle.nights.specs.Net.{capacity, Plain, Change, collect, good_options, effect, well_formed}
use Rattle.nights.specs.Draws.{fate_of}
use Rattle.nights.specs.Tests.{done, refused, verdict, tests}
use Rattle.network_queue.specs.Packed.{array_size}
use Rattle.network_options.specs.Options.{plain_options}
use Rattle.network_options.proofs.OptionForms.{Held}
use Rattle.network_form.specs.Calls.{form_answer}
use Rattle.network_form.proofs.Maps as Maps
use Rattle.network_form.proofs.Calling as Calling
use Rattle.network_form.proofs.Laws as Laws
use Rattle.network_take.specs.Takes.{due_records}
use Rattle.network_take.proofs.Taking as Taking
use Rattle.network.specs.declared.Network.{Network}
use Rattle.network.specs.Forms.{plain_of, struct_of, is_formed}
use Rattle.network.specs.Calls.{call_answer, call_network}

-- ---- a well-formed network

module _ (s : Network) (f : is_formed s ≡ true) where
  pub plain_formed : well_formed (plain_of s) ≡ true
  plain_formed = Maps.plain_formed s.head s.words f

  pub small : s.head.pending ≤ capacity
  small = Maps.small s.head s.words f

  -- its options are good
  pub formed_options : good_options (plain_options s.head.options) ≡ true
  formed_options = Maps.good_in s.head s.words f

  -- the struct of its plain form is that struct
  pub struct_of_plain : Held s.head.options → length s.words ≡ array_size → struct_of (plain_of s) ≡ s
  struct_of_plain held long =
      λ i. record { head = Maps.head_is s.head s.words f held i; words = Maps.words_are s.head s.words f long i }

-- the plain form of the struct of a well-formed plain form is that plain form, and the struct is well formed
pub plain_of_struct : (n : Plain) → well_formed n ≡ true → plain_of (struct_of n) ≡ n
plain_of_struct n f = Maps.plain_back n f

pub struct_formed : (n : Plain) → well_formed n ≡ true → is_formed (struct_of n) ≡ true
struct_formed n f = Maps.formed_back n f

-- ---- a call

pub form_ill : (s : Network) → is_formed s ≡ false → form_answer s.head s.words ≡ refused 23
form_ill s e = Calling.form_ill s.head s.words e

pub form_well : (s : Network) → is_formed s ≡ true → form_answer s.head s.words ≡ done
form_well s e = Calling.form_well s.head s.words e

module _ (s : Network) (c : Change) where
  pub call_ill : is_formed s ≡ false → call_answer c s ≡ refused 23
  call_ill e = Calling.call_ill s.head s.words c e

  pub call_well : is_formed s ≡ true → call_answer c s ≡ verdict (tests fate_of c (plain_of s) [])
  call_well e = Calling.call_well s.head s.words c e

  -- a refusal hands back the very struct, and an accepted call the struct of what follows
  pub stays : (k : ℕ) → call_answer c s ≡ refused k → s ≡ call_network c s
  stays k e =
      λ i. record { head = Calling.head_stays s.head s.words c k e i; words = Calling.records_stay s.head s.words c k e i }

  pub follows : call_answer c s ≡ done → struct_of (effect fate_of c (plain_of s)) ≡ call_network c s
  follows e =
      λ i. record { head = Calling.head_follows s.head s.words c e i; words = Calling.records_follow s.head s.words c e i }

-- an accepted call was made on a well-formed network
pub was_formed : (c : Change) (s : Network) → call_answer c s ≡ done → is_formed s ≡ true
was_formed c s e = Laws.was_formed c s.head s.words e

-- ---- a take

module _ (s : Network) (f : is_formed s ≡ true) (tick room k : ℕ) (e : k ≡ length (due_records tick s.head s.words)) where
  pub take_short : room < k * record_size → call_answer (collect tick room) s ≡ refused 30
  take_short q = Taking.take_short s.head s.words f tick room k e q

  pub take_well : k * record_size ≤ room → call_answer (collect tick room) s ≡ done
  take_well q = Taking.take_well s.head s.words f tick room k e q

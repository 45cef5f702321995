-- A network of the code and its plain form, by those of its head and its words. Assumes nothing.
use Rattle.std.specs.Prelude.{ℕ, Bool, List}
use Rattle.nights.specs.Net.{Plain}
use Rattle.network_queue.specs.Packed.{packed}
use Rattle.network_form.specs.declared.Head.{Head}
use Rattle.network_form.specs.Forms.{plain_in, head_of, formed_in}
use Rattle.network.specs.declared.Network.{Network}

-- the network of a head and its words
abbrev pub network_of : Head → List ℕ → Network
network_of h w = record { head = h; words = w }

abbrev pub plain_of : Network → Plain
plain_of s = plain_in s.head s.words

abbrev pub struct_of : Plain → Network
struct_of n = record { head = head_of n; words = packed n.pending }

abbrev pub is_formed : Network → Bool
is_formed s = formed_in s.head s.words

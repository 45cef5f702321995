-- The words of a new network are those of a fresh plain form. Assumes nothing.
use Prim.Native.Nat.{ℕ}
use mathlib.Core.Path.{◌≡◌, sym, ap}
use mathlib.Core.Bool.{true}
use mathlib.Core.List.{List, []}
use lib.ListN.{replicate}
use Rattle.nights.specs.Record.{record_words}
use Rattle.nights.specs.Net.{Options, fresh, good_options}
use Rattle.network_queue.specs.Packed.{array_size, packed}
use Rattle.network_options.proofs.OptionForms.{tests_pass}
use Rattle.network_form.specs.Forms.{head_of}
use Rattle.network_layout.specs.Layout.{option_words, head_words}
use Rattle.network_words.specs.Calls.{by_answer, new_rows}
use Rattle.network_words.proofs.InPlace.{plain_back}

-- what new leaves of good options: the words of a fresh network's plain form
pub new_is_fresh : (h r : List ℕ) (o : Options) → good_options o ≡ true
    → new_rows h r o
    ≡ record { number = 0; head = head_words (head_of (fresh o)); records = packed (fresh o).pending; out = []; told = [] }
unfolding by_answer packed record_words
new_is_fresh h r o g =
    rw (tests_pass o g)
    (ap (λ (p : Options). record { number = 0; head = option_words p (replicate 7 0); records = replicate array_size 0; out = []; told = [] })
    (sym (plain_back o g)))

-- A report that is written lies within the bytes that it left: what a caller hands on is there. Assumes nothing.
use mathlib.Core.Bool.{Bool, true, false, cond}
use mathlib.Core.List.{List, ◌++◌}
use mathlib.Core.Path.{◌≡◌, sym, ◌∙◌}
use Prim.Native.Nat.{ℕ, ◌≤◌, ◌<◌}
use native.Mathlib.Omega.{arith}
use borrow.Author.Tests.{lt-leb}
use lib.Dec.{leb}
use lib.ListN.{length, drop, length-append}
use Rattle.script_report.specs.Report.{report_text, enough, report_of, bytes_after}
use Rattle.std.specs.Prelude.{Option, Some, None}

by_room : (b : Bool) (t rest out : List ℕ) (n : ℕ) → ◌≡◌ {A = Option ℕ} (cond b (Some (length t)) None) (Some n) → n ≤ length (cond b (t ++ rest) out)
by_room true t rest out n e = let z : length t ≡ n = cc in omega (arith, length-append t rest)
by_room false t rest out n e = absurd (cc)

written_within : (text out : List ℕ) (n : ℕ) → report_of text (length out) ≡ Some n → n ≤ length (bytes_after text out)
unfolding report_of bytes_after
written_within text out n e = by_room (leb enough (length out)) (report_text text) (drop (length (report_text text)) out) out n e

-- the same by a call's own words: its answer, and the bytes that it left
pub handed : (text out last : List ℕ) (n : ℕ) (r : Option ℕ) → r ≡ report_of text (length out) → last ≡ bytes_after text out → r ≡ Some n → n ≤ length last
handed text out last n r e f g = rw f (written_within text out n (sym e ∙ g))

-- nothing is written where there is no room
module _ (text out : List ℕ) (h : length out < enough) where
  pub no_room : None ≡ report_of text (length out)
  unfolding report_of
  no_room = rw (lt-leb enough (length out) h)

  pub bytes_stay : out ≡ bytes_after text out
  unfolding bytes_after
  bytes_stay = rw (lt-leb enough (length out) h)

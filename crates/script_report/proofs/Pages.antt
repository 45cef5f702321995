-- One piece written behind the other is one piece, and what room it leaves. Assumes nothing.
use mathlib.Core.List.{List, ◌++◌}
use mathlib.Core.Path.{ap, ◌∙◌}
use Prim.Native.Nat.{ℕ, ◌+◌, ◌≤◌}
use native.Mathlib.Omega.{arith}
use lib.ListN.{length}
use Rattle.script_report.specs.Pages.{HasRoom, Adds}
use Rattle.script_report.specs.declared.page.Page.{Page}
use Rattle.script_report.proofs.Laying.{length-laid, laid_two}

pub added : {p q r : Page} {a b : List ℕ} → HasRoom p (length a) → Adds p q a → Adds q r b → Adds p r (a ++ b)
added {p} {q} {r} {a} {b} h f g =
    let t = laid_two p.out.now p.at a b h q.at r.at q.out.now r.out.now f.place f.bytes g.place g.bytes in
    record { same = g.same ∙ f.same; place = t.0; bytes = t.1 }

-- of room for m bytes some for n is left behind at most k
pub room_left : {p q : Page} {a : List ℕ} (m k n : ℕ) → HasRoom p m → k + n ≤ m → length a ≤ k → Adds p q a → HasRoom q n
room_left {p} {q} {a} m k n h e l f = omega (arith, f.place, ap length f.bytes, length-laid p.out.now p.at a (omega arith))

-- A page of bytes that is being written: what is behind what stands, and the room that is left. Assumes nothing.
use Rattle.std.specs.Prelude.{List, ℕ, ◌+◌, ◌≤◌, ◌≡◌, length}
use Rattle.basis.specs.Basis.{laid}
use Rattle.script_report.specs.declared.page.Page.{Page}

-- so many bytes more have room
abbrev pub HasRoom : Page → ℕ → Type 0
HasRoom p n = p.at + n ≤ length p.out.now

-- a text was written behind what stood; what is lent is the same
pub record Adds (p q : Page) (text : List ℕ) : Type 0 where
  pub same : q.out.ghost_name ≡ p.out.ghost_name
  pub place : q.at ≡ p.at + length text
  pub bytes : q.out.now ≡ laid p.out.now p.at text

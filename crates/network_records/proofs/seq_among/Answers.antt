-- `network_records::seq_among` meets its contract. Assumes nothing.
use native.Mathlib.Omega.{arith}
use Rattle.network_records.proofs.Numbers.{seek_on, seek_finds, seek_ends}
use Rattle.network_records.proofs.seq_among.Goals as goal

pub returns-then-w-i : goal.returns-then-w-i
returns-then-w-i c = let a = c.args in
    let l = c.loop-i in
    seek_finds a.w.now a.from a.n a.seq l.i l.invariant (omega arith) c.if-w-i.true

pub loop-i-preserved : goal.loop-i-preserved
loop-i-preserved c = let a = c.args in
    let l = c.loop-i in
    seek_on a.w.now a.from a.n a.seq l.i l.invariant (omega arith) c.if-w-i.false

pub returns : goal.returns
returns c = let a = c.args in
    let l = c.loop-i in
    seek_ends a.w.now a.from a.n a.seq l.i l.invariant (omega arith)

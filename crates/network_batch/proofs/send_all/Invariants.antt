-- What is left to send, from what has been sent, leaves what the whole leaves. Assumes nothing.
use Rattle.std.proofs.Common.{◌≡◌, true, ◌≤◌, ◌-◌, length}
use Rattle.network_form.specs.Forms.{formed_in}
use Rattle.network_batch.specs.Ticks.{sends_from}
use Rattle.network_batch.proofs.Undoing.{Older}
use Rattle.network_batch.proofs.send_all.Given as goal

abbrev pub invariant-loop-place : goal.invariant-loop-place
invariant-loop-place l = record {
  formed : formed_in l.me l.records ≡ true;
  drawn : l.drawn ≤ length l.draws;
  added : l.added ≤ length l.extras;
  ran : sends_from l.sends l.draws l.extras l.count 0 0 0 l.fn.head l.fn.records
      ≡ sends_from l.sends l.draws l.extras (l.count - l.place) l.place l.drawn l.added l.me l.records;
  older : Older l.fn.head l.fn.records l.me l.records;
}

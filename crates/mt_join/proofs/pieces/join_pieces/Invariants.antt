-- The run has the pieces of all bytes that were read, each of them full.
use Rattle.std.proofs.Common.{◌≡◌, ◌≤◌, ◌-◌, ◌*◌, false, length}
use Rattle.mt_base.specs.Counts.{NeverFell}
use Rattle.mt_join.specs.Filling.{IsWithin}
use Rattle.mt_join.proofs.Joinings.{Begun}
use Rattle.mt_join.proofs.Runs.{Keeps}
use Rattle.mt_join.proofs.pieces.join_pieces.Given as goal

abbrev pub invariant-pieces : goal.invariant-pieces
invariant-pieces g l =
    let d = g.D.Disk in
    record {
      size : length l.buffer ≡ 65537;
      log_is : l.log ≡ l.fn.log;
      within : IsWithin l.parts l.cursor;
      begun : Begun l.parts l.cursor l.sum (d.seen l.fn.disk) (d.seen l.disk) l.fn.log l.fn.run l.run l.total l.first;
      full : length begun.bytes ≡ 65536 * length begun.pieces;
      kept : Keeps d.seen d.may_leave d.moment d.left_since l.fn.disk l.disk l.fn.log l.run;
      order : l.fn.log.closed ≡ false → l.fn.log.gate ≤ l.run.next;
      faults : NeverFell (d.faults l.fn.disk) (d.faults l.disk);
    }

abbrev pub decreases-pieces : goal.decreases-pieces
decreases-pieces g l = l.fn.log.limit - l.run.next

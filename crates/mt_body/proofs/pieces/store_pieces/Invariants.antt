-- The run has the pieces of all bytes that were read, each of them full.
use Rattle.std.proofs.Common.{◌≡◌, ◌≤◌, ◌-◌, ◌*◌, [], false, length}
use Rattle.std.specs.Option.{ForSome}
use Rattle.mt_base.specs.Counts.{NeverFell}
use Rattle.mt_disk.specs.CrashModel.{LeavesOnly}
use Rattle.mt_log.specs.LogImage.{IsBeforeOrAfter}
use Rattle.mt_log.specs.LogState.{OthersStay, told}
use Rattle.mt_log.specs.RunState.{Running}
use Rattle.mt_body.specs.Storing.{Begun}
use Rattle.mt_body.proofs.pieces.store_pieces.Given as goal

abbrev pub invariant-pieces : goal.invariant-pieces
invariant-pieces g l =
    let d = g.D.Disk in
    let s = g.S.Source in
    record {
      size : length l.buffer ≡ 65537;
      log_is : l.log ≡ l.fn.log;
      begun : Begun (s.left l.fn.source) (s.left l.source) l.sum (d.seen l.fn.disk) (d.seen l.disk) l.fn.log l.fn.run l.run l.total l.first;
      full : length begun.bytes ≡ 65536 * length begun.pieces;
      running : Running d.seen d.may_leave l.disk l.fn.log l.run;
      order : l.fn.log.closed ≡ false → l.fn.log.gate ≤ l.run.next;
      same : told (d.seen l.disk) ≡ told (d.seen l.fn.disk);
      others : OthersStay l.fn.log.file (d.seen l.fn.disk) (d.seen l.disk);
      any_moment : ForSome (d.seen l.fn.disk) (λ files. LeavesOnly d.moment d.left_since l.fn.disk l.disk (IsBeforeOrAfter files []));
      faults : NeverFell (d.faults l.fn.disk) (d.faults l.disk);
      reads : NeverFell (s.read_faults l.fn.source) (s.read_faults l.source);
      stays : s.source_stays l.fn.source l.source;
    }

abbrev pub decreases-pieces : goal.decreases-pieces
decreases-pieces g l = l.fn.log.limit - l.run.next

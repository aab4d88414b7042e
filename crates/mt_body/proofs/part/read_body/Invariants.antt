-- What was read so far stands at the front.
use Rattle.std.proofs.Common.{◌≡◌, ◌≤◌, ◌-◌, length, take, drop}
use Rattle.std.specs.Option.{ForSome}
use Rattle.mt_base.specs.Counts.{NeverFell}
use Rattle.mt_disk.specs.CrashModel.{OnlyRead}
use Rattle.mt_log.specs.LogState.{told}
use Rattle.mt_body.specs.Stored.{bytes_of}
use Rattle.mt_body.proofs.part.read_body.Given as goal

abbrev pub invariant-loop-done : goal.invariant-loop-done
invariant-loop-done g l =
    let d = g.D.Disk in
    record {
      within : l.done ≤ length l.into;
      size : length l.into ≡ length l.fn.into;
      bytes : ForSome (told (d.seen l.fn.disk)) (λ ps. take l.done l.into ≡ take l.done (drop l.at (bytes_of ps l.body)));
      read : OnlyRead d.seen d.may_leave d.moment d.left_since l.fn.disk l.disk;
      faults : NeverFell (d.faults l.fn.disk) (d.faults l.disk);
      stays : d.stays l.fn.disk l.disk;
    }

abbrev pub decreases-loop-done : goal.decreases-loop-done
decreases-loop-done g l = length l.into - l.done

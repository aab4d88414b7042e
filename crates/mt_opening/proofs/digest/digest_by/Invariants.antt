-- The bytes so far were read and digested.
use Rattle.std.proofs.Common.{◌≡◌, ◌≤◌, ◌-◌, length, take}
use Rattle.std.specs.Option.{ForSome}
use Rattle.md5.specs.Md5.{Holds}
use Rattle.mt_base.specs.Counts.{NeverFell}
use Rattle.mt_disk.specs.CrashModel.{OnlyRead}
use Rattle.mt_log.specs.LogState.{told}
use Rattle.mt_body.specs.Stored.{bytes_of}
use Rattle.mt_opening.proofs.digest.digest_by.Given as goal

abbrev pub invariant-loop-at : goal.invariant-loop-at
invariant-loop-at g l =
    let d = g.D.Disk in
    record {
      within : l.at ≤ l.len;
      size : length l.buffer ≡ length l.fn.buffer;
      sum : ForSome (told (d.seen l.fn.disk)) (λ ps. Holds l.sum (take l.at (bytes_of ps l.body)));
      read : OnlyRead d.seen d.may_leave d.moment d.left_since l.fn.disk l.disk;
      faults : NeverFell (d.faults l.fn.disk) (d.faults l.disk);
      stays : d.stays l.fn.disk l.disk;
    }

abbrev pub decreases-loop-at : goal.decreases-loop-at
decreases-loop-at g l = l.len - l.at

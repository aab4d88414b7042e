-- The payloads up to the place were read.
use Rattle.std.proofs.Common.{◌-◌}
use Rattle.std.specs.Option.{ForSome}
use Rattle.mt_base.specs.Counts.{NeverFell}
use Rattle.mt_disk.specs.CrashModel.{OnlyRead}
use Rattle.mt_log.specs.LogState.{told}
use Rattle.mt_opening.specs.Opening.{IsLoading}
use Rattle.mt_opening.proofs.load.load_payloads.Given as goal

abbrev pub invariant-payloads : goal.invariant-payloads
invariant-payloads g l =
    let d = g.D.Disk in
    record {
      so_far : ForSome (told (d.seen l.fn.disk)) (λ ps. IsLoading ps l.place l.account l.places.earlier.items l.places.last);
      read : OnlyRead d.seen d.may_leave d.moment d.left_since l.fn.disk l.disk;
      faults : NeverFell (d.faults l.fn.disk) (d.faults l.disk);
      stays : d.stays l.fn.disk l.disk;
    }

abbrev pub decreases-payloads : goal.decreases-payloads
decreases-payloads g l = l.gate - l.place

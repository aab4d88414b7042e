-- The bodies so far have their digests.
use Rattle.std.proofs.Common.{◌≡◌, map, take}
use Rattle.std.specs.List.{AllByRecursion}
use Rattle.std.specs.Option.{ForSome}
use Rattle.mt_base.specs.Counts.{NeverFell}
use Rattle.mt_body.specs.Stored.{IsStored}
use Rattle.mt_codec.specs.Spelling.{undigested_body}
use Rattle.mt_disk.specs.CrashModel.{OnlyRead}
use Rattle.mt_log.specs.LogState.{told}
use Rattle.mt_model.specs.Bodies.{OfRecord}
use Rattle.mt_types.specs.Values.{record_with}
use Rattle.mt_opening.proofs.digest.digest_records.Given as goal

abbrev pub invariant-loop-k : goal.invariant-loop-k
invariant-loop-k g l =
    let d = g.D.Disk in
    record {
      same : map (record_with undigested_body) l.records.items ≡ map (record_with undigested_body) l.fn.records.items;
      digests : ForSome (told (d.seen l.fn.disk)) (λ ps. AllByRecursion (OfRecord (IsStored ps)) (take l.k l.records.items));
      read : OnlyRead d.seen d.may_leave d.moment d.left_since l.fn.disk l.disk;
      faults : NeverFell (d.faults l.fn.disk) (d.faults l.disk);
      stays : d.stays l.fn.disk l.disk;
    }

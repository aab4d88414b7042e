-- What was sent so far.
use Rattle.std.proofs.Common.{◌≡◌, ◌≤◌, ◌-◌, ℕ, List, length, take, drop}
use Rattle.std.specs.Option.{ForSome}
use Rattle.mt_base.specs.Counts.{NeverFell}
use Rattle.mt_disk.specs.CrashModel.{OnlyRead}
use Rattle.mt_edge.specs.Stream.{GotMore}
use Rattle.mt_log.specs.LogState.{told}
use Rattle.mt_body.specs.Stored.{bytes_of}
use Rattle.mt_body.proofs.send.send_body.Given as goal

abbrev pub invariant-loop-at : goal.invariant-loop-at
invariant-loop-at g l =
    let d = g.D.Disk in
    record {
      order : l.from ≤ l.at;
      within : l.at ≤ l.to;
      size : length l.buffer ≡ length l.fn.buffer;
      bytes : List ℕ;
      count : length bytes ≡ l.at - l.from;
      got : GotMore (g.K.Sink.got l.fn.sink) bytes (g.K.Sink.got l.sink);
      are : ForSome (told (d.seen l.fn.disk)) (λ ps. bytes ≡ take (l.at - l.from) (drop l.from (bytes_of ps l.body)));
      read : OnlyRead d.seen d.may_leave d.moment d.left_since l.fn.disk l.disk;
      faults : NeverFell (d.faults l.fn.disk) (d.faults l.disk);
      writes : NeverFell (g.K.Sink.write_faults l.fn.sink) (g.K.Sink.write_faults l.sink);
      stays : g.K.Sink.sink_stays l.fn.sink l.sink;
    }

abbrev pub decreases-loop-at : goal.decreases-loop-at
decreases-loop-at g l = l.to - l.at

-- What was read so far stands at the front.
use Rattle.std.proofs.Common.{◌≡◌, ◌≤◌, ◌+◌, ◌-◌, ◌++◌, length, take}
use Rattle.std.specs.Option.{ForSome}
use Rattle.mt_base.specs.Counts.{NeverFell}
use Rattle.mt_disk.specs.CrashModel.{OnlyRead}
use Rattle.mt_join.specs.Filling.{IsWithin, rest, rest_len}
use Rattle.mt_log.specs.LogState.{told}
use Rattle.mt_join.proofs.fill.fill_piece.Given as goal

abbrev pub invariant-loop-done : goal.invariant-loop-done
invariant-loop-done g l =
    let d = g.D.Disk in
    record {
      size : length l.into ≡ length l.fn.into;
      few : l.done ≤ length l.into;
      within : IsWithin l.parts l.cursor;
      len : rest_len l.parts l.fn.from ≡ l.done + rest_len l.parts l.cursor;
      are : ForSome (told (d.seen l.fn.disk)) (λ ps. rest ps l.parts l.fn.from ≡ take l.done l.into ++ rest ps l.parts l.cursor);
      read : OnlyRead d.seen d.may_leave d.moment d.left_since l.fn.disk l.disk;
      faults : NeverFell (d.faults l.fn.disk) (d.faults l.disk);
    }

abbrev pub decreases-loop-done : goal.decreases-loop-done
decreases-loop-done g l = (length l.into - l.done) + (length l.parts - l.cursor.next)

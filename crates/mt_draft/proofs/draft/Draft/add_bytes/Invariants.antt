-- So many bytes of the log were added.
use Rattle.std.proofs.Common.{◌≡◌, ◌≤◌, ◌+◌, ◌-◌, take, drop, is_some}
use Rattle.std.specs.Option.{ForSome}
use Rattle.mt_base.specs.Counts.{NeverFell}
use Rattle.mt_disk.specs.Files.{contents}
use Rattle.mt_disk.specs.CrashModel.{LeavesOnly}
use Rattle.mt_draft.specs.Drafts.{KeepsLog, next_of}
use Rattle.mt_draft.specs.Steps.{Grew, IsOpenDraft}
use Rattle.mt_draft.proofs.draft.Draft.add_bytes.Given as goal

abbrev pub invariant-loop-done : goal.invariant-loop-done
invariant-loop-done g l =
    let d = g.D.Disk in
    record {
      few : l.done ≤ l.fn.size;
      draft : ForSome (d.seen l.disk) (λ now. IsOpenDraft (d.may_leave l.disk) now l.fn.log l.self);
      grew : ForSome (d.seen l.fn.disk) (λ files. ForSome (d.seen l.disk) (λ now. Grew files now l.fn.log l.fn.self l.self (take l.done (drop l.fn.from (contents files l.fn.log.file)))));
      next : next_of l.self ≡ next_of l.fn.self + l.done;
      limit : l.self.limit ≡ l.fn.self.limit;
      tells : is_some (d.seen l.disk) ≡ is_some (d.seen l.fn.disk);
      any_moment : ForSome (d.seen l.fn.disk) (λ files. LeavesOnly d.moment d.left_since l.fn.disk l.disk (KeepsLog files l.fn.log.file));
      stays : d.stays l.fn.disk l.disk;
      faults : NeverFell (d.faults l.fn.disk) (d.faults l.disk);
    }

abbrev pub decreases-loop-done : goal.decreases-loop-done
decreases-loop-done g l = l.fn.size - l.done

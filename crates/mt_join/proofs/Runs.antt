-- How a run of records stands while the disk is read, and records are added.
use Rattle.std.proofs.Common.{◌≡◌, false, [], ℕ, Option, None, Some, refl, sym, ◌∙◌, ap}
use Rattle.std.specs.Prelude.{is_some}
use Rattle.std.specs.Option.{ForSome}
use Rattle.mt_disk.specs.Files.{Files}
use Rattle.mt_disk.specs.CrashModel.{LeavesOnly, OnlyRead}
use Rattle.mt_disk.proofs.Readings.{reads_leave}
use Rattle.mt_log.specs.LogImage.{IsBeforeOrAfter, payloads_of}
use Rattle.mt_log.specs.LogState.{IsThere, LogState, OthersStay, told}
use Rattle.mt_log.specs.RunState.{RunState, Running}
use Rattle.mt_log.proofs.Added.{front_is_before}
use Rattle.mt_log.proofs.Others.{others_on, others_same}
use Rattle.mt_log.proofs.Running.{run_idle, run_leaves}
use Rattle.mt_log.proofs.Told.{mapped_some}

-- as much is told
told_tells : (o n : Option Files) → told n ≡ told o → is_some n ≡ is_some o
told_tells None None same = refl
told_tells (Some f) (Some h) same = refl
told_tells None (Some h) same = absurd (cc same)
told_tells (Some f) None same = absurd (cc same)

module _ {D : Type 0} (seen : D → Option Files) (may_leave : D → Files → Type 0) (moment : D → ℕ) (left_since : D → ℕ → Files → Type 0) where
  -- the log of a run is there to be read
  pub running_there : (disk : D) (log : LogState) (run : RunState) → Running seen may_leave disk log run → IsThere seen disk log
  running_there disk log run running is_open files is = (running is_open files is).laying.log

  -- since the first disk only reads and records of a run
  pub record Keeps (begin now : D) (log : LogState) (run : RunState) : Type 0 where
    pub running : Running seen may_leave now log run
    pub same : told (seen now) ≡ told (seen begin)
    pub others : OthersStay log.file (seen begin) (seen now)
    pub any_moment : ForSome (seen begin) (λ files. LeavesOnly moment left_since begin now (IsBeforeOrAfter files []))

  -- nothing was done
  pub keeps_none : (disk : D) (log : LogState) (run : RunState) → log.closed ≡ false → Running seen may_leave disk log run → ((c : Files) → left_since disk (moment disk) c → may_leave disk c) → Keeps disk disk log run
  keeps_none disk log run is_open running only_now = record {
    running = running;
    same = refl;
    others = others_same log.file (seen disk) (seen disk) refl;
    any_moment = λ files is. run_idle seen may_leave moment left_since disk files log run [] (running is_open files is) only_now;
  }

  -- the images of one call more
  pub keeps_leave : (begin mid new : D) (log : LogState) (r0 r1 : RunState) → log.closed ≡ false → Running seen may_leave begin log r0 → Keeps begin mid log r1
      → ForSome (seen mid) (λ files. LeavesOnly moment left_since mid new (IsBeforeOrAfter files [])) → ForSome (seen begin) (λ files. LeavesOnly moment left_since begin new (IsBeforeOrAfter files []))
  keeps_leave begin mid new log r0 r1 is_open first kept after files is =
      let now = mapped_some payloads_of (seen mid) (payloads_of files) (kept.same ∙ ap told is) in
      run_leaves seen may_leave moment left_since begin mid new files now.0 log [] (first is_open files is).laying.log (kept.running is_open now.0 now.1).laying.log now.2 (kept.any_moment files is) (after now.0 now.1)

  -- a record more
  pub keeps_add : (begin mid new : D) (log : LogState) (r0 r1 r2 : RunState) → log.closed ≡ false → Running seen may_leave begin log r0 → Keeps begin mid log r1
      → Running seen may_leave new log r2 → told (seen new) ≡ told (seen mid) → OthersStay log.file (seen mid) (seen new)
      → ForSome (seen mid) (λ files. LeavesOnly moment left_since mid new (IsBeforeOrAfter files [])) → Keeps begin new log r2
  keeps_add begin mid new log r0 r1 r2 is_open first kept running same others after = record {
    running = running;
    same = same ∙ kept.same;
    others = others_on log.file (seen begin) (seen mid) (seen new) (told_tells (seen begin) (seen mid) kept.same) kept.others others;
    any_moment = keeps_leave begin mid new log r0 r1 is_open first kept after;
  }

  -- a read more
  pub keeps_read : (begin mid new : D) (log : LogState) (r0 r1 : RunState) → log.closed ≡ false → Running seen may_leave begin log r0 → Keeps begin mid log r1
      → ((c : Files) → left_since mid (moment mid) c → may_leave mid c) → OnlyRead seen may_leave moment left_since mid new → Keeps begin new log r1
  keeps_read begin mid new log r0 r1 is_open first kept only_now read =
      keeps_add begin mid new log r0 r1 r1 is_open first kept
      (λ still files is.
      let was = kept.running still files (sym read.seen_same ∙ is) in
      record {
        records = was.records;
        laying = was.laying;
        images = λ c left. was.images c (read.images.none_more c left);
        rest = λ none c left. was.rest none c (read.images.none_more c left);
      })
      (ap told read.seen_same) (others_same log.file (seen mid) (seen new) read.seen_same)
      (λ files is.
      let was = kept.running is_open files is in
      reads_leave seen may_leave moment left_since mid new (IsBeforeOrAfter files []) read only_now (λ c left. front_is_before files log.file log.gate log.is_old was.laying.log [] c (was.images c left)))

-- What opening a log does: its answer, what it leaves, and what it counts.
use Rattle.std.specs.Prelude.{◌≡◌, ◌≢◌, ℕ, Bool, false, is_some, Option, Result, Err, IfOk, IsErrOf}
use Rattle.std.specs.Option.{ForSome}
use Rattle.mt_base.specs.Counts.{NeverFell, Rose}
use Rattle.mt_disk.specs.Files.{Files}
use Rattle.mt_disk.specs.CrashModel.{LeavesOnly}
use Rattle.mt_log.specs.declared.open_error.OpenError.{OpenError}
use Rattle.mt_log.specs.declared.open_error.OpenError.TheVariants as refusal
use Rattle.mt_log.specs.LogImage.{SameLog, payloads_by}
use Rattle.mt_log.specs.LogState.{IsOpened, LogState, Settled, told}
use Rattle.mt_log.specs.Scan.{OpensAs}

-- A log is opened under this limit, of this version or also of the old one, or refused for the first fault from its front, and the
-- disk keeps it.
pub record Opens {D : Type 0} (seen : D → Option Files) (may_leave : D → Files → Type 0) (moment : D → ℕ) (left_since : D → ℕ → Files → Type 0) (disk_faults : D → ℕ) (any : Bool) (limit : ℕ) (old new : D) (result : Result LogState OpenError) : Type 0 where
  pub opened : IfOk result (λ log. IsOpened seen may_leave new limit log)
  pub answer : ForSome (seen old) (λ files. OpensAs result (payloads_by any files))
  pub version : any ≡ false → IfOk result (λ log. log.is_old ≡ false)
  -- opening changes no payload, also where it refuses
  pub same : result ≢ Err refusal.Disk → told (seen new) ≡ told (seen old)
  pub settled : result ≢ Err refusal.Disk → ForSome (seen old) (λ files. Settled seen may_leave new files)
  pub tells : result ≢ Err refusal.Disk → is_some (seen new) ≡ is_some (seen old)
  -- and a crash at any moment of it leaves the same ones
  pub any_moment : ForSome (seen old) (λ files. LeavesOnly moment left_since old new (SameLog files))
  pub disk : IsErrOf result refusal.Disk → Rose (disk_faults old) (disk_faults new)
  pub faults : NeverFell (disk_faults old) (disk_faults new)

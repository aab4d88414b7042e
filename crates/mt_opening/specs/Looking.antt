-- What reading a log asks of it and of its disk, and what it leaves alone.
use Rattle.std.specs.Prelude.{◌≡◌, ℕ, true, false, Option}
use Rattle.std.specs.Option.{ForSome}
use Rattle.mt_base.specs.Counts.{NeverFell, Rose}
use Rattle.mt_disk.specs.CrashModel.{OnlyRead}
use Rattle.mt_disk.specs.Files.{Files}
use Rattle.mt_log.specs.LogState.{IsThere, LogState, told}
use Rattle.mt_log.specs.Places.{IsPlace}
use Rattle.mt_body.specs.Stored.{is_stored}
use Rattle.mt_types.specs.declared.body.Body.{Body}

-- a log is open, and its disk has it
pub record LogIsThere {D : Type 0} (seen : D → Option Files) (disk : D) (log : LogState) : Type 0 where
  pub there : IsThere seen disk log
  pub is_open : log.closed ≡ false

-- and a record of it at this place
pub record RecordIsThere {D : Type 0} (seen : D → Option Files) (disk : D) (log : LogState) (at : ℕ) : Type 0 where
  pub there : IsThere seen disk log
  pub is_open : log.closed ≡ false
  pub place : ForSome (told (seen disk)) (λ ps. IsPlace at ps)

-- and this body in it
pub record BodyIsThere {D : Type 0} (seen : D → Option Files) (disk : D) (log : LogState) (body : Body) : Type 0 where
  pub there : IsThere seen disk log
  pub is_open : log.closed ≡ false
  pub stored : ForSome (told (seen disk)) (λ ps. is_stored ps body ≡ true)

-- Nothing is written. The count of the disk's faults doesn't fall, and rises where the disk failed.
pub record OnlyReads {D : Type 0} (seen : D → Option Files) (may_leave : D → Files → Type 0) (moment : D → ℕ) (left_since : D → ℕ → Files → Type 0) (count : D → ℕ) (old new : D) (failed : Type 0) : Type 0 where
  pub read : OnlyRead seen may_leave moment left_since old new
  pub disk : failed → Rose (count old) (count new)
  pub faults : NeverFell (count old) (count new)

-- and what reading leaves alone stays
pub record OnlyLooks {D : Type 0} (seen : D → Option Files) (may_leave : D → Files → Type 0) (moment : D → ℕ) (left_since : D → ℕ → Files → Type 0) (count : D → ℕ) (alone : D → D → Type 0) (old new : D) (failed : Type 0) : Type 0 where
  pub read : OnlyRead seen may_leave moment left_since old new
  pub stays : alone old new
  pub disk : failed → Rose (count old) (count new)
  pub faults : NeverFell (count old) (count new)

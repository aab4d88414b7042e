-- A run of records, which count once it is ended.
use Rattle.std.specs.Prelude.{◌≡◌, ℕ, ◌+◌, false, List, Option}
use Rattle.std.specs.Option.{ForSome}
use Rattle.mt_disk.specs.Files.{Files}
use Rattle.mt_disk.specs.CrashModel.{Only}
use Rattle.mt_log.specs.LogState.{LogState, next_place}
use Rattle.mt_log.specs.Stage.{KeepsFront, Laying}

-- the place of the gate behind the records that were taken so far
pub record RunState : Type 0 where
  pub next : ℕ

-- the bytes of the log with the run's records and one more, of so many bytes
abbrev pub size_with_run : RunState → ℕ → ℕ
size_with_run run payload = next_place run.next payload + 1

-- where the disk tells what it holds, the run has taken these records
abbrev pub HasTaken : Option Files → LogState → RunState → List (List ℕ) → Type 0
HasTaken seen log run records = ForSome seen (λ files. Laying files log.file log.gate run.next log.is_old records)

-- these files hold a log and the records of a run, and a crash leaves the closed gate and all before it
pub record IsRunning (may_leave : Files → Type 0) (files : Files) (log : LogState) (run : RunState) : Type 0 where
  pub records : List (List ℕ)
  pub laying : Laying files log.file log.gate run.next log.is_old records
  pub images : (c : Files) → may_leave c → KeepsFront files log.file log.gate c
  -- until it has a record
  pub rest : run.next ≡ log.gate → Only files may_leave

-- What each call of a run asks, where the log isn't closed and the disk tells what it holds.
abbrev pub Running : {D : Type 0} → (D → Option Files) → (D → Files → Type 0) → D → LogState → RunState → Type 0
Running seen may_leave disk log run = log.closed ≡ false → ForSome (seen disk) (λ files. IsRunning (may_leave disk) files log run)

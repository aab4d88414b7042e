-- What the calls within a run ask of what is outside, and what is said of it by how they end.
use Rattle.std.specs.Prelude.{◌≡◌, ◌+◌, ℕ, [], Option, None, IfSome, is_some}
use Rattle.std.specs.Option.{ForSome}
use Rattle.mt_disk.specs.CrashModel.{IsAtRest, LeavesOnly}
use Rattle.mt_disk.specs.Files.{Files}
use Rattle.mt_log.specs.LogImage.{Fit, SameLog}
use Rattle.mt_opening.specs.History.{Bytes}
use Rattle.mt_opening.specs.Opening.{IsReadable, IsRefused, KeepsLogs}
use Rattle.mt_opening.specs.declared.opening.Unreadable.{Unreadable}
use Rattle.mt_spawn.specs.Children.{Seen}
use Rattle.mt_spawn.specs.declared.task.Left.{Left}
use Rattle.mt_runner.specs.Attempts.{RunnerState}
use Rattle.mt_server.specs.Lines.{SaysLine, line_of}
use Rattle.mt_server.specs.Statuses.{ByBytes, ByDisk, ByDoor, ByLink, BySpawner, IsBegun, IsReadyAfter, IsSilent, IsUnopened}
use Rattle.mt_server.specs.declared.status.Status.{Status}
use Rattle.mt_server.specs.declared.status.Status.TheVariants as status

-- ---- before

-- the disk is at rest, and has no second log where its Head is empty; no child lives, and nothing that one left is held
pub record OutsideIsIdle {D P F : Type 0} (seen : D → Option Files) (may_leave : D → Files → Type 0) (children : P → Seen F) (held : P → Option Left) (disk : D) (spawner : P) : Type 0 where
  pub rest : IsAtRest seen may_leave disk
  pub fit : ForSome (seen disk) Fit
  pub idle : (children spawner).live ≡ []
  pub free : held spawner ≡ None

-- and a runner, whose commands are of this login, has started nothing
pub record RunCanBegin {D P F : Type 0} (seen : D → Option Files) (may_leave : D → Files → Type 0) (children : P → Seen F) (held : P → Option Left) (disk : D) (spawner : P) (runner : RunnerState) (login : Bytes) : Type 0 where
  pub outside : OutsideIsIdle seen may_leave children held disk spawner
  pub same_login : runner.login ≡ login
  pub nothing_kept : runner.kept ≡ []

-- each link that was taken from the door is over
pub record DoorIsIdle (taken over kept : ℕ) : Type 0 where
  pub back : over + kept ≡ taken
  pub none_kept : kept ≡ 0

-- ---- behind

-- What a status says of the store. Only one that can be read was opened. Where none was opened, all that it was to serve stays, and its log
-- does at each moment; where no line says so, the sink stays too. One that was refused has its line, and keeps its files.
pub record SaysOfStore {D K : Type 0} (seen : D → Option Files) (may_leave : D → Files → Type 0) (moment : D → ℕ) (left_since : D → ℕ → Files → Type 0) (got : K → Option Bytes) (write_faults : K → ℕ) (disk disk' : D) (sink sink' : K) (Stays : Type 0) (end : Status) : Type 0 where
  pub begun : IsBegun end → ForSome (seen disk) IsReadable
  pub untouched : IsUnopened end → Stays
  pub unopened : IsUnopened end → ForSome (seen disk) (λ files. LeavesOnly moment left_since disk disk' (SameLog files))
  pub silent : IsSilent end → sink' ≡ sink
  pub refused : (why : Unreadable) → end ≡ status.UnreadableLog why → SaysLine (line_of why) (got sink) (got sink') (write_faults sink) (write_faults sink') × ForSome (seen disk) (λ files. IsRefused files why × KeepsLogs seen may_leave disk' files)

-- a status that a session ends with has its cause: the bytes of the source, or a count that rose
pub record SessionHasCause {S K D P F : Type 0} (left : S → Option Bytes) (read_faults : S → ℕ) (write_faults : K → ℕ) (disk_faults : D → ℕ) (children : P → Seen F) (source source' : S) (sink sink' : K) (disk disk' : D) (spawner spawner' : P) (end : Status) : Type 0 where
  pub by_bytes : IfSome (left source) (λ bytes. ByBytes bytes end)
  pub by_link : ByLink end (read_faults source) (write_faults sink) (read_faults source') (write_faults sink')
  pub by_disk : ByDisk end (disk_faults disk) (disk_faults disk')
  pub by_spawner : BySpawner end (children spawner).faults (children spawner').faults

-- and one that a serve of so many links ends with
pub record ServeHasCause {D P F W : Type 0} (disk_faults : D → ℕ) (children : P → Seen F) (taken door_faults : W → ℕ) (disk disk' : D) (spawner spawner' : P) (door door' : W) (wanted : ℕ) (end : Status) : Type 0 where
  pub by_disk : ByDisk end (disk_faults disk) (disk_faults disk')
  pub by_spawner : BySpawner end (children spawner).faults (children spawner').faults
  pub by_door : ByDoor end wanted (taken door) (door_faults door) (taken door') (door_faults door')

-- No child lives, and nothing that one left is held. Another run can follow on the disk, by the status. What is to stay does, and so do the
-- rules of the clock and of the spawner.
pub record LeavesOutside {D P C F Rule Moments : Type 0} (seen : D → Option Files) (may_leave : D → Files → Type 0) (children : P → Seen F) (held : P → Option Left) (rule_of : P → Rule) (moments_of : C → Moments) (disk disk' : D) (spawner spawner' : P) (clock clock' : C) (Stays : Type 0) (end : Status) : Type 0 where
  pub no_child_left : ((children spawner').live ≡ []) × (held spawner' ≡ None)
  pub rest : IsReadyAfter end (is_some (seen disk)) (IsAtRest seen may_leave disk' × ForSome (seen disk') Fit)
  pub stays : Stays
  pub rule : (moments_of clock' ≡ moments_of clock) × (rule_of spawner' ≡ rule_of spawner)

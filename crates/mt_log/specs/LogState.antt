-- What callers see of a log, and how it stands over a disk.
use Rattle.std.specs.Prelude.{◌≡◌, ◌≢◌, ◌<◌, ◌≤◌, ℕ, ◌+◌, Bool, false, List, [], ◌∷◌, ◌++◌, Option, Some, Ok, option_map}
use Rattle.std.specs.Option.{ForSome}
use Rattle.mt_disk.specs.declared.disk.FileNo.{FileNo}
use Rattle.mt_disk.specs.Files.{Files, contents, with_contents}
use Rattle.mt_disk.specs.CrashModel.{Only}
use Rattle.mt_log.specs.LogImage.{record_head, payloads_any, payloads_of, IsLogOf, SameLog}

-- the file that holds the log, the place of its closed gate, how many bytes it may have, whether it takes no more, and whether
-- it is of the old version
pub record LogState : Type 0 where
  pub file : FileNo
  pub gate : ℕ
  pub limit : ℕ
  pub closed : Bool
  pub is_old : Bool

-- the place of the gate behind a record at this place with so many bytes of payload
abbrev pub next_place : ℕ → ℕ → ℕ
next_place place payload = place + record_head + payload

-- the bytes of the log with one payload more, of so many bytes
abbrev pub size_with : LogState → ℕ → ℕ
size_with log payload = next_place log.gate payload + 1

-- the log's limit lets a payload of so many bytes in, or doesn't
abbrev pub HasRoom : LogState → ℕ → Type 0
HasRoom log payload = size_with log payload ≤ log.limit

abbrev pub LacksRoom : LogState → ℕ → Type 0
LacksRoom log payload = log.limit < size_with log payload

-- the log once it has a payload more, of so many bytes
abbrev pub with_record : LogState → ℕ → LogState
with_record log payload = record log { gate = next_place log.gate payload }

-- What each call asks of a log that isn't closed and of a disk that tells what it holds: all of it is on the disk, and its log
-- is this one.
abbrev pub Stands : {D : Type 0} → (D → Option Files) → (D → Files → Type 0) → D → LogState → Type 0
Stands seen may_leave disk log = log.closed ≡ false → ForSome (seen disk) (λ files. Only files (may_leave disk) × IsLogOf files log.file log.gate log.is_old)

-- What a reading asks: where the disk tells what it holds, its log is this one. A crash may leave another.
abbrev pub IsThere : {D : Type 0} → (D → Option Files) → D → LogState → Type 0
IsThere seen disk log = log.closed ≡ false → ForSome (seen disk) (λ files. IsLogOf files log.file log.gate log.is_old)

-- where the disk tells what it holds before and after, all files but this one are as they were
abbrev pub OthersStay : FileNo → Option Files → Option Files → Type 0
OthersStay file old new = ForSome old (λ files. ForSome new (λ now. now ≡ with_contents files file (contents now file)))

-- the list of payloads, where the disk tells it
abbrev pub told : Option Files → Option (List (List ℕ))
told seen = option_map payloads_of seen

-- one payload more
abbrev pub with_payload : List ℕ → Option (List (List ℕ)) → Option (List (List ℕ))
with_payload payload log = option_map (λ ps. ps ++ payload ∷ []) log

-- these payloads more
abbrev pub with_payloads : List (List ℕ) → Option (List (List ℕ)) → Option (List (List ℕ))
with_payloads more log = option_map (λ ps. ps ++ more) log

-- the log is open under this limit, and stands over the disk
pub record IsOpened {D : Type 0} (seen : D → Option Files) (may_leave : D → Files → Type 0) (disk : D) (limit : ℕ) (log : LogState) : Type 0 where
  pub limited : log.limit ≡ limit
  pub is_open : log.closed ≡ false
  pub stands : Stands seen may_leave disk log

-- the disk tells files, all of them on the disk, whose log has its closed gate at this place of this file, and these payloads
pub record Tells {D : Type 0} (seen : D → Option Files) (may_leave : D → Files → Type 0) (disk : D) (file : FileNo) (gate : ℕ) (old : Bool) (ps : List (List ℕ)) : Type 0 where
  pub files : Files
  pub seen_is : seen disk ≡ Some files
  pub durable : Only files (may_leave disk)
  pub log : IsLogOf files file gate old
  pub is : payloads_any files ≡ Ok ps

-- A disk that held these files is at rest, with the same log: One and Two are as they were, but for a log that was made.
pub record Settled {D : Type 0} (seen : D → Option Files) (may_leave : D → Files → Type 0) (disk : D) (files : Files) : Type 0 where
  pub now : Files
  pub seen_is : seen disk ≡ Some now
  pub durable : Only now (may_leave disk)
  pub same : SameLog files now
  pub one_is : files.head ≢ [] → now.one ≡ files.one
  pub two_is : now.two ≡ files.two

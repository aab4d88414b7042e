-- What a log that stands over its disk says of the images.
use Rattle.std.proofs.Common.{◌≡◌, ◌≤◌, ◌+◌, ℕ, Bool, List, false, Option, Some, Ok, sym, subst, ◌∙◌, ap}
use Rattle.mt_disk.specs.Files.{Files, contents}
use Rattle.mt_disk.specs.CrashModel.{LeavesOnly, OnlyRead}
use Rattle.mt_disk.proofs.Moments.{leaves_now}
use Rattle.mt_log.specs.LogImage.{Holds, IsLogOf, IsBeforeOrAfter, log_size, payloads, payloads_by, payloads_of}
use Rattle.mt_log.specs.LogState.{IsThere, LogState, Stands, told}
use Rattle.mt_log.proofs.Appended.{payloads_chosen}
use Rattle.mt_log.proofs.Sizes.{log_size-holds}
use Rattle.mt_log.proofs.Told.{mapped_some}
use Rattle.mt_log.proofs.Walks.{log_by-holds, read_by}

pub log_is : (files : Files) (log : LogState) → IsLogOf files log.file log.gate log.is_old → (any : Bool) → payloads_by any files ≡ read_by any log.is_old (Ok (payloads_of files))
log_is files log is any = payloads_chosen any files log.file is.is_chosen ∙ log_by-holds any log.is_old _ log.gate _ is.holds

-- each image of a log that isn't closed has exactly its payloads, in the log's version
pub stands_read : {D : Type 0} (seen : D → Option Files) (may_leave : D → Files → Type 0) (disk : D) (log : LogState) → Stands seen may_leave disk log → log.closed ≡ false
    → (files : Files) → seen disk ≡ Some files → (c : Files) → may_leave disk c → (any : Bool) → payloads_by any c ≡ read_by any log.is_old (Ok (payloads_of files))
stands_read seen may_leave disk log stands is_open files is c left any =
    let told = stands is_open files is in
    ap (λ f. payloads_by any f) (told.0 c left) ∙ log_is files log told.1 any

-- the same of a log of this version
pub stands_leave : {D : Type 0} (seen : D → Option Files) (may_leave : D → Files → Type 0) (disk : D) (log : LogState) → Stands seen may_leave disk log → log.closed ≡ false → log.is_old ≡ false
    → (files : Files) → seen disk ≡ Some files → (c : Files) → may_leave disk c → payloads c ≡ Ok (payloads_of files)
stands_leave seen may_leave disk log stands is_open is_new files is c left =
    stands_read seen may_leave disk log stands is_open files is c left false ∙ ap (λ (old : Bool). read_by false old (Ok (payloads_of files))) is_new

-- the log ends behind its payloads
pub stands_size : {D : Type 0} (seen : D → Option Files) (may_leave : D → Files → Type 0) (disk : D) (log : LogState) → Stands seen may_leave disk log → log.closed ≡ false
    → (files : Files) → seen disk ≡ Some files → log.gate + 1 ≡ log_size (payloads_of files)
stands_size seen may_leave disk log stands is_open files is = log_size-holds log.is_old _ _ _ (stands is_open files is).1.holds

-- after an append, on a fault too, each image has the payloads of before, or these and the new ones
pub append_leaves : {D : Type 0} (moment : D → ℕ) (left_since : D → ℕ → Files → Type 0) (may_leave : D → Files → Type 0) (old new : D) (files : Files) (more : List (List ℕ))
    → LeavesOnly moment left_since old new (IsBeforeOrAfter files more) → ((t : ℕ) (c : Files) → t ≤ moment new → may_leave new c → left_since new t c)
    → (c : Files) → may_leave new c → IsBeforeOrAfter files more c
append_leaves moment left_since may_leave old new files more run counts_now = leaves_now moment left_since may_leave old new (IsBeforeOrAfter files more) run counts_now

-- where the disk tells the payloads, its log holds them
pub record TellsLog (seen : Option Files) (log : LogState) (ps : List (List ℕ)) : Type 0 where
  pub files : Files
  pub is : seen ≡ Some files
  pub holds : Holds log.is_old (contents files log.file) log.gate ps

-- a log that stands is there
pub stands_there : {D : Type 0} (seen : D → Option Files) (may_leave : D → Files → Type 0) (disk : D) (log : LogState) → Stands seen may_leave disk log → IsThere seen disk log
stands_there seen may_leave disk log stands is_open files is = (stands is_open files is).1

pub tells_log : {D : Type 0} (seen : D → Option Files) (disk : D) (log : LogState) → IsThere seen disk log → log.closed ≡ false
    → (ps : List (List ℕ)) → told (seen disk) ≡ Some ps → TellsLog (seen disk) log ps
tells_log seen disk log there is_open ps is =
    let from = mapped_some payloads_of (seen disk) ps is in
    record {
      files = from.0;
      is = from.1;
      holds = subst (λ l. Holds log.is_old (contents from.0 log.file) log.gate l) from.2 (there is_open from.0 from.1).holds;
    }

-- reading leaves a log as it stands
pub stands_on : {D : Type 0} (seen : D → Option Files) (may_leave : D → Files → Type 0) (moment : D → ℕ) (left_since : D → ℕ → Files → Type 0) (old new : D) (log : LogState)
    → OnlyRead seen may_leave moment left_since old new → Stands seen may_leave old log → Stands seen may_leave new log
stands_on seen may_leave moment left_since old new log read stands is_open files is =
    let was = stands is_open files (sym read.seen_same ∙ is) in
    (λ c left. was.0 c (read.images.none_more c left), was.1)

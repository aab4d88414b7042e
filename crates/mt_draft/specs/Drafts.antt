-- The draft of a log: what is written of it, in the file that the log isn't in, what a crash leaves meanwhile, and what it is once it has
-- taken the log's place.
use Rattle.std.specs.Prelude.{◌≡◌, ℕ, ◌+◌, Bool, List, [], ◌∷◌, ◌++◌, length, Option, Some, Ok}
use Rattle.std.specs.List.{flat_map}
use Rattle.std.specs.Option.{ForSome}
use Rattle.mt_disk.specs.declared.disk.FileNo.{FileNo}
use Rattle.mt_disk.specs.declared.disk.FileNo.TheVariants.{Head, One, Two}
use Rattle.mt_disk.specs.Files.{Files, contents, with_contents}
use Rattle.mt_log.specs.LogImage.{AllFit, Fit, IsLogOf, chosen_by, chosen_file, log_magic, payloads_by, record_of}
use Rattle.mt_log.specs.LogState.{LogState}

-- the file of a draft, how many bytes of it are in that file, those that are held, and how long the log may get
pub record DraftState : Type 0 where
  pub file : FileNo
  pub written : ℕ
  pub held : List ℕ
  pub limit : ℕ

-- where the next record goes
abbrev pub next_of : DraftState → ℕ
next_of draft = draft.written + length draft.held

-- how long the log gets with so many bytes more, and its closed gate
abbrev pub size_after : DraftState → ℕ → ℕ
size_after draft size = next_of draft + size + 1

-- the bytes of a draft: those in its file, and those that are held
abbrev pub drafted_bytes : Files → DraftState → List ℕ
drafted_bytes files draft = contents files draft.file ++ draft.held

-- the other of the two files that may hold a log
abbrev pub other_of : FileNo → FileNo
other_of One = Two
other_of Two = One
other_of Head = Two

-- all but one file is as it was
abbrev pub KeepsBut : FileNo → Files → Files → Type 0
KeepsBut file files c = c ≡ with_contents files file (contents c file)

-- all but the file that a log in this one isn't in is as it was
abbrev pub KeepsLog : Files → FileNo → Files → Type 0
KeepsLog files file c = KeepsBut (other_of file) files c

-- Head names this file, whatever the other one holds
abbrev pub IsFirm : Files → FileNo → Type 0
IsFirm files file = file ≡ One → (two : List ℕ) → chosen_by files.head two ≡ Some One

-- in these files stands the log, and the other file is that of the draft
pub record IsBegun (files : Files) (log : LogState) (draft : DraftState) : Type 0 where
  pub log_is : IsLogOf files log.file log.gate log.is_old
  pub firm : IsFirm files log.file
  pub file : draft.file ≡ other_of log.file
  pub size : draft.written ≡ length (contents files draft.file)

-- and the draft is of these payloads
pub record IsDrafted (files : Files) (log : LogState) (draft : DraftState) (qs : List (List ℕ)) : Type 0 where
  pub begun : IsBegun files log draft
  pub bytes : drafted_bytes files draft ≡ log_magic ++ flat_map record_of qs
  pub each : AllFit qs

-- What each call asks of a log and a draft, where the disk tells what it holds: the draft is of some payloads, and a crash leaves the
-- log as it is.
abbrev pub Drafting : {D : Type 0} → (D → Option Files) → (D → Files → Type 0) → D → LogState → DraftState → Type 0
Drafting seen may_leave disk log draft =
    ForSome (seen disk) (λ files. ((qs : List (List ℕ)) × IsDrafted files log draft qs) × ((c : Files) → may_leave disk c → KeepsLog files log.file c))

-- in these files stands the log, which Head names whatever the other file holds, and a crash leaves it as it is: all that is asked for
-- a draft to be given up, whatever became of it
pub record HasFirmLog (may_leave : Files → Type 0) (files : Files) (log : LogState) : Type 0 where
  pub log_is : IsLogOf files log.file log.gate log.is_old
  pub firm : IsFirm files log.file
  pub images : (c : Files) → may_leave c → KeepsLog files log.file c

-- whichever versions an opening takes: these are the payloads
pub record IsMoved (qs : List (List ℕ)) (c : Files) : Type 0 where
  pub reads : (any : Bool) → payloads_by any c ≡ Ok qs
  pub fit : Fit c

-- the draft of these payloads is the log, with nothing behind its closed gate, and the file of the log that was is empty
pub record HasMoved (log : LogState) (draft : DraftState) (qs : List (List ℕ)) (now : Files) : Type 0 where
  pub moved : IsMoved qs now
  pub is_chosen : chosen_file now ≡ Some draft.file
  pub whole : contents now draft.file ≡ (log_magic ++ flat_map record_of qs) ++ 0 ∷ []
  pub emptied : contents now log.file ≡ []

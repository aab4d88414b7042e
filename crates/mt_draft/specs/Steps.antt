-- What the steps of a draft's calls make of the files.
use Rattle.std.specs.Prelude.{◌≡◌, ℕ, List, [], ◌∷◌, ◌++◌, length, drop, Option, Some}
use Rattle.mt_disk.specs.declared.disk.FileNo.{FileNo}
use Rattle.mt_disk.specs.declared.disk.FileNo.TheVariants.{Head, One, Two}
use Rattle.mt_disk.specs.Files.{Files, contents, with_contents}
use Rattle.mt_disk.specs.CrashModel.{Only}
use Rattle.mt_log.specs.LogImage.{chosen_file}
use Rattle.mt_log.specs.LogState.{LogState}
use Rattle.mt_draft.specs.Drafts.{DraftState, IsBegun, IsFirm, KeepsBut, KeepsLog, drafted_bytes}

-- the files with this first byte of Head
abbrev pub with_named : ℕ → Files → Files
with_named byte files = with_contents files Head (byte ∷ drop 1 files.head)

-- the byte of Head that names a file
abbrev pub name_of : FileNo → ℕ
name_of One = 1
name_of Two = 2
name_of Head = 1

-- a file is emptied
abbrev pub with_none : FileNo → Files → Files
with_none file files = with_contents files file []

-- the whole draft is in its file, with a closed gate behind it
abbrev pub sealed : DraftState → Files → Files
sealed draft files = with_contents files draft.file (drafted_bytes files draft ++ 0 ∷ [])

-- A disk that held these files is at rest: all but Head is as it was, the log is in its file still, and Head names that one whatever
-- the other one holds.
pub record IsMended {D : Type 0} (seen : D → Option Files) (may_leave : D → Files → Type 0) (disk : D) (files : Files) (file : FileNo) : Type 0 where
  pub now : Files
  pub seen_is : seen disk ≡ Some now
  pub durable : Only now (may_leave disk)
  pub others : KeepsBut Head files now
  pub is_chosen : chosen_file now ≡ Some file
  pub firm : IsFirm now file

-- what is written and what is held are together what they were, and the other files stay
pub record Poured (files now : Files) (old new : DraftState) : Type 0 where
  pub others : KeepsBut old.file files now
  pub bytes : contents now old.file ++ new.held ≡ drafted_bytes files old
  pub size : new.written ≡ length (contents now old.file)
  pub file : new.file ≡ old.file

-- in these files stand the log and a draft, and a crash leaves the log
pub record IsOpenDraft (may_leave : Files → Type 0) (files : Files) (log : LogState) (draft : DraftState) : Type 0 where
  pub begun : IsBegun files log draft
  pub images : (c : Files) → may_leave c → KeepsLog files log.file c

-- the log is as it was, and the draft has these bytes more
pub record Grew (files now : Files) (log : LogState) (old new : DraftState) (more : List ℕ) : Type 0 where
  pub others : KeepsLog files log.file now
  pub bytes : drafted_bytes now new ≡ drafted_bytes files old ++ more

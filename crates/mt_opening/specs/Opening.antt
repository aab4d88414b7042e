-- What a log can't be opened for, and how its payloads are read.
use Rattle.std.specs.Prelude.{◌≡◌, ℕ, ◌<◌, true, List, ◌++◌, Option, Some, None, Ok, Err}
use Rattle.mt_disk.specs.CrashModel.{Only}
use Rattle.mt_disk.specs.Files.{Files}
use Rattle.mt_log.specs.LogImage.{payloads}
use Rattle.mt_log.specs.LogImage as fault
use Rattle.mt_log.specs.Places.{end_of}
use Rattle.mt_log.specs.declared.open_error.OpenError.{OpenError}
use Rattle.mt_log.specs.declared.open_error.OpenError.TheVariants as refusal
use Rattle.mt_log.specs.declared.read.ReadFault.{ReadFault}
use Rattle.mt_log.specs.declared.read.ReadFault.TheVariants as reading
use Rattle.mt_body.specs.Stored.{IsStored, bytes_of, is_stored}
use Rattle.mt_model.specs.Bodies.{OfCommand, OfState, state_with}
use Rattle.mt_model.specs.CommandStep.{allowed, replay}
use Rattle.mt_model.specs.State.{State}
use Rattle.mt_types.specs.Kinds.{kind_of}
use Rattle.mt_types.specs.declared.body.Body.{Body}
use Rattle.mt_types.specs.declared.command.Command.{Command}
use Rattle.mt_types.specs.declared.limits.TheConstants.{MOST_COMMANDS}
use Rattle.mt_account.specs.Taken.{IsTaken}
use Rattle.mt_opening.specs.History.{Bytes, HasHistory, History, IsForeignAt, IsHistoryOf}
use Rattle.mt_opening.specs.Places.{ArePlaces}
use Rattle.mt_opening.specs.declared.opening.OpenEnd.{OpenEnd}
use Rattle.mt_opening.specs.declared.opening.OpenEnd.TheVariants as opening
use Rattle.mt_opening.specs.declared.opening.Unreadable.{Unreadable}
use Rattle.mt_opening.specs.declared.opening.Unreadable.TheVariants as unreadable
use Rattle.mt_opening.specs.declared.places.Stretch.{Stretch}

-- the files' log can be read, and the first payload in it that adds nothing to its history is at this place
pub record IsForeignIn (files : Files) (at : ℕ) : Type 0 where
  pub ps : List (List ℕ)
  pub read : payloads files ≡ Ok ps
  pub foreign : IsForeignAt ps at

-- files are refused so: for the first fault of their log, or for the first payload that adds nothing to its history
abbrev pub IsRefused : Files → Unreadable → Type 0
IsRefused files unreadable.NotALog = payloads files ≡ Err fault.NotALog
IsRefused files unreadable.OldVersion = payloads files ≡ Err fault.OldVersion
IsRefused files (unreadable.Damaged at kept computed) = payloads files ≡ Err (fault.Damaged at kept computed)
IsRefused files (unreadable.Short at wanted left) = payloads files ≡ Err (fault.Short at wanted left)
IsRefused files (unreadable.Foreign at) = IsForeignIn files at

-- the files' log stands for a base and a history
pub record IsReadable (files : Files) : Type 0 where
  pub base : State Bytes
  pub history : History
  pub has : HasHistory base history files

-- One and Two hold what they held, and the disk is at rest
pub record KeepsLogs {D : Type 0} (seen : D → Option Files) (may_leave : D → Files → Type 0) (disk : D) (files : Files) : Type 0 where
  pub now : Files
  pub seen_is : seen disk ≡ Some now
  pub durable : Only now (may_leave disk)
  pub one : now.one ≡ files.one
  pub two : now.two ≡ files.two

-- how an opening ends where the log is refused
abbrev pub end_by : OpenError → OpenEnd
end_by refusal.NotALog = opening.Unreadable unreadable.NotALog
end_by refusal.OldVersion = opening.Unreadable unreadable.OldVersion
end_by (refusal.Damaged at kept computed) = opening.Unreadable (unreadable.Damaged at kept computed)
end_by (refusal.Short at wanted left) = opening.Unreadable (unreadable.Short at wanted left)
end_by refusal.Disk = opening.Disk
end_by refusal.Memory = opening.Memory

-- and where a reading fails
abbrev pub end_of_reading : ReadFault → OpenEnd
end_of_reading reading.Disk = opening.Disk
end_of_reading reading.Memory = opening.Memory

-- the payloads stand for a base and a history that lead to the state, whose bodies stand in them
pub record IsLoaded (ps : List (List ℕ)) (state : State Body) : Type 0 where
  pub base : State Bytes
  pub history : History
  pub is_history : IsHistoryOf ps base history
  pub state_is : state_with (bytes_of ps) state ≡ replay base history
  pub stored : OfState (IsStored ps) state

-- the payloads up to a place were read: they lead to the state, and their pieces are these stretches
pub record IsLoading (ps : List (List ℕ)) (place : ℕ) (state : State Body) (earlier : List Stretch) (last : Stretch) : Type 0 where
  pub before : List (List ℕ)
  pub rest : List (List ℕ)
  pub all : ps ≡ before ++ rest
  pub place_is : place ≡ end_of before
  pub loaded : IsLoaded before state
  pub pieces : ArePlaces before earlier last

-- the command may stand behind these payloads in this state, where each of its bodies is a reference
pub record MayStand (before : List (List ℕ)) (s : State Body) (c : Command Body) : Type 0 where
  pub kind : IsTaken (kind_of c)
  pub few : s.count < MOST_COMMANDS
  pub stored : OfCommand (λ b. is_stored before b ≡ true) c
  pub allowed : allowed (λ b. b.len) s c ≡ None

-- the refusal names the first payload that adds nothing
abbrev pub NamesForeign : List (List ℕ) → Unreadable → Type 0
NamesForeign ps unreadable.NotALog = ⊥
NamesForeign ps unreadable.OldVersion = ⊥
NamesForeign ps (unreadable.Damaged at kept computed) = ⊥
NamesForeign ps (unreadable.Short at wanted left) = ⊥
NamesForeign ps (unreadable.Foreign at) = IsForeignAt ps at

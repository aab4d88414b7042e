-- What a disk in memory holds after some calls, and what a crash may leave of them. The newest call stands first.
use Rattle.std.specs.Prelude.{◌≡◌, ◌⊎◌, ◌≤◌, ℕ, List, [], ◌∷◌, length, take}
use Rattle.mt_disk.specs.declared.disk.FileNo.{FileNo}
use Rattle.mt_disk.specs.Files.{Files, contents, with_contents, overwritten}
use Rattle.mt_disk.specs.CrashModel.{Torn, MaybeCut, OnFile}

-- a call that changed something: a write or a cut that was done or that failed, and a sync that was done
pub data DiskCall : Type 0 where
  Wrote : FileNo → ℕ → List ℕ → DiskCall
  TriedWrite : FileNo → ℕ → List ℕ → DiskCall
  WasCut : FileNo → ℕ → DiskCall
  TriedCut : FileNo → ℕ → DiskCall
  Synced : FileNo → DiskCall

-- what a read gives after a call
abbrev pub after_call : DiskCall → Files → Files
after_call (Wrote file at bytes) files = with_contents files file (overwritten (contents files file) at bytes)
after_call (TriedWrite file at bytes) files = files
after_call (WasCut file to) files = with_contents files file (take to (contents files file))
after_call (TriedCut file to) files = files
after_call (Synced file) files = files

-- what a read gives after these calls of a disk that held base
abbrev pub seen_after : Files → List DiskCall → Files
seen_after base [] = base
seen_after base (call ∷ past) = after_call call (seen_after base past)

-- A crash after this call may leave new, where one before it might have left old and a read gave seen. A write or a cut may have
-- reached the disk in part, also one that failed; what a crash leaves of a synced file is what a read gives.
abbrev pub Leaves : DiskCall → Files → Files → Files → Type 0
Leaves (Wrote file at bytes) seen old new = OnFile file (Torn at (length bytes)) old new ⊎ ((old ≡ seen) × (new ≡ after_call (Wrote file at bytes) seen))
Leaves (TriedWrite file at bytes) seen old new = OnFile file (Torn at (length bytes)) old new
Leaves (WasCut file to) seen old new = OnFile file (MaybeCut to) old new
Leaves (TriedCut file to) seen old new = OnFile file (MaybeCut to) old new
Leaves (Synced file) seen old new = (new ≡ old) × (contents new file ≡ contents seen file)

-- what a crash after these calls may leave
abbrev pub Left : Files → List DiskCall → Files → Type 0
Left base [] c = c ≡ base
Left base (call ∷ past) c = (d : Files) × Left base past d × Leaves call (seen_after base past) d c

-- what a crash since that many calls might have left
abbrev pub LeftSince : Files → List DiskCall → ℕ → Files → Type 0
LeftSince base [] t c = c ≡ base
LeftSince base (call ∷ past) t c = Left base (call ∷ past) c ⊎ ((t ≤ length past) × LeftSince base past t c)

-- The calls that a record of entries and of written bytes stands for.
use Rattle.std.specs.Prelude.{ℕ, true, false, List, [], ◌∷◌, take, drop}
use Rattle.mt_disk.specs.Calls.{DiskCall, Wrote, TriedWrite, WasCut, TriedCut, Synced}
use Rattle.mt_disk.specs.declared.record.Entry.{Entry}
use Rattle.mt_disk.specs.declared.record.Entry.TheVariants.{Write, Cut, Sync}

-- how many of the written bytes an entry has
abbrev pub size_of_entry : Entry → ℕ
size_of_entry (Write file at len was_done) = len
size_of_entry (Cut file to was_done) = 0
size_of_entry (Sync file) = 0

-- the call that an entry stands for, with its bytes
abbrev pub call_of : Entry → List ℕ → DiskCall
call_of (Write file at len true) bytes = Wrote file at bytes
call_of (Write file at len false) bytes = TriedWrite file at bytes
call_of (Cut file to true) bytes = WasCut file to
call_of (Cut file to false) bytes = TriedCut file to
call_of (Sync file) bytes = Synced file

-- the calls of these entries, the last first, before which these calls were made; each entry's bytes follow the earlier ones'
abbrev pub calls_onto : List DiskCall → List Entry → List ℕ → List DiskCall
calls_onto past [] bytes = past
calls_onto past (entry ∷ entries) bytes = calls_onto (call_of entry (take (size_of_entry entry) bytes) ∷ past) entries (drop (size_of_entry entry) bytes)

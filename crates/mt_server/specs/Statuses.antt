-- How a run ended, and what each status says.
use Rattle.std.specs.Prelude.{◌≡◌, ◌⊎◌, ◌+◌, ◌<◌, ℕ, Bool, true, false, List, Option, Ok}
use Rattle.mt_base.specs.Counts.{Rose}
use Rattle.mt_opening.specs.History.{Bytes}
use Rattle.mt_opening.specs.declared.opening.OpenEnd.{OpenEnd}
use Rattle.mt_opening.specs.declared.opening.OpenEnd.TheVariants as opening
use Rattle.mt_connection.specs.Outcomes.{ByEnd, Outcome}
use Rattle.mt_connection.specs.declared.end.ConnectionEnd.{ConnectionEnd}
use Rattle.mt_connection.specs.declared.end.ConnectionEnd.TheVariants as ended
use Rattle.mt_runner.specs.declared.turn.Turn.TheVariants as turn
use Rattle.mt_settings.specs.Words.{settings_of}
use Rattle.mt_settings.specs.declared.settings.Mode.TheVariants as mode
use Rattle.mt_settings.specs.declared.settings.Settings.{Settings}
use Rattle.mt_server.specs.Lines.{SaysLine, line_of}
use Rattle.mt_server.specs.declared.status.ServeEnd.TheVariants as serving
use Rattle.mt_server.specs.declared.status.Status.{Status}
use Rattle.mt_server.specs.declared.status.Status.TheVariants as status

-- the words ask for a session, with these settings
abbrev pub WantsSession : List Bytes → Settings → Type 0
WantsSession words settings = (settings_of words ≡ Ok settings) × (settings.mode ≡ mode.Session)

-- the words ask for so many connections to be served, with these settings
abbrev pub WantsServe : List Bytes → Settings → ℕ → Type 0
WantsServe words settings connections = (listen : Bytes) × (settings_of words ≡ Ok settings) × (settings.mode ≡ mode.Serve connections listen)

-- the words ask for a session or a serve, with these settings
abbrev pub WantsService : List Bytes → Settings → Type 0
WantsService words settings = WantsSession words settings ⊎ ((connections : ℕ) × WantsServe words settings connections)

-- as many messages as one connection has
abbrev pub most_messages : ℕ
most_messages = 16777216

-- a connection ended well
abbrev pub is_ended : ConnectionEnd → Bool
is_ended ended.Ended = true
is_ended _ = false

-- the number of a status
abbrev pub code_of : Status → ℕ
code_of status.Usage = 1
code_of (status.UnreadableLog why) = 2
code_of status.OpeningFault = 5
code_of status.OutOfMemory = 8
code_of (status.Session ended.Ended) = 0
code_of (status.Session ended.Full) = 9
code_of (status.Session ended.SourceFault) = 3
code_of (status.Session ended.SinkFault) = 4
code_of (status.Session ended.Disk) = 5
code_of (status.Session ended.Memory) = 8
code_of (status.Session ended.Truncated) = 11
code_of (status.Session ended.Refused) = 12
code_of (status.Session ended.Many) = 13
code_of (status.Drained turn.Idle) = 0
code_of (status.Drained turn.SpawnFault) = 6
code_of (status.Drained turn.NotYet) = 7
code_of (status.Drained (turn.Closed job)) = 7
code_of (status.Drained (turn.Committed task)) = 7
code_of (status.Drained turn.Full) = 9
code_of (status.Drained turn.Disk) = 5
code_of (status.Drained turn.Memory) = 8
code_of (status.Serve serving.Served) = 0
code_of (status.Serve serving.TasksFailed) = 6
code_of (status.Serve serving.TasksPending) = 7
code_of (status.Serve serving.LogFull) = 9
code_of (status.Serve serving.Disk) = 5
code_of (status.Serve serving.Memory) = 8
code_of (status.Serve serving.NoLink) = 10
code_of (status.Serve serving.Spent) = 8

-- After a run the disk is ready for another one, unless it failed or memory was wanted; of a disk whose log can't be read, where it
-- told at entry what it held.
abbrev pub IsReadyAfter : Status → (told : Bool) → (Ready : Type 0) → Type 0
IsReadyAfter (status.UnreadableLog why) told Ready = told ≡ true → Ready
IsReadyAfter status.OpeningFault told Ready = Unit {0}
IsReadyAfter status.OutOfMemory told Ready = Unit {0}
IsReadyAfter (status.Session ended.Disk) told Ready = Unit {0}
IsReadyAfter (status.Session ended.Memory) told Ready = Unit {0}
IsReadyAfter (status.Drained turn.Disk) told Ready = Unit {0}
IsReadyAfter (status.Drained turn.Memory) told Ready = Unit {0}
IsReadyAfter (status.Serve serving.Disk) told Ready = Unit {0}
IsReadyAfter (status.Serve serving.Memory) told Ready = Unit {0}
IsReadyAfter _ told Ready = Ready

-- the engine is open at the end, but where the disk failed or memory was wanting
abbrev pub StaysOpen : Status → (closed : Bool) → Type 0
StaysOpen (status.Session ended.Disk) closed = Unit {0}
StaysOpen (status.Session ended.Memory) closed = Unit {0}
StaysOpen (status.Drained turn.Disk) closed = Unit {0}
StaysOpen (status.Drained turn.Memory) closed = Unit {0}
StaysOpen (status.Serve serving.Disk) closed = Unit {0}
StaysOpen (status.Serve serving.Memory) closed = Unit {0}
StaysOpen _ closed = closed ≡ false

-- a session may end so: where its connection ended well, with the answer of its drain
abbrev pub IsOfSession : Status → Type 0
IsOfSession status.Usage = ⊥
IsOfSession (status.Session ended.Ended) = ⊥
IsOfSession (status.Serve end) = ⊥
IsOfSession _ = Unit {0}

-- a serve may end so
abbrev pub IsOfServe : Status → Type 0
IsOfServe status.Usage = ⊥
IsOfServe (status.Session end) = ⊥
IsOfServe (status.Drained last) = ⊥
IsOfServe _ = Unit {0}

-- the store was opened
abbrev pub IsBegun : Status → Type 0
IsBegun (status.Session end) = Unit {0}
IsBegun (status.Drained last) = Unit {0}
IsBegun (status.Serve end) = Unit {0}
IsBegun _ = ⊥

-- it was not
abbrev pub IsUnopened : Status → Type 0
IsUnopened (status.Session end) = ⊥
IsUnopened (status.Drained last) = ⊥
IsUnopened (status.Serve end) = ⊥
IsUnopened _ = Unit {0}

-- it was not, and no line says so
abbrev pub IsSilent : Status → Type 0
IsSilent status.OpeningFault = Unit {0}
IsSilent status.OutOfMemory = Unit {0}
IsSilent _ = ⊥

-- a store was not opened: its line was said, or the disk failed, or memory was wanted
abbrev pub NotOpened : Status → (got : Option Bytes) (write_faults disk_faults : ℕ) (got' : Option Bytes) (write_faults' disk_faults' : ℕ) → Type 0
NotOpened (status.UnreadableLog why) got w d got' w' d' = SaysLine (line_of why) got got' w w'
NotOpened status.OpeningFault got w d got' w' d' = (got' ≡ got) × (w' ≡ w) × Rose d d'
NotOpened status.OutOfMemory got w d got' w' d' = (got' ≡ got) × (w' ≡ w)
NotOpened _ got w d got' w' d' = ⊥

-- the status for why a store was not opened: its line was said, or memory was wanted for it
abbrev pub Tells : OpenEnd → (got : Option Bytes) (write_faults : ℕ) → Status → (got' : Option Bytes) (write_faults' : ℕ) → Type 0
Tells (opening.Unreadable why) got w (status.UnreadableLog said) got' w' = (said ≡ why) × SaysLine (line_of why) got got' w w'
Tells (opening.Unreadable why) got w status.OutOfMemory got' w' = (got' ≡ got) × (w' ≡ w)
Tells opening.Disk got w status.OpeningFault got' w' = (got' ≡ got) × (w' ≡ w)
Tells opening.Memory got w status.OutOfMemory got' w' = (got' ≡ got) × (w' ≡ w)
Tells end got w s got' w' = ⊥

-- the bytes say this status, where it is one that the bytes decide
abbrev pub ByBytes : Bytes → Status → Type 0
ByBytes bytes (status.Session end) = ByEnd most_messages bytes end
ByBytes bytes (status.Drained last) = ByEnd most_messages bytes ended.Ended
ByBytes bytes _ = Unit {0}

-- a fault of the disk comes only where its count rose
abbrev pub ByDisk : Status → (disk_faults disk_faults' : ℕ) → Type 0
ByDisk (status.Session ended.Disk) d d' = Rose d d'
ByDisk (status.Drained turn.Disk) d d' = Rose d d'
ByDisk (status.Serve serving.Disk) d d' = Rose d d'
ByDisk status.OpeningFault d d' = Rose d d'
ByDisk _ d d' = Unit {0}

-- tasks that were not run for faults of their spawner come only where its count rose
abbrev pub BySpawner : Status → (spawn_faults spawn_faults' : ℕ) → Type 0
BySpawner (status.Drained turn.SpawnFault) f f' = Rose f f'
BySpawner (status.Serve serving.TasksFailed) f f' = Rose f f'
BySpawner _ f f' = Unit {0}

-- all links that were asked for were taken where that is the status, and fewer, with a counted fault of the door, on the status of none
abbrev pub ByDoor : Status → (wanted taken faults taken' faults' : ℕ) → Type 0
ByDoor (status.Serve serving.Served) wanted t f t' f' = t' ≡ t + wanted
ByDoor (status.Serve serving.TasksFailed) wanted t f t' f' = t' ≡ t + wanted
ByDoor (status.Serve serving.TasksPending) wanted t f t' f' = t' ≡ t + wanted
ByDoor (status.Serve serving.NoLink) wanted t f t' f' = (t' < t + wanted) × Rose f f'
ByDoor _ wanted t f t' f' = Unit {0}

-- a fault of the source or the sink comes only in a session, and only where its count rose
abbrev pub ByLink : Status → (read_faults write_faults read_faults' write_faults' : ℕ) → Type 0
ByLink (status.Session ended.SourceFault) r w r' w' = Rose r r'
ByLink (status.Session ended.SinkFault) r w r' w' = Rose w w'
ByLink _ r w r' w' = Unit {0}

-- a status that the bytes of the source do not decide: the words, the log, a counted fault, want of memory or a turn without room did
abbrev pub IsBroken : ℕ → Type 0
IsBroken result = (result ≡ 1) ⊎ (result ≡ 2) ⊎ (result ≡ 3) ⊎ (result ≡ 4) ⊎ (result ≡ 5) ⊎ (result ≡ 8) ⊎ (result ≡ 9)

-- all was answered: no task is left; or tasks are, for faults of the spawner or since they still run
abbrev pub IsAnswered : ℕ → Type 0
IsAnswered result = (result ≡ 0) ⊎ (result ≡ 6) ⊎ (result ≡ 7)

-- the status that the bytes ask for
abbrev pub Asked : Outcome → ℕ → Type 0
Asked Outcome.Closed result = IsAnswered result
Asked Outcome.CutShort result = result ≡ 11
Asked Outcome.Malformed result = result ≡ 12
Asked Outcome.TooMany result = result ≡ 13

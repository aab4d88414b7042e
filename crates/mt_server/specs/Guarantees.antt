-- What the top call promises of a session, and of many connections.
use Rattle.std.specs.Prelude.{◌≡◌, ◌⊎◌, ℕ, ◌≤◌, true, false, List, [], ◌++◌, Option}
use Rattle.std.specs.List.{AllByRecursion, Contains}
use Rattle.mt_base.specs.Counts.{NeverFell, RoseBy}
use Rattle.mt_base.specs.Lists.{IsPrefixOf}
use Rattle.mt_disk.specs.Files.{Files}
use Rattle.mt_opening.specs.Current.{HasFront, HasNearly, IsBetween}
use Rattle.mt_opening.specs.History.{HasHistory, History, Bytes}
use Rattle.mt_jobtext.specs.Archives.{ArchivesFrom}
use Rattle.mt_lives.specs.Lives.{Lived}
use Rattle.mt_model.specs.CommandStep.{replay}
use Rattle.mt_model.specs.Finished.{IsMeant, is_finished}
use Rattle.mt_model.specs.Honest.{Honest, HonestFrom}
use Rattle.mt_model.specs.Lawful.{Lawful}
use Rattle.mt_model.specs.State.{State, first_state}
use Rattle.mt_model.specs.Tasks.{is_running}
use Rattle.mt_records.specs.Fate.{fate}
use Rattle.mt_tasks.specs.Standing.{ready_tasks}
use Rattle.mt_types.specs.declared.job.Job.{Job}
use Rattle.mt_types.specs.declared.task.Raw.{Raw}
use Rattle.mt_types.specs.declared.task.Run.{Run}
use Rattle.mt_runner.specs.Account.{AccountSide, NoCountFell}
use Rattle.mt_runner.specs.Turning.{Drained, companies, most_turns}
use Rattle.mt_runner.specs.declared.turn.Turn.TheVariants as turn
use Rattle.mt_connection.specs.Endings.{Served}
use Rattle.mt_connection.specs.Sides.{LinkSide, Sides, account_of, joined, link_of}
use Rattle.mt_connection.specs.Transcript.{Setting, working}
use Rattle.mt_connection.specs.declared.end.ConnectionEnd.TheVariants as ended
use Rattle.mt_server.specs.Events.{AreWhole, DoorSide, DrainsBehind, Event, Events, IsEnd, Passed, Round, Rounds, on_link, size_of, turns_in}
use Rattle.mt_server.specs.Statuses.{NotOpened, most_messages}
use Rattle.mt_server.specs.declared.status.ServeEnd.TheVariants as serving
use Rattle.mt_server.specs.declared.status.Status.{Status}
use Rattle.mt_server.specs.declared.status.Status.TheVariants as status

-- What a run works on at one moment, and the disk under it: what a crash now leaves, and what one since a moment may have left; and how
-- many bytes the log has.
pub record Scene (A : Type 0) : Type 1 where
  pub side : A
  pub images : Files → Type 0
  pub since : ℕ → Files → Type 0
  pub size : ℕ

abbrev pub scene : {A D : Type 0} → (seen : D → Option Files) (may_leave : D → Files → Type 0) (left_since : D → ℕ → Files → Type 0) → D → A → Scene A
scene seen may_leave left_since disk side = record { side = side; images = may_leave disk; since = left_since disk; size = size_of (seen disk) }

-- A crash at any moment from `before` on leaves files that have P; what one since an earlier moment may have left was left before, or has P.
pub record Leaves (past since : ℕ → Files → Type 0) (before now : ℕ) (P : Files → Type 0) : Type 0 where
  pub later : before ≤ now
  pub each : (c : Files) → since before c → P c
  pub earlier : (t : ℕ) (c : Files) → t ≤ before → since t c → past t c ⊎ P c

-- At exit each image has the whole history. After a fault of the disk its last command may be missing.
abbrev pub IsDurable : Status → State Bytes → History → Files → Type 0
IsDurable (status.Session ended.Disk) base whole c = HasNearly base whole c
IsDurable (status.Drained turn.Disk) base whole c = HasNearly base whole c
IsDurable (status.Serve serving.Disk) base whole c = HasNearly base whole c
IsDurable _ base whole c = HasHistory base whole c

-- at exit the log has so many bytes, unless the disk failed or memory was wanted
abbrev pub HasSize : Status → ℕ → ℕ → Type 0
HasSize status.OpeningFault used size = Unit {0}
HasSize status.OutOfMemory used size = Unit {0}
HasSize (status.Session ended.Disk) used size = Unit {0}
HasSize (status.Session ended.Memory) used size = Unit {0}
HasSize (status.Drained turn.Disk) used size = Unit {0}
HasSize (status.Drained turn.Memory) used size = Unit {0}
HasSize (status.Serve serving.Disk) used size = Unit {0}
HasSize (status.Serve serving.Memory) used size = Unit {0}
HasSize _ used size = used ≡ size

-- each finished job of this history is what its phases mean; `earlier` led to the base
abbrev pub AreMeant : Bytes → (Run → Bytes → Raw → Type 0) → State Bytes → (earlier k : History) → Type 0
AreMeant login runs base earlier k = (job : Job Bytes) → Contains (replay base k).jobs job → is_finished job ≡ true → IsMeant login runs (fate login) (earlier ++ k) job

-- whatever history an image has: it is honest, its state lawful, and its finished jobs are meant
abbrev pub IsMeantIn : Bytes → (Run → Bytes → Raw → Type 0) → State Bytes → History → Files → Type 0
IsMeantIn login runs base earlier c = (k : History) → HasHistory base k c → Honest login runs (fate login) (earlier ++ k) × Lawful (replay base k) × AreMeant login runs base earlier k

-- no task is ready, and each job whose input has ended is done
pub record NothingLeft (s : State Bytes) : Type 0 where
  pub ready : ready_tasks s ≡ []
  pub done : AllByRecursion (λ (job : Job Bytes). job.ended ≡ true → is_running job ≡ false) s.jobs

-- What a run leaves of an account, over the base and the history that the disk stood for: commands were added; at exit each image has the
-- whole history, and the log so many bytes; a crash at any moment leaves a history between; each commit that was added came of a child,
-- and each job that was ended has its texts; each front of the history is lawful, and its finished jobs are meant; as many children lived
-- side by side as slots and ready tasks allow; each image since the entry ends a life of the store, which has told of any history that stands
-- at its front; no count fell.
pub record Holds (s : Setting) (old : Scene AccountSide) (end : Status) (new : Scene AccountSide) : Type 0 where
  pub added : History
  pub grew : new.side.history ≡ old.side.history ++ added
  pub durable_at_exit : s.knows ≡ true → (c : Files) → new.images c → IsDurable end s.base new.side.history c
  pub sized : s.knows ≡ true → HasSize end new.side.used new.size
  pub crash_prefix : s.knows ≡ true → Leaves old.since new.since old.side.time new.side.time (IsBetween s.base old.side.history new.side.history)
  pub honest : HonestFrom s.login s.runs (fate s.login) (replay s.base old.side.history) added
  pub archives : ArchivesFrom s.login (replay s.base old.side.history) added
  pub lawful : s.knows ≡ true → (k : History) → IsPrefixOf k new.side.history → Lawful (replay s.base k)
  pub meant : (earlier : History) → replay first_state earlier ≡ s.base → Honest s.login s.runs (fate s.login) (earlier ++ old.side.history)
      → (k : History) → IsPrefixOf k new.side.history → AreMeant s.login s.runs s.base earlier k
  pub side_by_side : RoseBy (companies s.slots (replay s.base old.side.history) added) old.side.tasks.company new.side.tasks.company
  pub lived : s.knows ≡ true → (told : History) (c : Files) → new.since old.side.time c → HasFront s.base c told → Lived HasHistory s.base old.side.history new.side.history told c
  pub counts : NoCountFell old.side new.side

-- ---- a session

-- nothing was served: the account stands as it was, and of the source nothing was read
pub record Unserved (end : Status) (old new : Sides) : Type 0 where
  pub history : new.history ≡ old.history
  pub used : new.used ≡ old.used
  pub left : new.left ≡ old.left
  pub ends : NotOpened end old.got old.write_faults old.disk_faults new.got new.write_faults new.disk_faults

-- the children that were left were ended: nothing has changed but the count of the spawner's faults
pub record IsStopped (old new : AccountSide) : Type 0 where
  pub history : new.history ≡ old.history
  pub used : new.used ≡ old.used
  pub disk_faults : new.disk_faults ≡ old.disk_faults
  pub time : new.time ≡ old.time
  pub asked : new.asked ≡ old.asked
  pub waits : new.tasks.waits ≡ old.tasks.waits
  pub company : new.tasks.company ≡ old.tasks.company
  pub faults : NeverFell old.tasks.faults new.tasks.faults

-- its one connection was served, and drained where it ended well
abbrev pub Worked : Setting → (ℕ → Files → Type 0) → Sides → Status → Sides → Type 0
Worked s since old (status.Session ended.Ended) new = ⊥
Worked s since old (status.Session end) new = Served s since most_messages old end new
Worked s since old (status.Drained last) new =
    (middle : Sides) × Served s since most_messages old ended.Ended middle × Drained (working s) most_turns (account_of middle) last (account_of new) × (link_of new ≡ link_of middle)
Worked s since old end new = ⊥

-- and the children that were left were ended; or its store was not opened
abbrev pub Session : Setting → (ℕ → Files → Type 0) → Sides → Status → Sides → Type 0
Session s since old status.Usage new = ⊥
Session s since old (status.Serve end) new = ⊥
Session s since old (status.UnreadableLog why) new = Unserved (status.UnreadableLog why) old new
Session s since old status.OpeningFault new = Unserved status.OpeningFault old new
Session s since old status.OutOfMemory new = Unserved status.OutOfMemory old new
Session s since old end new = (worked : Sides) × Worked s since old end worked × (link_of new ≡ link_of worked) × IsStopped (account_of worked) (account_of new)

abbrev pub account_scene : Scene Sides → Scene AccountSide
account_scene x = record { side = account_of x.side; images = x.images; since = x.since; size = x.size }

-- one session over a base and a history that the disk stood for: what was said, each reply durable from a moment of its exchange on, the
-- turns of tasks behind each message and at the end, and what it leaves
pub record HasRun (s : Setting) (old : Scene Sides) (end : Status) (new : Scene Sides) : Type 0 where
  pub transcript : Session s new.since old.side end new.side
  pub holds : Holds s (account_scene old) end (account_scene new)

-- ---- a serve

-- one turn of a link of a door
abbrev pub Visited : {L : Type 0} → (L → LinkSide) → (L → L → Type 0) → Setting → (ℕ → Files → Type 0) → Round L → AccountSide → AccountSide → Type 0
Visited side stays s since x old new =
    Served (on_link s (side x.taken)) since most_messages (joined (side x.taken) old) x.end (joined (side x.given) new) × stays x.taken x.given

-- opening has changed nothing of the account but the count of faults and the disk's moment
pub record IsOpened (old new : AccountSide) : Type 0 where
  pub history : new.history ≡ old.history
  pub used : new.used ≡ old.used
  pub tasks : new.tasks ≡ old.tasks
  pub asked : new.asked ≡ old.asked
  pub counts : NoCountFell old new

-- the store was opened, these events came, and the children that were left were ended
pub record Serving {L : Type 0} (side : L → LinkSide) (stays : L → L → Type 0) (s : Setting) (since : ℕ → Files → Type 0) (old : AccountSide) (events : List (Event L)) (new : AccountSide) : Type 0 where
  pub opened : AccountSide
  pub is_opened : IsOpened old opened
  pub worked : AccountSide
  pub led : Events (Visited side stays s since) (DrainsBehind s) opened events worked
  pub is_stopped : IsStopped worked new
  -- where each link had one turn, these are whole connections, one after another
  pub whole : AreWhole events → Rounds (Visited side stays s since) (DrainsBehind s) opened (turns_in events) worked

-- an account and a door
pub record Shop (L : Type 0) : Type 0 where
  pub account : AccountSide
  pub door : DoorSide L

abbrev pub shop : {L : Type 0} → AccountSide → DoorSide L → Shop L
shop account door = record { account = account; door = door }

abbrev pub shop_scene : {L : Type 0} → Scene (Shop L) → Scene AccountSide
shop_scene x = record { side = x.side.account; images = x.images; since = x.since; size = x.size }

-- so many links were to be served, at which these events came; or the store was not opened
abbrev pub Serve : {L : Type 0} → (L → LinkSide) → (L → L → Type 0) → Setting → (ℕ → Files → Type 0) → ℕ → Shop L → Status → Shop L → List (Event L) → Type 0
Serve side stays s since wanted old (status.Serve end) new events = Serving side stays s since old.account events new.account × IsEnd wanted end events old.door new.door
Serve side stays s since wanted old (status.Session end) new events = ⊥
Serve side stays s since wanted old (status.Drained last) new events = ⊥
Serve side stays s since wanted old status.Usage new events = ⊥
Serve side stays s since wanted old end new events = (events ≡ []) × (new.account.history ≡ old.account.history) × (new.account.used ≡ old.account.used)

-- one serve over a base and a history that the disk stood for: the turns of its links, each of which that is over was given back; and what it leaves
pub record HasServed {L : Type 0} (side : L → LinkSide) (stays : L → L → Type 0) (s : Setting) (wanted : ℕ) (old : Scene (Shop L)) (end : Status) (new : Scene (Shop L)) : Type 0 where
  pub events : List (Event L)
  pub transcript : Serve side stays s new.since wanted old.side end new.side events
  pub links : Passed old.side.door events new.side.door
  pub holds : Holds s (shop_scene old) end (shop_scene new)

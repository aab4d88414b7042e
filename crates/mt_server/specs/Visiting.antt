-- What one call at a door does, and the event that it makes with the drain behind it.
use Rattle.std.specs.Prelude.{◌≡◌, ◌+◌, ℕ, Bool, true, false, List, [], ◌∷◌, Option, Some, None}
use Rattle.mt_base.specs.Counts.{Rose, NeverFell}
use Rattle.mt_disk.specs.Files.{Files}
use Rattle.mt_edge.specs.Doors.{as_count}
use Rattle.mt_runner.specs.declared.turn.Turn.{Turn}
use Rattle.mt_runner.specs.declared.turn.Turn.TheVariants as turn
use Rattle.mt_connection.specs.Endings.{Images}
use Rattle.mt_connection.specs.Sides.{LinkSide}
use Rattle.mt_connection.specs.Transcript.{Setting}
use Rattle.mt_connection.specs.declared.end.ConnectionEnd.{ConnectionEnd}
use Rattle.mt_server.specs.Events.{DrainsBehind, Event, Events, Had, IsEnd, Passed, Round, Woke, broken, drain_breaks, drain_of, firsts, lasts, turns_in}
use Rattle.mt_server.specs.Guarantees.{IsDurable, Shop, Visited}
use Rattle.mt_server.specs.declared.came.Came.{Came}
use Rattle.mt_server.specs.declared.came.Came.TheVariants as came
use Rattle.mt_server.specs.declared.came.Happened.{Happened}
use Rattle.mt_server.specs.declared.came.Happened.TheVariants as happened
use Rattle.mt_server.specs.declared.status.ServeEnd.{ServeEnd}
use Rattle.mt_server.specs.declared.status.ServeEnd.TheVariants as serving
use Rattle.mt_server.specs.declared.status.Status.TheVariants as status

-- ---- a call at the door

-- A link that had its turn and was given back, or none. What the images have behind a turn goes by its end.
abbrev pub Visit : {L : Type 0} → (L → LinkSide) → (L → L → Type 0) → Setting → (ℕ → Files → Type 0) → (Files → Type 0) → Shop L → Came → Shop L → Type 0
Visit {L} side stays s since images old (came.Had first last end) new =
    (x : Round L) × (x.first ≡ first) × (x.over ≡ last) × (x.end ≡ end) × Visited side stays s since x old.account new.account × Passed old.door (Had x ∷ []) new.door × (s.knows ≡ true → Images end s.base new.account.history images)
Visit side stays s since images old came.Woke new = (new.account ≡ old.account) × ((last : Turn) → Passed old.door (Woke last ∷ []) new.door)
Visit side stays s since images old came.NoLink new = (new.account ≡ old.account) × Passed old.door [] new.door × Rose old.door.faults new.door.faults

-- what a call at the door counts: a link that had its turn, none, or a fault
abbrev pub TurnCounts : Came → (taken over faults taken' over' faults' : ℕ) → Type 0
TurnCounts (came.Had first last end) t o f t' o' f' = (t' ≡ t + as_count first) × (o' ≡ o + as_count last) × NeverFell f f'
TurnCounts came.Woke t o f t' o' f' = (t' ≡ t) × (o' ≡ o) × NeverFell f f'
TurnCounts came.NoLink t o f t' o' f' = (t' ≡ t) × Rose f f'

-- a new link comes, and the door fails, only where a new link was asked for
abbrev pub IsAskedFor : (fresh : Bool) → Came → Type 0
IsAskedFor fresh (came.Had first last end) = first ≡ true → fresh ≡ true
IsAskedFor fresh came.Woke = Unit {0}
IsAskedFor fresh came.NoLink = fresh ≡ true

-- how the turn of the link that came ended
abbrev pub end_of : Came → Option ConnectionEnd
end_of (came.Had first last end) = Some end
end_of came.Woke = None
end_of came.NoLink = None

-- ---- an event

-- what an event came to whose drain ended so
abbrev pub happened_by : (first over : Bool) → Turn → Happened
happened_by first over turn.Full = happened.Broke serving.LogFull
happened_by first over turn.Disk = happened.Broke serving.Disk
happened_by first over turn.Memory = happened.Broke serving.Memory
happened_by first over last = happened.Went first over last

-- An event that did not break, or one that did, or no link. What the images have behind one that broke goes by its end.
abbrev pub Happens : {L : Type 0} → (L → LinkSide) → (L → L → Type 0) → Setting → (ℕ → Files → Type 0) → (Files → Type 0) → Shop L → Happened → Shop L → Type 0
Happens {L} side stays s since images old (happened.Went first over last) new =
    (e : Event L) × (drain_of e ≡ Some last) × (broken e ≡ None) × (drain_breaks last ≡ None) × (firsts (turns_in (e ∷ [])) ≡ as_count first) × (lasts (turns_in (e ∷ [])) ≡ as_count over)
    × Events (Visited side stays s since) (DrainsBehind s) old.account (e ∷ []) new.account × Passed old.door (e ∷ []) new.door
Happens {L} side stays s since images old (happened.Broke end) new =
    (e : Event L) × (broken e ≡ Some end) × Events (Visited side stays s since) (DrainsBehind s) old.account (e ∷ []) new.account × Passed old.door (e ∷ []) new.door
    × (s.knows ≡ true → (c : Files) → images c → IsDurable (status.Serve end) s.base new.account.history c)
Happens side stays s since images old happened.NoLink new = (new.account ≡ old.account) × Passed old.door [] new.door × Rose old.door.faults new.door.faults

-- Over an open store so many links were served, at which these events came.
pub record ServesLinks {L : Type 0} (side : L → LinkSide) (stays : L → L → Type 0) (s : Setting) (since : ℕ → Files → Type 0) (images : Files → Type 0) (wanted : ℕ) (old : Shop L) (end : ServeEnd) (new : Shop L) : Type 0 where
  pub events : List (Event L)
  pub led : Events (Visited side stays s since) (DrainsBehind s) old.account events new.account
  pub ends : IsEnd wanted end events old.door new.door
  pub links : Passed old.door events new.door
  pub durable : s.knows ≡ true → (c : Files) → images c → IsDurable (status.Serve end) s.base new.account.history c

-- what an event counts that did not break
abbrev pub EventCounts : Happened → (taken over faults taken' over' faults' : ℕ) → Type 0
EventCounts (happened.Went first last turn) t o f t' o' f' = (t' ≡ t + as_count first) × (o' ≡ o + as_count last) × NeverFell f f'
EventCounts (happened.Broke end) t o f t' o' f' = Unit {0}
EventCounts happened.NoLink t o f t' o' f' = (t' ≡ t) × Rose f f'

-- a new link comes, and the door fails, only where a new link was asked for
abbrev pub EventIsAskedFor : (fresh : Bool) → Happened → Type 0
EventIsAskedFor fresh (happened.Went first last turn) = first ≡ true → fresh ≡ true
EventIsAskedFor fresh (happened.Broke end) = Unit {0}
EventIsAskedFor fresh happened.NoLink = fresh ≡ true

-- the engine is open behind an event, but where the disk failed or memory was wanting
abbrev pub LeavesOpen : Happened → Bool → Type 0
LeavesOpen (happened.Broke serving.Disk) closed = Unit {0}
LeavesOpen (happened.Broke serving.Memory) closed = Unit {0}
LeavesOpen _ closed = closed ≡ false

-- a fault of the disk or of the spawner comes only where its count rose
abbrev pub EventFaults : Happened → (disk_faults spawn_faults disk_faults' spawn_faults' : ℕ) → Type 0
EventFaults (happened.Broke serving.Disk) d f d' f' = Rose d d'
EventFaults (happened.Went first last turn.SpawnFault) d f d' f' = Rose f f'
EventFaults _ d f d' f' = Unit {0}

-- how a serve ends whose links are all over, by the answer of its last drain
abbrev pub served_by : Turn → ServeEnd
served_by turn.Idle = serving.Served
served_by turn.SpawnFault = serving.TasksFailed
served_by last = serving.TasksPending

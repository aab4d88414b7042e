-- What an event counts, and how the serving ends by it.
use Rattle.std.proofs.Common.{◌≡◌, ◌<◌, ◌≤◌, ◌+◌, ℕ, Bool, true, false, refl, arith}
use Rattle.mt_base.specs.Counts.{NeverFell, Rose}
use Rattle.mt_edge.specs.Doors.{as_count}
use Rattle.mt_runner.specs.declared.turn.Turn.{Turn}
use Rattle.mt_runner.specs.declared.turn.Turn.TheVariants as turn
use Rattle.mt_runner.specs.ByAnswer.{GoesOn}
use Rattle.mt_server.specs.Statuses.{ByDisk, ByDoor, BySpawner, StaysOpen}
use Rattle.mt_server.specs.Visiting.{EventCounts, EventFaults, EventIsAskedFor, LeavesOpen, happened_by, served_by}
use Rattle.mt_server.specs.declared.came.Happened.TheVariants as happened
use Rattle.mt_server.specs.declared.status.ServeEnd.{ServeEnd}
use Rattle.mt_server.specs.declared.status.ServeEnd.TheVariants as serving
use Rattle.mt_server.specs.declared.status.Status.TheVariants as status

-- ---- an event by the answer of its drain

pub drained_open : (first over : Bool) (last : Turn) (closed : Bool) → GoesOn last closed → LeavesOpen (happened_by first over last) closed
drained_open first over turn.Disk closed is = tt
drained_open first over turn.Memory closed is = tt
drained_open first over turn.Full closed is = is
drained_open first over turn.Idle closed is = is
drained_open first over turn.NotYet closed is = is
drained_open first over turn.SpawnFault closed is = is
drained_open first over (turn.Closed job) closed is = is
drained_open first over (turn.Committed task) closed is = is

pub drained_counts_links : (first over : Bool) (last : Turn) (t o f t' o' f' : ℕ) → (t' ≡ t + as_count first) × (o' ≡ o + as_count over) × NeverFell f f' → EventCounts (happened_by first over last) t o f t' o' f'
drained_counts_links first over turn.Full t o f t' o' f' is = tt
drained_counts_links first over turn.Disk t o f t' o' f' is = tt
drained_counts_links first over turn.Memory t o f t' o' f' is = tt
drained_counts_links first over turn.Idle t o f t' o' f' is = is
drained_counts_links first over turn.NotYet t o f t' o' f' is = is
drained_counts_links first over turn.SpawnFault t o f t' o' f' is = is
drained_counts_links first over (turn.Closed job) t o f t' o' f' is = is
drained_counts_links first over (turn.Committed task) t o f t' o' f' is = is

pub drained_asked : (fresh first over : Bool) (last : Turn) → (first ≡ true → fresh ≡ true) → EventIsAskedFor fresh (happened_by first over last)
drained_asked fresh first over turn.Full is = tt
drained_asked fresh first over turn.Disk is = tt
drained_asked fresh first over turn.Memory is = tt
drained_asked fresh first over turn.Idle is = is
drained_asked fresh first over turn.NotYet is = is
drained_asked fresh first over turn.SpawnFault is = is
drained_asked fresh first over (turn.Closed job) is = is
drained_asked fresh first over (turn.Committed task) is = is

pub drained_faults : (first over : Bool) (last : Turn) (d f d' f' : ℕ) → (last ≡ turn.Disk → Rose d d') → (last ≡ turn.SpawnFault → Rose f f') → EventFaults (happened_by first over last) d f d' f'
drained_faults first over turn.Full d f d' f' disk spawn = tt
drained_faults first over turn.Disk d f d' f' disk spawn = disk refl
drained_faults first over turn.Memory d f d' f' disk spawn = tt
drained_faults first over turn.Idle d f d' f' disk spawn = tt
drained_faults first over turn.NotYet d f d' f' disk spawn = tt
drained_faults first over turn.SpawnFault d f d' f' disk spawn = spawn refl
drained_faults first over (turn.Closed job) d f d' f' disk spawn = tt
drained_faults first over (turn.Committed task) d f d' f' disk spawn = tt

-- ---- the serving by the event that ended it

pub broke_open : (end : ServeEnd) (closed : Bool) → LeavesOpen (happened.Broke end) closed → StaysOpen (status.Serve end) closed
broke_open serving.Disk closed is = tt
broke_open serving.Memory closed is = tt
broke_open end closed is = is

pub served_open_by : (last : Turn) (closed : Bool) → closed ≡ false → StaysOpen (status.Serve (served_by last)) closed
served_open_by turn.Idle closed is = is
served_open_by turn.SpawnFault closed is = is
served_open_by last closed is = is

-- a fault of the disk was counted
pub broke_disk : (end : ServeEnd) (d d1 f d2 f2 : ℕ) → NeverFell d d1 → EventFaults (happened.Broke end) d1 f d2 f2 → ByDisk (status.Serve end) d d2
broke_disk serving.Disk d d1 f d2 f2 before rose = omega (arith, before, rose)
broke_disk end d d1 f d2 f2 before rose = tt

pub served_disk_by : (last : Turn) (d d' : ℕ) → ByDisk (status.Serve (served_by last)) d d'
served_disk_by turn.Idle d d' = tt
served_disk_by turn.SpawnFault d d' = tt
served_disk_by last d d' = tt

pub served_spawn_by : (first over : Bool) (last : Turn) (f f1 d f2 d2 : ℕ) → NeverFell f f1 → EventFaults (happened.Went first over last) d f1 d2 f2 → BySpawner (status.Serve (served_by last)) f f2
served_spawn_by first over turn.SpawnFault f f1 d f2 d2 before rose = omega (arith, before, rose)
served_spawn_by first over turn.Idle f f1 d f2 d2 before rose = tt
served_spawn_by first over last f f1 d f2 d2 before rose = tt

-- the links that were taken
pub served_door_by : (last : Turn) (wanted t f t' f' : ℕ) → t' ≡ t + wanted → ByDoor (status.Serve (served_by last)) wanted t f t' f'
served_door_by turn.Idle wanted t f t' f' is = is
served_door_by turn.SpawnFault wanted t f t' f' is = is
served_door_by last wanted t f t' f' is = is

-- no more were taken than were asked for
pub within : (first fresh : Bool) (t t' wanted : ℕ) → t ≤ wanted → t' ≡ t + as_count first → (first ≡ true → fresh ≡ true) → (fresh ≡ true → t < wanted) → t' ≤ wanted
within true fresh t t' wanted few is asked open_ = let room = open_ (asked refl) in omega (arith, room, is)
within false fresh t t' wanted few is asked open_ = omega (arith, few, is)

pub one_at_most : (b : Bool) → as_count b ≤ 1
one_at_most true = omega arith
one_at_most false = omega arith

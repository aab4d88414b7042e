-- Turns: what one may do to an account, and what it did by its answer; drains.
use Rattle.std.specs.Prelude.{◌≡◌, ◌≢◌, ◌⊎◌, ℕ, ◌+◌, ◌<◌, min, Bool, true, false, List, [], ◌∷◌, ◌++◌, length, Option, Some, None}
use Rattle.std.specs.Bool.{MatchBool}
use Rattle.std.specs.List.{flat_map}
use Rattle.mt_base.specs.Counts.{Rose, RoseBy}
use Rattle.mt_types.specs.declared.command.Archive.{Archive}
use Rattle.mt_types.specs.declared.command.Command.{Command}
use Rattle.mt_types.specs.declared.command.Command.TheVariants.{Commit, Close}
use Rattle.mt_types.specs.declared.job.Job.{Job}
use Rattle.mt_types.specs.declared.job.Task.{Task}
use Rattle.mt_types.specs.declared.task.Fate.{Fate}
use Rattle.mt_types.specs.declared.task.Raw.{Raw}
use Rattle.mt_types.specs.declared.task.Run.{Run}
use Rattle.mt_model.specs.CommandStep.{replay, step}
use Rattle.mt_model.specs.Honest.{Bytes, IsHonest, OfFound}
use Rattle.mt_model.specs.JobSteps.{done_at}
use Rattle.mt_model.specs.State.{State, job_at}
use Rattle.mt_records.specs.Fate.{fate}
use Rattle.mt_jobtext.specs.JobTexts.{archive_of}
use Rattle.mt_body.specs.Growth.{command_growth}
use Rattle.mt_disk.specs.Files.{Files}
use Rattle.mt_opening.specs.Current.{HasNearly}
use Rattle.mt_opening.specs.History.{HasHistory, History}
use Rattle.mt_tasks.specs.Adding.{HasRoom, IsFree, LacksRoom}
use Rattle.mt_tasks.specs.Standing.{ready_tasks, waiting}
use Rattle.mt_runner.specs.Account.{AccountSide, NoCountFell, asked_again}
use Rattle.mt_runner.specs.declared.turn.Turn.{Turn}
use Rattle.mt_runner.specs.declared.turn.Turn.TheVariants as turn

-- 1 where a task is
abbrev pub missed_by : List Task → ℕ
missed_by [] = 0
missed_by (t ∷ ts) = 1

-- ---- one turn

-- what stays the same over turns
pub record Working : Type 1 where
  -- whether the disk tells what it holds
  pub knows : Bool
  -- the moments that the call of a number of the clock may give
  pub moments : ℕ → ℕ → Type 0
  -- the outcomes that a child may give, run so on these bytes
  pub runs : Run → Bytes → Raw → Type 0
  pub login : Bytes
  pub slots : ℕ
  -- how many bytes the log may have
  pub limit : ℕ
  -- the state behind which histories stand
  pub base : State Bytes

abbrev pub working_of : Bool → (ℕ → ℕ → Type 0) → (Run → Bytes → Raw → Type 0) → Bytes → ℕ → ℕ → State Bytes → Working
working_of knows moments runs login slots limit base =
    record { knows = knows; moments = moments; runs = runs; login = login; slots = slots; limit = limit; base = base }

-- what a turn did: the command that it added, if it added one; by how much the log grew; 1 where a task is ready and it added none; and
-- how often the clock had been asked once it was over
pub record TurnTaken : Type 0 where
  pub added : History
  pub grew : ℕ
  pub missed : ℕ
  pub asked : ℕ

-- no turn is taken
abbrev pub no_turn : ℕ → TurnTaken
no_turn asked = record { added = []; grew = 0; missed = 0; asked = asked }

-- the work of a turn whose moment this call of the clock gave: the commit of a task where no job waits; else the end, with its texts, of
-- the first job that does
abbrev pub IsDue : Working → ℕ → State Bytes → Command Bytes → Type 0
IsDue w call s (Commit job phase place f moment) = w.moments call moment × (waiting s ≡ None)
IsDue w call s (Close job cancelled archive moment) =
    w.moments call moment × (cancelled ≡ false) × (waiting s ≡ Some job) × OfFound (λ (j : Job Bytes). archive ≡ archive_of w.login (done_at moment false j)) (job_at s.jobs job)
IsDue w call s other = ⊥

-- a command that a turn may add where it has room
pub record MayAdd (w : Working) (call : ℕ) (s : State Bytes) (c : Command Bytes) : Type 0 where
  pub due : IsDue w call s c
  pub honest : IsHonest w.login w.runs (fate w.login) s c
  pub is_free : IsFree s c

-- what a turn did in a state and a log of so many bytes, by its commands
abbrev pub DidAdd : Working → ℕ → State Bytes → ℕ → TurnTaken → History → Type 0
DidAdd w call s used t [] = (waiting s ≡ None) × (t.grew ≡ 0) × (t.missed ≡ missed_by (ready_tasks s))
DidAdd w call s used t (c ∷ []) = MayAdd w call s c × HasRoom s used w.limit c × (t.grew ≡ command_growth c) × (t.missed ≡ 0)
DidAdd w call s used t (c ∷ d ∷ cs) = ⊥

-- A turn that may follow a history, a log of so many bytes and so many calls of the clock, which is asked once for it. Where the disk
-- tells nothing, nothing is said of what it did.
abbrev pub MayTurn : Working → History → ℕ → ℕ → TurnTaken → Type 0
MayTurn w h used asked t = (t.asked ≡ asked_again asked) × MatchBool w.knows (DidAdd w asked (replay w.base h) used t t.added) (t ≡ no_turn t.asked)

-- so many children live, at least, when such a command is added; and at all commits of a history, summed up
abbrev pub company_by : ℕ → State Bytes → Command Bytes → ℕ
company_by slots s (Commit job phase place f moment) = min slots (length (ready_tasks s))
company_by slots s other = 0

unfoldable pub companies : ℕ → State Bytes → History → ℕ
companies slots s [] = 0
companies slots s (c ∷ cs) = company_by slots s c + companies slots (step s c) cs

-- one turn led from one moment of the account to another
pub record Goes (w : Working) (old : AccountSide) (t : TurnTaken) (new : AccountSide) : Type 0 where
  pub turned : MayTurn w old.history old.used old.asked t
  pub history : new.history ≡ old.history ++ t.added
  pub used : new.used ≡ old.used + t.grew
  pub asked : new.asked ≡ t.asked
  pub missed : RoseBy t.missed (old.tasks.waits + old.tasks.faults) (new.tasks.waits + new.tasks.faults)
  pub company : RoseBy (companies w.slots (replay w.base old.history) t.added) old.tasks.company new.tasks.company
  pub counts : NoCountFell old new

-- nothing was added; of the length of the log nothing is said
pub record Unmoved (old new : AccountSide) : Type 0 where
  pub history : new.history ≡ old.history
  pub counts : NoCountFell old new

-- nothing was added, since a command that is due has no room
pub record IsFull (w : Working) (old new : AccountSide) : Type 0 where
  pub unmoved : Unmoved old new
  pub used : new.used ≡ old.used
  pub why : w.knows ≡ true → (c : Command Bytes) × MayAdd w old.asked (replay w.base old.history) c × LacksRoom (replay w.base old.history) old.used w.limit c

-- a command of a turn that stands or not, where the disk failed
abbrev pub InDoubt : Working → AccountSide → History → Type 0
InDoubt w old [] = Unit {0}
InDoubt w old (c ∷ []) = (w.knows ≡ true) × MayAdd w old.asked (replay w.base old.history) c × HasRoom (replay w.base old.history) old.used w.limit c
InDoubt w old (c ∷ d ∷ cs) = ⊥

pub record Broke (w : Working) (old new : AccountSide) : Type 0 where
  pub last : History
  pub history : new.history ≡ old.history ++ last
  pub doubt : InDoubt w old last
  pub company : RoseBy (companies w.slots (replay w.base old.history) last) old.tasks.company new.tasks.company
  pub rose : Rose old.disk_faults new.disk_faults
  pub counts : NoCountFell old new

-- ---- a turn by its answer

abbrev pub ClosesJob : ℕ → History → Type 0
ClosesJob job h = (archive : Archive Bytes) × (moment : ℕ) × (h ≡ Close job false archive moment ∷ [])

abbrev pub CommitsTask : Task → History → Type 0
CommitsTask task h = (f : Fate Bytes) × (moment : ℕ) × (h ≡ Commit task.job task.phase task.place f moment ∷ [])

-- a turn that added this, where that is told; or nothing
abbrev pub AddsOne : Working → AccountSide → (History → Type 0) → AccountSide → Type 0
AddsOne w old Is new = (t : TurnTaken) × (w.knows ≡ true → Is t.added) × Goes w old t new

abbrev pub AddsNone : Working → AccountSide → AccountSide → Type 0
AddsNone w old new = (t : TurnTaken) × (t.added ≡ []) × Goes w old t new

abbrev pub HasReady : Working → History → Type 0
HasReady w h = w.knows ≡ true → ready_tasks (replay w.base h) ≢ []

abbrev pub TakesTurn : Working → AccountSide → Turn → AccountSide → Type 0
TakesTurn w old (turn.Closed job) new = AddsOne w old (ClosesJob job) new
TakesTurn w old (turn.Committed task) new = AddsOne w old (CommitsTask task) new
TakesTurn w old turn.Idle new = AddsNone w old new × (w.knows ≡ true → ready_tasks (replay w.base old.history) ≡ [])
TakesTurn w old turn.NotYet new = AddsNone w old new × HasReady w old.history × Rose old.tasks.waits new.tasks.waits
TakesTurn w old turn.SpawnFault new = AddsNone w old new × HasReady w old.history × Rose old.tasks.faults new.tasks.faults
TakesTurn w old turn.Full new = IsFull w old new
TakesTurn w old turn.Disk new = Broke w old new
TakesTurn w old turn.Memory new = Unmoved old new

-- ---- turns one after another, and drains

-- turns that follow one another, each of which added a command where the disk tells
abbrev pub Follow : Working → History → ℕ → ℕ → List TurnTaken → Type 0
Follow w h used asked [] = Unit {0}
Follow w h used asked (t ∷ ts) = MayTurn w h used asked t × (w.knows ≡ true → t.added ≢ []) × Follow w (h ++ t.added) (used + t.grew) t.asked ts

abbrev pub added_of : TurnTaken → History
added_of t = t.added

abbrev pub grown_by : List TurnTaken → ℕ
grown_by [] = 0
grown_by (t ∷ ts) = t.grew + grown_by ts

-- how often the clock was asked once they were taken
abbrev pub asked_behind : ℕ → List TurnTaken → ℕ
asked_behind asked [] = asked
asked_behind asked (t ∷ ts) = asked_behind t.asked ts

pub record Led (w : Working) (old : AccountSide) (ts : List TurnTaken) (new : AccountSide) : Type 0 where
  pub follow : Follow w old.history old.used old.asked ts
  pub history : new.history ≡ old.history ++ flat_map added_of ts
  pub used : new.used ≡ old.used + grown_by ts
  pub asked : new.asked ≡ asked_behind old.asked ts
  pub company : RoseBy (companies w.slots (replay w.base old.history) (flat_map added_of ts)) old.tasks.company new.tasks.company
  pub counts : NoCountFell old new

-- the answer of a turn that added a command
abbrev pub adds : Turn → Bool
adds (turn.Closed job) = true
adds (turn.Committed task) = true
adds _ = false

-- a drain of so many turns at most, by the answer of its last
pub record Drained (w : Working) (most : ℕ) (old : AccountSide) (last : Turn) (new : AccountSide) : Type 0 where
  pub turns : List TurnTaken
  pub middle : AccountSide
  pub led : Led w old turns middle
  pub few : length turns < most
  pub ends : TakesTurn w middle last new
  pub spent : adds last ≡ true → length turns + 1 ≡ most

abbrev pub most_turns : ℕ
most_turns = 1048576

-- what a crash may leave behind a turn, by its answer
abbrev pub TurnImages : Turn → State Bytes → History → (Files → Type 0) → Type 0
TurnImages turn.Disk base whole images = (c : Files) → images c → HasNearly base whole c
TurnImages _ base whole images = (c : Files) → images c → HasHistory base whole c

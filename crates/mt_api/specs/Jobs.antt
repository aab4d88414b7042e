-- What is asked of jobs: a body that is held, and what the steps of an answer ask of it.
use Rattle.std.specs.Prelude.{◌≡◌, ◌≢◌, ◌⊎◌, ℕ, ◌+◌, ◌≤◌, Bool, true, not, ◌&&◌, List, option_map, Option, Some, None, IfSome, IsTrue, is_some}
use Rattle.md5.specs.Md5.{md5}
use Rattle.mt_account.specs.Taken.{IsTaken}
use Rattle.mt_answer.specs.Answer.{stamp_of}
use Rattle.mt_answer.specs.JobAnswer.{archive_asked, brought_size, job_command_of}
use Rattle.mt_answer.specs.JobJudging.{job_refusal_of}
use Rattle.mt_answer.specs.Judging.{len_of}
use Rattle.mt_answer.specs.Posting.{posted_of}
use Rattle.mt_answer.specs.declared.posted.Posted.{Posted}
use Rattle.mt_base.specs.declared.limits.TheConstants.{LAST_MOMENT}
use Rattle.mt_body.specs.Filling.{AtEnd}
use Rattle.mt_body.specs.Stored.{IsStored, bytes_of}
use Rattle.mt_codec.specs.Spelling.{IsWithinLimits}
use Rattle.mt_disk.specs.Files.{Files}
use Rattle.mt_edge.specs.Stream.{LeftAfter}
use Rattle.mt_opening.specs.Current.{EngineIsReady, EngineState, IsWriting}
use Rattle.mt_opening.specs.History.{Bytes, History}
use Rattle.mt_engine.specs.Accepting.{HasRoomFor}
use Rattle.mt_engine.specs.Ready.{RunIsReady}
use Rattle.mt_error.specs.declared.refused.Refused.{Refused}
use Rattle.mt_http.specs.declared.message.Ending.TheVariants as ending
use Rattle.mt_http.specs.declared.stage.Stage.{Stage}
use Rattle.mt_http.specs.declared.stage.Stage.TheVariants as at
use Rattle.mt_log.specs.RunState.{RunState}
use Rattle.mt_model.specs.Bodies.{OfArchive}
use Rattle.mt_model.specs.State.{State, job_at}
use Rattle.mt_request.specs.Digest.{digest_refusal}
use Rattle.mt_request.specs.Requests.{asked_of, is_posting}
use Rattle.mt_request.specs.declared.asked.Asked.TheVariants as head
use Rattle.mt_request.specs.declared.asked.JobRequest.{JobRequest}
use Rattle.mt_request.specs.declared.jobs.JobDoing.{JobDoing}
use Rattle.mt_request.specs.declared.jobs.JobDoing.TheVariants as jobs
use Rattle.mt_types.specs.Kinds.{kind_of}
use Rattle.mt_types.specs.Limits.{is_number}
use Rattle.mt_types.specs.Values.{archive_with}
use Rattle.mt_types.specs.declared.body.Body.{Body}
use Rattle.mt_types.specs.declared.command.Archive.{Archive}
use Rattle.mt_types.specs.declared.command.Command.{Command}
use Rattle.mt_api.specs.Answered.{Asked, used}
use Rattle.mt_api.specs.Steps.{IsAll, IsFront}
use Rattle.mt_api.specs.declared.call.JobCall.{JobCall}
use Rattle.mt_api.specs.declared.hold.Filled.{Filled}
use Rattle.mt_api.specs.declared.hold.Filled.TheVariants as filled
use Rattle.mt_api.specs.declared.hold.Held.{Held}
use Rattle.mt_api.specs.declared.hold.Held.TheVariants as held

-- ---- a body that is held

-- what was read of a source
abbrev pub FillsSo : Filled → Option (List ℕ) → Option (List ℕ) → Type 0
FillsSo (filled.Ended bytes) left left' = LeftAfter left bytes left' × AtEnd left'
FillsSo filled.SourceFault left left' = (bytes : List ℕ) × LeftAfter left bytes left'
FillsSo filled.Memory left left' = Unit {0}

-- which bytes were read of a body, and are held where it is whole
abbrev pub HoldsSo : Held → Option (List ℕ) → Bytes → Type 0
HoldsSo (held.Whole is) left bytes = IsAll left bytes × (is ≡ bytes)
HoldsSo (held.Unfinished e) left bytes = IsAll left bytes
HoldsSo held.SourceFault left bytes = IsFront left bytes
HoldsSo held.Memory left bytes = Unit {0}

-- the stage of its stream behind it
abbrev pub HeldEnds : Held → Stage → Type 0
HeldEnds (held.Whole is) stage = stage ≡ at.Over ending.Whole
HeldEnds (held.Unfinished e) stage = (stage ≡ at.Over e) × (e ≢ ending.Whole)
HeldEnds held.SourceFault stage = Unit {0}
HeldEnds held.Memory stage = Unit {0}

-- a body is held that is a document or lines, and isn't refused whatever it is
abbrev pub holds_body : JobRequest → Bool
holds_body request = is_posting request.doing && not (is_some (digest_refusal request.wish None))

-- ---- a call

-- a call is what the head of one of this login asks of jobs
pub record IsJobCallOf (login : List ℕ) (asked : Asked) (engine : EngineState) (call : JobCall) : Type 0 where
  pub login_is : asked.login ≡ login
  pub asks : asked_of asked.login asked.head ≡ head.Jobs call.request
  pub stamp : call.stamp ≡ stamp_of asked.head engine.state.count asked.moment

-- why it is refused, whose body asks for this and has this digest
abbrev pub job_refusal : EngineState → JobRequest → Posted → Option (List ℕ) → Option Refused
job_refusal engine request posted digest = job_refusal_of len_of request engine.state posted digest

-- it isn't, by what is known of its body
abbrev pub JobIsTaken : EngineState → JobRequest → Posted → Type 0
JobIsTaken engine request posted = (digest : Option (List ℕ)) × (job_refusal engine request posted digest ≡ None)

-- its body asks for this, or is refused whatever it is
abbrev pub AsksFor : List ℕ → JobRequest → Posted → Bytes → Type 0
AsksFor login request posted bytes = (posted ≡ posted_of login request.doing bytes) ⊎ (is_some (digest_refusal request.wish None) ≡ true)

-- the job that is to be cancelled
abbrev pub cancelled_job : JobDoing → Option ℕ
cancelled_job (jobs.CancelJob job) = job
cancelled_job jobs.MakeJob = None
cancelled_job (jobs.PostLines job) = None
cancelled_job (jobs.EndInput job) = None
cancelled_job (jobs.LookLive job text) = None
cancelled_job (jobs.ListJobs stand page) = None

-- it cancels this job, which is there
pub record CancelsJob (engine : EngineState) (call : JobCall) (job : ℕ) : Type 0 where
  pub is : call.request.doing ≡ jobs.CancelJob (Some job)
  pub found : is_some (job_at engine.state.jobs job) ≡ true
  pub number : IsTrue (is_number job)

-- ---- engines

-- a call over an engine without a run
pub record JobCallIsReady {D : Type 0} (seen : D → Option Files) (may_leave : D → Files → Type 0) (disk : D) (engine : EngineState) (call : JobCall) : Type 0 where
  pub over : EngineIsReady seen may_leave disk engine
  pub moment : call.stamp.moment ≤ LAST_MOMENT

-- and one within a run, with its command
pub record JobInRun {D : Type 0} (seen : D → Option Files) (may_leave : D → Files → Type 0) (disk : D) (engine : EngineState) (run : RunState) (call : JobCall) (command : Command Body) : Type 0 where
  pub over : RunIsReady seen may_leave disk engine run
  pub moment : call.stamp.moment ≤ LAST_MOMENT
  pub kind : IsTaken (kind_of command)
  pub limits : IsWithinLimits command

-- A run that is to end with the command of what is asked of jobs, which isn't refused: it has taken the texts of a job that is cancelled, where
-- they and the command have room, and nothing else.
pub record JobIsReady (seen : Option Files) (engine : EngineState) (run : RunState) (base : State Bytes) (h : History) (qs : List (List ℕ)) (login : List ℕ) (call : JobCall) (archive : Option (Archive Body)) (command : Command Body) (bytes : Bytes) : Type 0 where
  pub writing : IsWriting seen engine run base h qs
  pub none : job_refusal engine call.request (posted_of login call.request.doing bytes) (Some (md5 bytes)) ≡ None
  pub is : job_command_of call.request.doing (posted_of login call.request.doing bytes) archive call.stamp.moment ≡ Some command
  pub brings : option_map (archive_with (bytes_of qs)) archive ≡ archive_asked login engine.state call.request.doing call.stamp.moment
  pub stored : IfSome archive (OfArchive (IsStored qs))
  pub next : run.next + 1 ≡ used engine + brought_size len_of archive
  pub room : is_some archive ≡ true → HasRoomFor engine (brought_size len_of archive) command

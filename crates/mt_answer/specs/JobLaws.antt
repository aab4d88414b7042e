-- What is asked of jobs: what commands and replies need, and what holds of refusals and answers.
use Rattle.std.specs.Prelude.{◌≡◌, ◌≤◌, ◌<◌, ◌^◌, ◌+◌, ◌⊎◌, ℕ, ⊤, IsTrue, IfSome, false, List, [], ◌∷◌, length, option_map, Option, Some, None}
use Rattle.std.specs.List.{AllByRecursion}
use Rattle.md5.specs.Md5.{md5}
use Rattle.mt_codec.specs.Spelling.{FitsDocument, FitsLine}
use Rattle.mt_error.specs.Refusals.{plain}
use Rattle.mt_error.specs.declared.code.ErrorCode.TheVariants as error
use Rattle.mt_error.specs.declared.refused.Refused.{Refused}
use Rattle.mt_http.specs.declared.message.Head.{Head}
use Rattle.mt_jobtext.specs.Archives.{HasTexts}
use Rattle.mt_jobtext.specs.Pieces.{IsShowable}
use Rattle.mt_model.specs.Bodies.{state_with}
use Rattle.mt_model.specs.CommandStep.{allowed}
use Rattle.mt_model.specs.Finished.{live_out}
use Rattle.mt_model.specs.Keeping.{KeepsLimits}
use Rattle.mt_model.specs.Lawful.{Lawful}
use Rattle.mt_model.specs.Laws.{KeepsSize, Reading}
use Rattle.mt_model.specs.Limits.{most_inputs}
use Rattle.mt_model.specs.State.{State, job_at}
use Rattle.mt_request.specs.declared.asked.JobRequest.{JobRequest}
use Rattle.mt_request.specs.declared.jobs.JobDoing.{JobDoing}
use Rattle.mt_request.specs.declared.jobs.JobDoing.TheVariants as jobs
use Rattle.mt_types.specs.Values.{archive_with, command_with, reply_with}
use Rattle.mt_types.specs.Kinds.{Kind, OnRows, OnJobs, OnEnds, OnUploads}
use Rattle.mt_types.specs.Limits.{is_number}
use Rattle.mt_types.specs.declared.body.Body.{Body}
use Rattle.mt_types.specs.declared.command.Archive.{Archive}
use Rattle.mt_types.specs.declared.command.Command.{Command}
use Rattle.mt_types.specs.declared.job.Job.{Job}
use Rattle.mt_types.specs.declared.limits.TheConstants.{MOST_COMMANDS}
use Rattle.mt_types.specs.declared.live.LiveText.TheVariants as live
use Rattle.mt_types.specs.declared.reply.ReplyBody.TheVariants.{Held}
use Rattle.mt_answer.specs.Answer.{Answer, answer_with, stamp_of}
use Rattle.mt_answer.specs.JobAnswer.{archive_asked, job_answer_in, job_answer_of, job_command_of, job_growth, job_reply_to, refuse_job}
use Rattle.mt_answer.specs.JobJudging.{job_refusal_of}
use Rattle.mt_answer.specs.Judging.{len_of}
use Rattle.mt_answer.specs.Posting.{posted_lines, posted_of}
use Rattle.mt_answer.specs.declared.posted.Posted.{Posted}
use Rattle.mt_answer.specs.declared.posted.Posted.TheVariants as posted

-- ---- what commands and replies need

-- what a body asks for is within the limits of a command: a document is one, and lines are few enough, each a path or a text of one line
abbrev pub FitsPosted : Posted → Type 0
FitsPosted posted.Nothing = ⊤
FitsPosted (posted.Document d) = FitsDocument false d
FitsPosted posted.NoDocument = ⊤
FitsPosted (posted.Lines lines) = (length lines ≤ most_inputs) × AllByRecursion (FitsLine false) lines
FitsPosted posted.TooMany = ⊤
FitsPosted posted.NoText = ⊤

-- a job that is changed has a number of jobs
abbrev pub NamesNumber : JobDoing → Type 0
NamesNumber jobs.MakeJob = ⊤
NamesNumber (jobs.PostLines job) = IfSome job (λ n. IsTrue (is_number n))
NamesNumber (jobs.EndInput job) = IfSome job (λ n. IsTrue (is_number n))
NamesNumber (jobs.CancelJob job) = IfSome job (λ n. IsTrue (is_number n))
NamesNumber (jobs.LookLive job text) = ⊤
NamesNumber (jobs.ListJobs stand page) = ⊤

-- a command is about a job that runs, or about its end
abbrev pub IsKindOfJobs : Kind → Type 0
IsKindOfJobs OnJobs = ⊤
IsKindOfJobs OnEnds = ⊤
IsKindOfJobs OnRows = ⊥
IsKindOfJobs OnUploads = ⊥

-- each job can be told: its number has an identifier, and its moments dates
abbrev pub AreShowable : {B : Type 0} → List (Job B) → Type 0
AreShowable js = AllByRecursion IsShowable js

-- ---- over references and over bytes

-- what is asked of jobs is refused for the same cause over both
abbrev pub JobRefusalsAreRead : Type 0
JobRefusalsAreRead = (read : Reading) → KeepsSize read → (request : JobRequest) (s : State Body) (p : Posted) (digest : Option (List ℕ))
    → job_refusal_of length request (state_with read s) p digest ≡ job_refusal_of len_of request s p digest

-- what a body of fewer than 2^32 bytes asks for is within limits
abbrev pub PostedIsWithin : Type 0
PostedIsWithin = (login : List ℕ) (d : JobDoing) (body : List ℕ) → length body < 2 ^ 32 → FitsPosted (posted_of login d body)

-- of `a` CR LF, CR LF, LF, `b` CR CR LF, `c` CR the lines are `a`, `b` CR and `c` CR
abbrev pub LinesAreSplit : Type 0
LinesAreSplit = posted_lines (97 ∷ 13 ∷ 10 ∷ 13 ∷ 10 ∷ 10 ∷ 98 ∷ 13 ∷ 13 ∷ 10 ∷ 99 ∷ 13 ∷ []) ≡ (97 ∷ []) ∷ (98 ∷ 13 ∷ []) ∷ (99 ∷ 13 ∷ []) ∷ []

-- the answer over bytes is that over references, where the five bodies that a cancel brings stand for the texts of the job
abbrev pub JobAnswersAreRead : Type 0
JobAnswersAreRead = (read : Reading) → KeepsSize read → (login : List ℕ) (limit : ℕ) (s : State Body) (used : ℕ) (head : Head) (request : JobRequest) (bytes : List ℕ) (moment : ℕ)
    (archive : Option (Archive Body)) → option_map (archive_with read) archive ≡ archive_asked login s request.doing moment
    → job_answer_of login limit (state_with read s) used head request bytes moment
    ≡ answer_with read (job_answer_in len_of login limit (stamp_of head s.count moment) s used request (posted_of login request.doing bytes) (md5 bytes) archive)

-- what is refused for this cause
abbrev pub JobRefusedIsRead : Type 0
JobRefusedIsRead = (read : Reading) → KeepsSize read → (login : List ℕ) (limit : ℕ) (s : State Body) (used : ℕ) (head : Head) (request : JobRequest) (bytes : List ℕ) (moment : ℕ) (r : Refused)
    → job_refusal_of len_of request s (posted_of login request.doing bytes) (Some (md5 bytes)) ≡ Some r
    → job_answer_of login limit (state_with read s) used head request bytes moment ≡ refuse_job (stamp_of head s.count moment) r

-- what isn't refused and needs no command
abbrev pub JobShownIsRead : Type 0
JobShownIsRead = (read : Reading) → KeepsSize read → (login : List ℕ) (limit : ℕ) (s : State Body) (used : ℕ) (head : Head) (request : JobRequest) (bytes : List ℕ) (moment : ℕ)
    (archive : Option (Archive Body)) → option_map (archive_with read) archive ≡ archive_asked login s request.doing moment
    → job_refusal_of len_of request s (posted_of login request.doing bytes) (Some (md5 bytes)) ≡ None
    → job_command_of {B = Body} request.doing (posted_of login request.doing bytes) archive moment ≡ None
    → job_answer_of login limit (state_with read s) used head request bytes moment
    ≡ record { reply = reply_with read (job_reply_to login (stamp_of head s.count moment) s request.doing); added = []; grew = 0 }

-- whose command has room
abbrev pub JobAddedIsRead : Type 0
JobAddedIsRead = (read : Reading) → KeepsSize read → (login : List ℕ) (limit : ℕ) (s : State Body) (used : ℕ) (head : Head) (request : JobRequest) (bytes : List ℕ) (moment : ℕ)
    (archive : Option (Archive Body)) (command : Command Body) → option_map (archive_with read) archive ≡ archive_asked login s request.doing moment
    → job_refusal_of len_of request s (posted_of login request.doing bytes) (Some (md5 bytes)) ≡ None
    → job_command_of request.doing (posted_of login request.doing bytes) archive moment ≡ Some command
    → s.count < MOST_COMMANDS → used + job_growth len_of archive command ≤ limit
    → job_answer_of login limit (state_with read s) used head request bytes moment ≡ record {
      reply = reply_with read (job_reply_to login (stamp_of head (s.count + 1) moment) s request.doing);
      added = command_with read command ∷ [];
      grew = job_growth len_of archive command;
    }

-- whose command, with the texts of a job that it ends, has no room
abbrev pub JobFullIsRead : Type 0
JobFullIsRead = (read : Reading) → KeepsSize read → (login : List ℕ) (limit : ℕ) (s : State Body) (used : ℕ) (head : Head) (request : JobRequest) (bytes : List ℕ) (moment : ℕ)
    (command : Command (List ℕ)) → job_refusal_of len_of request s (posted_of login request.doing bytes) (Some (md5 bytes)) ≡ None
    → job_command_of request.doing (posted_of login request.doing bytes) (archive_asked login s request.doing moment) moment ≡ Some command
    → (MOST_COMMANDS ≤ s.count) ⊎ (limit < used + job_growth length (archive_asked login s request.doing moment) command)
    → job_answer_of login limit (state_with read s) used head request bytes moment ≡ refuse_job (stamp_of head s.count moment) (plain error.NotEnoughSpace)

-- ---- refusals and commands

-- the account takes the command of what isn't refused
abbrev pub JobDoneIsAllowed : Type 0
JobDoneIsAllowed = (request : JobRequest) (s : State Body) (p : Posted) (digest : Option (List ℕ)) (archive : Option (Archive Body)) (moment : ℕ) (command : Command Body)
    → job_refusal_of len_of request s p digest ≡ None → job_command_of request.doing p archive moment ≡ Some command → allowed len_of s command ≡ None

-- a job that is to be changed, where that isn't refused, has a number of jobs
abbrev pub JobNumberIsOne : Type 0
JobNumberIsOne = (request : JobRequest) (s : State Body) (p : Posted) (digest : Option (List ℕ)) → Lawful s → s.count ≤ MOST_COMMANDS
    → job_refusal_of len_of request s p digest ≡ None → NamesNumber request.doing

-- a job that ends leaves its five texts, as it is then
abbrev pub CancelsHaveTexts : Type 0
CancelsHaveTexts = (login : List ℕ) (limit : ℕ) (s : State (List ℕ)) (used : ℕ) (head : Head) (request : JobRequest) (body : List ℕ) (moment : ℕ) (command : Command (List ℕ))
    → (job_answer_of login limit s used head request body moment).added ≡ command ∷ [] → HasTexts login s command

-- ---- what is told

-- an answer tells a text, and adds nothing
pub record IsTold (a : Answer (List ℕ)) (text : List ℕ) : Type 0 where
  pub status : a.reply.status ≡ 200
  pub body : a.reply.body ≡ Held text
  pub nothing : a.added ≡ []

-- the names of the outputs of a job, at a request that isn't refused
abbrev pub OutputsAreTold : Type 0
OutputsAreTold = (login : List ℕ) (limit : ℕ) (s : State (List ℕ)) (used : ℕ) (head : Head) (request : JobRequest) (body : List ℕ) (moment n : ℕ) (job : Job (List ℕ))
    → request.doing ≡ jobs.LookLive (Some n) live.Out → job_at s.jobs n ≡ Some job
    → job_refusal_of length request s (posted_of login request.doing body) (Some (md5 body)) ≡ None
    → IsTold (job_answer_of login limit s used head request body moment) (live_out login job)

-- in a lawful state within its limits each job can be told
abbrev pub LawfulIsShowable : Type 0
LawfulIsShowable = (s : State Body) → Lawful s → KeepsLimits s → s.count ≤ MOST_COMMANDS → AreShowable s.jobs

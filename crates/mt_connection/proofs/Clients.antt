-- What a request adds is the command of a client: no commit of a task, and no end of a job but where it is cancelled.
use Rattle.std.proofs.Common.{◌≡◌, ℕ, Bool, true, false, length, Option, Some, None, refl}
use Rattle.std.specs.Prelude.{IfSome}
use Rattle.std.specs.List.{AllByRecursion}
use Rattle.md5.specs.Md5.{md5}
use Rattle.mt_answer.specs.Answer.{Answer, accept, add_if, answer_by, answer_in, command_of, has_room, make_command, rows_answer_of, stamp_of}
use Rattle.mt_answer.specs.JobAnswer.{add_lines, archive_asked, close_job, job_accept, job_add_if, job_answer_by, job_answer_in, job_answer_of, job_command_of, job_growth, job_has_room, make_job}
use Rattle.mt_answer.specs.JobJudging.{job_refusal_of}
use Rattle.mt_answer.specs.Judging.{refusal_of}
use Rattle.mt_answer.specs.Posting.{posted_of}
use Rattle.mt_answer.specs.Whole.{answer_asked, answer_of}
use Rattle.mt_answer.specs.declared.posted.Posted.{Posted}
use Rattle.mt_answer.specs.declared.posted.Posted.TheVariants as posted
use Rattle.mt_cond.specs.Conditions.{conditions_of}
use Rattle.mt_cond.specs.declared.conditions.Conditions.{Conditions}
use Rattle.mt_opening.specs.History.{Bytes, History}
use Rattle.mt_error.specs.declared.refused.Refused.{Refused}
use Rattle.mt_http.specs.declared.message.Head.{Head}
use Rattle.mt_lives.specs.World.{is_of_client}
use Rattle.mt_model.specs.Rows.{at, is_directory}
use Rattle.mt_model.specs.State.{State}
use Rattle.mt_path.specs.AccountPath.{AccountPath}
use Rattle.mt_reply.specs.declared.stamp.Stamp.{Stamp}
use Rattle.mt_request.specs.Requests.{asked_of}
use Rattle.mt_request.specs.declared.asked.Asked.{Asked}
use Rattle.mt_request.specs.declared.asked.Asked.TheVariants as asked
use Rattle.mt_request.specs.declared.asked.JobRequest.{JobRequest}
use Rattle.mt_request.specs.declared.jobs.JobDoing.{JobDoing}
use Rattle.mt_request.specs.declared.jobs.JobDoing.TheVariants as jobs
use Rattle.mt_request.specs.declared.request.Doing.{Doing}
use Rattle.mt_request.specs.declared.request.Doing.TheVariants as doing
use Rattle.mt_request.specs.declared.request.Request.{Request}
use Rattle.mt_types.specs.declared.command.Archive.{Archive}
use Rattle.mt_types.specs.declared.command.Command.{Command}
use Rattle.mt_types.specs.declared.reply.Reply.{Reply}

abbrev pub IsClients : Command Bytes → Type 0
IsClients c = is_of_client c ≡ true

abbrev pub AreClients : History → Type 0
AreClients cs = AllByRecursion IsClients cs

-- ---- of objects and directories

directory : (there : Bool) (p : AccountPath) (moment : ℕ) → IfSome (make_command {B = Bytes} there p moment) IsClients
directory true p moment = tt
directory false p moment = refl

of_doing : (s : State Bytes) (d : Doing) (body : Bytes) (moment : ℕ) → IfSome (command_of s.rows d body moment) IsClients
of_doing s doing.Nothing body moment = tt
of_doing s (doing.PutObject p content_type durability metadata) body moment = refl
of_doing s (doing.PutDirectory p) body moment = directory (is_directory (at s.rows p)) p moment
of_doing s (doing.PutLink p source) body moment = refl
of_doing s (doing.Remove p) body moment = refl
of_doing s (doing.Look p page range) body moment = tt

added : (b : Bool) (command : Command Bytes) (len : ℕ) (reply : Reply Bytes) (full : Answer Bytes) → IsClients command → AreClients full.added → AreClients (add_if b command len reply full).added
added true command len reply full is none = (is, tt)
added false command len reply full is none = none

module _ (limit : ℕ) (stamp : Stamp) (s : State Bytes) (c : Conditions) (used : ℕ) where
  accepted : (d : Doing) (sum : Bytes) (len : ℕ) (o : Option (Command Bytes)) → IfSome o IsClients → AreClients (accept length md5 limit stamp s c used d sum len o).added
  accepted d sum len None is = tt
  accepted d sum len (Some command) is = added (has_room limit s.count used len command) command len _ _ is tt

  answered : (request : Request) (body sum : Bytes) (o : Option Refused) → AreClients (answer_by length md5 limit stamp s c used request body sum o).added
  answered request body sum (Some r) = tt
  answered request body sum None = accepted request.doing sum _ (command_of s.rows request.doing body stamp.moment) (of_doing s request.doing body stamp.moment)

of_rows : (request : Request) (limit : ℕ) (s : State Bytes) (used : ℕ) (head : Head) (body : Bytes) (moment : ℕ) → AreClients (rows_answer_of request limit s used head body moment).added
unfolding rows_answer_of answer_in
of_rows request limit s used head body moment =
    answered limit (stamp_of head s.count moment) s (conditions_of head.fields) used request body (md5 body) (refusal_of length request s.rows (conditions_of head.fields) (Some (md5 body)))

-- ---- of jobs

made : (p : Posted) (moment : ℕ) → IfSome (make_job {B = Bytes} p moment) IsClients
made (posted.Document d) moment = refl
made p moment = tt

lined : (job : ℕ) (p : Posted) (moment : ℕ) → IfSome (add_lines {B = Bytes} job p moment) IsClients
lined job (posted.Lines lines) moment = refl
lined job p moment = tt

closed : (job : ℕ) (archive : Option (Archive Bytes)) (moment : ℕ) → IfSome (close_job job archive moment) IsClients
closed job (Some archive) moment = refl
closed job None moment = tt

of_job_doing : (d : JobDoing) (p : Posted) (archive : Option (Archive Bytes)) (moment : ℕ) → IfSome (job_command_of d p archive moment) IsClients
of_job_doing jobs.MakeJob p archive moment = made p moment
of_job_doing (jobs.PostLines (Some job)) p archive moment = lined job p moment
of_job_doing (jobs.EndInput (Some job)) p archive moment = refl
of_job_doing (jobs.CancelJob (Some job)) p archive moment = closed job archive moment
of_job_doing d p archive moment = tt

job_added : (b : Bool) (command : Command Bytes) (grew : ℕ) (reply : Reply Bytes) (full : Answer Bytes) → IsClients command → AreClients full.added → AreClients (job_add_if b command grew reply full).added
job_added true command grew reply full is none = (is, tt)
job_added false command grew reply full is none = none

module _ (login : Bytes) (limit : ℕ) (stamp : Stamp) (s : State Bytes) (used : ℕ) (archive : Option (Archive Bytes)) where
  job_accepted : (d : JobDoing) (o : Option (Command Bytes)) → IfSome o IsClients → AreClients (job_accept length login limit stamp s used d archive o).added
  job_accepted d None is = tt
  job_accepted d (Some command) is = job_added (job_has_room length limit s.count used archive command) command (job_growth length archive command) _ _ is tt

  job_answered : (request : JobRequest) (p : Posted) (o : Option Refused) → AreClients (job_answer_by length login limit stamp s used request p archive o).added
  job_answered request p (Some r) = tt
  job_answered request p None = job_accepted request.doing (job_command_of request.doing p archive stamp.moment) (of_job_doing request.doing p archive stamp.moment)

of_jobs : (login : Bytes) (limit : ℕ) (s : State Bytes) (used : ℕ) (head : Head) (request : JobRequest) (body : Bytes) (moment : ℕ) → AreClients (job_answer_of login limit s used head request body moment).added
unfolding job_answer_of job_answer_in
of_jobs login limit s used head request body moment =
    job_answered login limit (stamp_of head s.count moment) s used (archive_asked login s request.doing moment) request (posted_of login request.doing body)
    (job_refusal_of length request s (posted_of login request.doing body) (Some (md5 body)))

of_asked : (login : Bytes) (limit : ℕ) (s : State Bytes) (used : ℕ) (head : Head) (body : Bytes) (moment : ℕ) (a : Asked) → AreClients (answer_asked login limit s used head body moment a).added
of_asked login limit s used head body moment (asked.Rows request) = of_rows request limit s used head body moment
of_asked login limit s used head body moment (asked.Jobs request) = of_jobs login limit s used head request body moment

pub answers_of_clients : (login : Bytes) (limit : ℕ) (s : State Bytes) (used : ℕ) (head : Head) (body : Bytes) (moment : ℕ) → AreClients (answer_of login limit s used head body moment).added
unfolding answer_of
answers_of_clients login limit s used head body moment = of_asked login limit s used head body moment (asked_of login head)
